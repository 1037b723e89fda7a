-- `times` meets its contract: the low word's product carries into the high word's.
use mathlib.Core.Path.{◌≡◌, ◌∙◌, ap, ap₂}
use Prim.Native.Nat.{ℕ, ◌+◌, ◌^◌, ◌<◌}
use native.Mathlib.Nat.{mul-le-mul, le_of_lt}
use native.Mathlib.Omega.{arith}
use borrow.Author.Rules.{rules}
use lib.IntN.{pos, ◌+ℤ◌, ◌*ℤ◌}
use mir.Syntax.{w64}
use mir.Val.{to_z, of_z}
use mir.Facts.{to_z-of_z, to_z_pos}
use Rattle.integers.specs.Size as Size
use Rattle.integers.specs.Size.{◌within◌, ◌⟨+⟩◌, natural, wide}
use Rattle.integers.specs.Solve.{◌⊕◌, ◌⊗◌, #◌, ◌≐◌, solve}
use Rattle.model.specs.declared.Wide.{Wide}
use Rattle.wide.specs.Words.{high_size, high-within, high-part-within}
use Rattle.wide.proofs.product.times.Goals as goal
use Rattle.wide.proofs.product.times.Goals.{After-struct_told-2-1, Start}

module _ (c : After-struct_told-2-1) where
  abbrev k : Start
  k = c.before.before.before

  abbrev a : Wide
  a = k.args.a

  abbrev m : ℕ
  m = k.args.m

  abbrev rest : Wide
  rest = c.small_product-rest.result

  low-a : a.low < 2 ^ 64
  low-a = let h = k.well_formed in search rules

  high-a : to_z w64 (of_z w64 a.high) ≡ a.high
  high-a = let h = k.well_formed in search rules

  small : m < 2 ^ 32
  small = search rules

  low-rest : rest.low < 2 ^ 64
  low-rest = search rules

  part-within : (a.high *ℤ pos m) within (2 ^ 60 + 2 ^ 32)
  part-within = high-part-within a m low-a small k.requires

  carry-within : rest.high within high_size
  carry-within = high-within rest low-rest (rw c.small_product-rest.ensures (wide (natural (mul-le-mul (le_of_lt low-a) (le_of_lt small))) tt))

  factors : to_z w64 (of_z w64 a.high) *ℤ to_z w64 m ≡ a.high *ℤ pos m
  factors = ap₂ (λ y z. y *ℤ z) high-a (to_z_pos w64 (omega (arith, small)))

  part : to_z w64 (of_z w64 (to_z w64 (of_z w64 a.high) *ℤ to_z w64 m)) ≡ a.high *ℤ pos m
  part = ap (λ z. to_z w64 (of_z w64 z)) factors ∙ to_z-of_z {w = w64} (Size.fits part-within tt)

  carry : to_z w64 (of_z w64 rest.high) ≡ rest.high
  carry = to_z-of_z {w = w64} (Size.fits carry-within tt)

  both : to_z w64 (of_z w64 (to_z w64 (of_z w64 a.high) *ℤ to_z w64 m)) +ℤ to_z w64 (of_z w64 rest.high) ≡ a.high *ℤ pos m +ℤ rest.high
  both = ap₂ (λ y z. y +ℤ z) part carry

pub returns : goal.returns
returns c =
    ap (λ h. h *ℤ pos (2 ^ 64) +ℤ pos (rest c).low) (ap (λ z. to_z w64 (of_z w64 z)) (both c) ∙ to_z-of_z {w = w64} (Size.fits (part-within c ⟨+⟩ carry-within c) tt))
    ∙ solve 4 (λ h m r l. (h ⊗ m ⊕ r) ⊗ # (2 ^ 64) ⊕ l ≐ h ⊗ m ⊗ # (2 ^ 64) ⊕ (r ⊗ # (2 ^ 64) ⊕ l)) tt (a c).high (pos (m c)) (rest c).high (pos (rest c).low)
    ∙ ap (λ v. (a c).high *ℤ pos (m c) *ℤ pos (2 ^ 64) +ℤ v) c.small_product-rest.ensures
    ∙ solve 3 (λ h m l. h ⊗ m ⊗ # (2 ^ 64) ⊕ l ⊗ m ≐ (h ⊗ # (2 ^ 64) ⊕ l) ⊗ m) tt (a c).high (pos (m c)) (pos (a c).low)

pub overflow_mul-result : goal.overflow_mul-result
overflow_mul-result c = rw (factors c) (Size.fits (part-within c) tt)

pub overflow_add-result : goal.overflow_add-result
overflow_add-result c = rw (both c) (Size.fits (part-within c ⟨+⟩ carry-within c) tt)
