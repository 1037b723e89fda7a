-- `product` meets its contract: the product with each half of b, added.
use mathlib.Core.Path.{◌≡◌, sym, ◌∙◌, ap, ap₂}
use mathlib.Core.List.{[], ◌∷◌}
use Prim.Native.Nat.{ℕ, ◌^◌, ◌<◌}
use native.Mathlib.Nat.{le_of_lt}
use lib.Dec.{lit<}
use lib.IntN.{ℤ, pos, ◌+ℤ◌, ◌-ℤ◌, ◌*ℤ◌}
use lib.Signed.{shr_z}
use mir.Syntax.{w64}
use mir.Val.{to_z, of_z}
use mir.Facts.{to_z-of_z}
use Rattle.integers.specs.Size as Size
use Rattle.integers.specs.Size.{◌within◌, ◌⟨*⟩◌, natural, num, wide}
use Rattle.integers.specs.Machine.{Code, var, ♯◌, ◌⊟◌, ◌⊠◌, ◌≫◌, Within, ∅, ◌▹◌, held, fits, result, sized}
use Rattle.integers.specs.Solve.{◌⊕◌, ◌⊖◌, ◌⊗◌, #◌, ◌≐◌, solve}
use Rattle.wide.specs.Words.{halves}
use Rattle.wide.proofs.product.product.Goals as goal
use Rattle.wide.proofs.product.product.Goals.{Start}

abbrev upper : Code
upper = var 1 ≫ 24

abbrev rest : Code
rest = var 1 ⊟ upper ⊠ ♯ (2 ^ 24)

module _ (k : Start) where
  abbrev a : ℤ
  a = k.args.a

  abbrev b : ℤ
  b = k.args.b

  ρ : Within (a ∷ b ∷ []) (2 ^ 34 ∷ 2 ^ 50 ∷ [])
  ρ = k.requires.0 ▹ k.requires.1 ▹ ∅

  abbrev high : ℤ
  high = shr_z b (2 ^ 24)

  low : (n : ℕ) × ((b -ℤ high *ℤ pos (2 ^ 24) ≡ pos n) × (n < 2 ^ 24))
  low = halves (2 ^ 24) (lit< tt) b

  high-within : (a *ℤ high) within 2 ^ 61
  high-within = wide (sized ρ (var 0 ⊠ upper)) tt

  low-within : (a *ℤ pos low.0) within 2 ^ 62
  low-within = wide (k.requires.0 ⟨*⟩ natural (le_of_lt low.1.1)) tt

  high_is : held (a ∷ b ∷ []) w64 (var 0 ⊠ upper) ≡ a *ℤ high
  high_is = result ρ w64 (var 0 ⊠ upper) tt

  factors : to_z w64 (of_z w64 a) *ℤ held (a ∷ b ∷ []) w64 rest ≡ a *ℤ pos low.0
  factors = ap₂ (λ y z. y *ℤ z) (to_z-of_z k.ranges.a) (result ρ w64 rest tt ∙ low.1.0)

  low_is : to_z w64 (of_z w64 (to_z w64 (of_z w64 a) *ℤ held (a ∷ b ∷ []) w64 rest)) ≡ a *ℤ pos low.0
  low_is = ap (λ z. to_z w64 (of_z w64 z)) factors ∙ to_z-of_z {w = w64} (Size.fits low-within tt)

pub raised-requires : goal.raised-requires
raised-requires k = rw (high_is k) (wide (high-within k) tt)

pub returns : goal.returns
returns c =
    let k = c.before.before.before in
    c.add.ensures
    ∙ ap₂ (λ x y. x +ℤ y) (c.raised.ensures ∙ ap (λ z. z *ℤ pos (2 ^ 24)) (high_is k)) (c.from.ensures ∙ low_is k ∙ ap (λ z. a k *ℤ z) (sym (low k).1.0))
    ∙ solve 3 (λ a b h. a ⊗ h ⊗ # (2 ^ 24) ⊕ a ⊗ (b ⊖ h ⊗ # (2 ^ 24)) ≐ a ⊗ b) tt (a k) (b k) (high k)

pub overflow_mul-a : goal.overflow_mul-a
overflow_mul-a k = fits (ρ k) w64 (var 0 ⊠ upper) tt

pub overflow_mul-a-2 : goal.overflow_mul-a-2
overflow_mul-a-2 c = rw (factors c.before) (Size.fits (low-within c.before) tt)
