-- `raised_product` meets its contract.
use mathlib.Core.Path.{◌≡◌, ◌∙◌, ap}
use mathlib.Core.List.{[], ◌∷◌}
use Prim.Native.Nat.{ℕ, ◌*◌, ◌^◌}
use lib.Dec.{ltb→lt}
use lib.IntN.{pos, nat_abs, ◌+ℤ◌, ◌*ℤ◌}
use lib.Signed.{◌≤ℤ◌}
use native.Mathlib.Nat.{lt_of_le_of_lt}
use mir.Syntax.{w32, w64}
use mir.Val.{to_z, of_z}
use mir.Facts.{to_z-of_z}
use Rattle.integers.specs.Derive.{deduce, times, ◌⊢◌, ◌≼◌}
use Rattle.integers.specs.Solve.{◌⊕◌, ⊝◌, #◌}
use Rattle.integers.specs.Order.{nat_abs-≤, pos-≤}
use Rattle.integers.specs.Size.{◌within◌, natural, weaken, size-nonneg, ◌⟨*⟩◌}
use Rattle.integers.specs.Size as Size
use Rattle.integers.specs.Machine.{Code, var, nat, ◌⊞◌, Within, ∅, ◌▹◌, fits, result, index, held-within}
use Rattle.motion.proofs.weighted.raised_product.Goals as goal
use Rattle.motion.proofs.weighted.raised_product.Goals.{Start}

abbrev sum : Code
sum = var 0 ⊞ nat 1

module _ (c : Start) where
  ρ : Within (c.args.x ∷ pos c.args.low ∷ []) (2097152 ∷ 2097152 ∷ [])
  ρ = weaken c.requires.1 c.requires.2 ▹ natural c.requires.2 ▹ ∅

  not_negative : pos 0 ≤ℤ (c.args.x +ℤ pos c.args.low)
  not_negative = deduce 3 (λ x a n. times 1 (⊝ a ≼ x) ∷ times 1 (a ≼ n) ∷ [] ⊢ # 0 ≼ x ⊕ n) tt c.args.x (pos (nat_abs c.args.x)) (pos c.args.low) (nat_abs-≤ c.args.x) (pos-≤ c.requires.1.size)

  -- the raised number, as the code has it
  abbrev raised : ℕ
  raised = nat_abs (to_z w32 (of_z w32 (to_z w32 (of_z w32 c.args.x) +ℤ to_z w32 (of_z w32 (pos c.args.low)))))

  raised_is : pos raised ≡ c.args.x +ℤ pos c.args.low
  raised_is = ap (λ z. pos (nat_abs z)) (result ρ w32 sum tt) ∙ size-nonneg not_negative

  product-size : (pos c.args.factor *ℤ pos raised) within (8192 * 4194304)
  product-size = natural c.requires.0 ⟨*⟩ natural (held-within ρ w32 sum tt).size

pub returns : goal.returns
returns c = to_z-of_z {w = w64} (Size.fits (product-size c) tt) ∙ ap (λ z. pos c.args.factor *ℤ z) (raised_is c)

pub overflow_cast-raised : goal.overflow_cast-raised
overflow_cast-raised c = fits (ρ c) w32 (nat 1) tt

pub overflow_add-raised : goal.overflow_add-raised
overflow_add-raised c = fits (ρ c) w32 sum tt

pub overflow_cast-raised-2 : goal.overflow_cast-raised-2
overflow_cast-raised-2 c = index (ρ c) w32 w32 sum tt tt (not_negative c)

pub overflow_cast-result-2 : goal.overflow_cast-result-2
overflow_cast-result-2 c = (index (ρ c) w32 w64 sum tt tt (not_negative c)).1

pub overflow_mul-result : goal.overflow_mul-result
overflow_mul-result c = record { fits = lt_of_le_of_lt (product-size c).size (ltb→lt (8192 * 4194304) (2 ^ 64) tt) }

pub overflow_cast-result-3 : goal.overflow_cast-result-3
overflow_cast-result-3 c = Size.fits (product-size c) tt
