-- The nearest whole number by the machine's quotient and remainder of 2·a + b by 2·b.
use mathlib.Core.Path.{◌≡◌, sym, ◌∙◌, ap}
use mathlib.Core.List.{[], ◌∷◌}
use lib.IntN.{ℤ, pos, ◌+ℤ◌, ◌-ℤ◌, ◌*ℤ◌, +ℤ_idr}
use lib.Signed.{quot_z, rem_z, shr_z, ◌<ℤ◌}
use Rattle.integers.specs.Solve.{◌⊕◌, ◌⊖◌, ◌⊗◌, ⊝◌, #◌, ◌≐◌}
use Rattle.integers.specs.Derive.{◌≺◌, ◌⊢◌, times, equal, deduce}
use Rattle.integers.specs.Division.{Divided, divided}
use Rattle.model.specs.Rounding.{floor, nearest}
use Rattle.laws.specs.Nearest.{nearer, tied, nearest-from}

module _ (a b : ℤ) (h : pos 0 <ℤ b) where
  abbrev q : ℤ
  q = quot_z (pos 2 *ℤ a +ℤ b) (pos 2 *ℤ b)

  abbrev r : ℤ
  r = rem_z (pos 2 *ℤ a +ℤ b) (pos 2 *ℤ b)

  pub unit-positive : pos 0 <ℤ (pos 2 *ℤ b)
  unit-positive = deduce 1 (λ b. times 2 (# 0 ≺ b) ∷ [] ⊢ # 0 ≺ # 2 ⊗ b) tt b h

  d : Divided (pos 2 *ℤ a +ℤ b) (pos 2 *ℤ b)
  d = divided (pos 2 *ℤ a +ℤ b) unit-positive

  -- where nothing remains, the even one of the quotient and the number below it
  pub even-nearest : r ≡ pos 0 → pos 2 *ℤ shr_z q 2 ≡ nearest a b
  unfolding floor
  even-nearest e = nearest-from h (tied q h (sym (d.whole ∙ ap (λ r. pos 2 *ℤ b *ℤ q +ℤ r) e ∙ +ℤ_idr (pos 2 *ℤ b *ℤ q))))

  -- where the remainder is negative, one less than the quotient
  pub less-nearest : r <ℤ pos 0 → q -ℤ pos 1 ≡ nearest a b
  less-nearest l = nearest-from h (nearer (q -ℤ pos 1)
      (deduce 4 (λ a b q r. equal (# 1) (# 2 ⊗ a ⊕ b ≐ # 2 ⊗ b ⊗ q ⊕ r) ∷ times 1 (r ≺ # 0) ∷ [] ⊢ # 2 ⊗ a ⊖ b ≺ # 2 ⊗ b ⊗ (q ⊖ # 1)) tt a b q r d.whole l)
      (deduce 4 (λ a b q r. equal (⊝ # 1) (# 2 ⊗ a ⊕ b ≐ # 2 ⊗ b ⊗ q ⊕ r) ∷ times 1 (⊝ (# 2 ⊗ b) ≺ r) ∷ [] ⊢ # 2 ⊗ b ⊗ (q ⊖ # 1) ≺ # 2 ⊗ a ⊕ b) tt a b q r d.whole d.above))

  -- where it is above 0, the quotient
  pub quotient-nearest : pos 0 <ℤ r → q ≡ nearest a b
  quotient-nearest l = nearest-from h (nearer q
      (deduce 4 (λ a b q r. equal (# 1) (# 2 ⊗ a ⊕ b ≐ # 2 ⊗ b ⊗ q ⊕ r) ∷ times 1 (r ≺ # 2 ⊗ b) ∷ [] ⊢ # 2 ⊗ a ⊖ b ≺ # 2 ⊗ b ⊗ q) tt a b q r d.whole d.below)
      (deduce 4 (λ a b q r. equal (⊝ # 1) (# 2 ⊗ a ⊕ b ≐ # 2 ⊗ b ⊗ q ⊕ r) ∷ times 1 (# 0 ≺ r) ∷ [] ⊢ # 2 ⊗ b ⊗ q ≺ # 2 ⊗ a ⊕ b) tt a b q r d.whole l))
