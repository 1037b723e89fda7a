-- Each tool by a short example: the ring solver, orders by certificate, signed code, a float.
use Rattle.std.specs.Prelude.{◌≡◌, refl, true, [], ◌∷◌, ℤ, pos, negsuc, ◌+ℤ◌, ◌*ℤ◌, ◌≤ℤ◌, ◌<ℤ◌}
use Rattle.std.specs.Float.{fin, binary32}
use Rattle.std.specs.Float.Ieee.{round}
use Rattle.std.specs.Int.{w64}
use Rattle.std.proofs.Common.{SFits, to_z, of_z}
use Rattle.integers.specs.Solve.{◌⊕◌, ◌⊖◌, ◌⊗◌, #◌, ◌≐◌, solve}
use Rattle.integers.specs.Derive.{◌≼◌, ◌≺◌, ◌⊢◌, times, equal, square, deduce}
use Rattle.integers.specs.Size.{◌within◌}
use Rattle.integers.specs.Machine.{var, ◌⊠◌, ∅, ◌▹◌, fits, result}

-- an identity of the ring
binomial : (x y : ℤ) → (x +ℤ y) *ℤ (x +ℤ y) ≡ x *ℤ x +ℤ pos 2 *ℤ x *ℤ y +ℤ y *ℤ y
binomial = solve 2 (λ x y. (x ⊕ y) ⊗ (x ⊕ y) ≐ x ⊗ x ⊕ # 2 ⊗ x ⊗ y ⊕ y ⊗ y) tt

-- an order, since a square is not negative
mean : (x y : ℤ) → (pos 2 *ℤ x *ℤ y) ≤ℤ (x *ℤ x +ℤ y *ℤ y)
mean = deduce 2 (λ x y. square 1 (x ⊖ y) ∷ [] ⊢ # 2 ⊗ x ⊗ y ≼ x ⊗ x ⊕ y ⊗ y) tt

-- an order from orders and an equation, each with how often it is added
linear : (a b c e : ℤ) → (pos 2 *ℤ a) <ℤ b → pos 0 ≤ℤ e → c ≡ pos 1 +ℤ a → (pos 4 *ℤ a +ℤ c) <ℤ (pos 2 *ℤ b +ℤ a +ℤ e)
linear = deduce 4 (λ a b c e. times 2 (# 2 ⊗ a ≺ b) ∷ times 1 (# 0 ≼ e) ∷ equal (# 1) (c ≐ # 1 ⊕ a) ∷ [] ⊢ # 4 ⊗ a ⊕ c ≺ # 2 ⊗ b ⊕ a ⊕ e) tt

-- the code `x * y` of two `i64`: it fits, and is the product. With 3037000500 for the bound it could pass 2 ^ 63
module _ (x y : ℤ) (hx : x within 3037000499) (hy : y within 3037000499) where
  product-fits : SFits w64 (to_z w64 (of_z w64 x) *ℤ to_z w64 (of_z w64 y))
  product-fits = fits (hx ▹ hy ▹ ∅) w64 (var 0 ⊠ var 1) tt

  product_is : to_z w64 (of_z w64 (to_z w64 (of_z w64 x) *ℤ to_z w64 (of_z w64 y))) ≡ x *ℤ y
  product_is = result (hx ▹ hy ▹ ∅) w64 (var 0 ⊠ var 1) tt

-- -786432 / 2 ^ 20 is -3 / 4
three_quarters : round binary32 true 786432 1048576 ≡ fin true 3 (negsuc 1)
unfolding round
three_quarters = refl
