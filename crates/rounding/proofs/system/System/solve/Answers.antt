-- `solve` meets its contract.
use mathlib.Core.Path.{◌≡◌, ◌∙◌, ap₂}
use Prim.Native.Nat.{◌^◌}
use lib.Dec.{T}
use lib.IntN.{ℤ, pos}
use lib.Signed.{◌<ℤ◌}
use mir.Syntax.{w64}
use mir.Facts.{to_z-of_z}
use Rattle.integers.specs.Size.{◌within◌, wide}
use Rattle.integers.specs.Machine.{Code, var, ◌⊟◌, ◌⊠◌, value, held, safe, fits, result, held-within}
use Rattle.model.specs.System.{System, det, rounded₁, rounded₂}
use Rattle.model.specs.Rounding.{nearest}
use Rattle.rounding.specs.Systems.{entries, system_sizes, Solvable}
use Rattle.rounding.proofs.system.System.solve.Goals as goal

-- the determinant and the two numerators, as the code works them out
abbrev d : Code
d = var 0 ⊠ var 3 ⊟ var 1 ⊠ var 2

abbrev d₁ : Code
d₁ = var 4 ⊠ var 3 ⊟ var 1 ⊠ var 5

abbrev d₂ : Code
d₂ = var 0 ⊠ var 5 ⊟ var 4 ⊠ var 2

module _ {t : System} (h : Solvable t) where
  -- what `nearest` asks of a numerator
  asked : (n : Code) → held (entries t) w64 n within 2 ^ 61 → (pos 0 <ℤ held (entries t) w64 d) × (held (entries t) w64 n within 2 ^ 61) × (held (entries t) w64 d within 2 ^ 38)
  asked n k = (rw (result h.sizes w64 d tt) h.regular, k, wide (held-within h.sizes w64 d tt) tt)

  -- and what it gives
  rounds : (n : Code) → T (safe system_sizes system_sizes w64 n) → {r : ℤ} → r ≡ nearest (held (entries t) w64 n) (held (entries t) w64 d) → r ≡ nearest (value (entries t) n) (det t)
  rounds n s e = e ∙ ap₂ nearest (result h.sizes w64 n s) (result h.sizes w64 d tt)

pub returns : goal.returns
unfolding rounded₁ rounded₂
returns c = λ i. record {
  x = (to_z-of_z {w = w64} (record { sfits = c.nearest.type_inv }) ∙ rounds c.requires d₁ tt c.nearest.ensures) i;
  y = (to_z-of_z {w = w64} (record { sfits = c.nearest-2.type_inv }) ∙ rounds c.requires d₂ tt c.nearest-2.ensures) i;
}

pub nearest-requires : goal.nearest-requires
nearest-requires c = let h = c.requires in asked h d₁ (wide (held-within h.sizes w64 d₁ tt) tt)

pub nearest-requires-2 : goal.nearest-requires-2
nearest-requires-2 c = let h = c.requires in asked h d₂ (wide (held-within h.sizes w64 d₂ tt) tt)

pub overflow_mul-det : goal.overflow_mul-det
overflow_mul-det c = fits c.requires.sizes w64 (var 0 ⊠ var 3) tt

pub overflow_mul-det-2 : goal.overflow_mul-det-2
overflow_mul-det-2 c = fits c.requires.sizes w64 (var 1 ⊠ var 2) tt

pub overflow_sub-det : goal.overflow_sub-det
overflow_sub-det c = fits c.requires.sizes w64 d tt

pub overflow_mul-det1 : goal.overflow_mul-det1
overflow_mul-det1 c = fits c.requires.sizes w64 (var 4 ⊠ var 3) tt

pub overflow_mul-det1-2 : goal.overflow_mul-det1-2
overflow_mul-det1-2 c = fits c.requires.sizes w64 (var 1 ⊠ var 5) tt

pub overflow_sub-det1 : goal.overflow_sub-det1
overflow_sub-det1 c = fits c.requires.sizes w64 d₁ tt

pub overflow_mul-det2 : goal.overflow_mul-det2
overflow_mul-det2 c = fits c.requires.sizes w64 (var 0 ⊠ var 5) tt

pub overflow_mul-det2-2 : goal.overflow_mul-det2-2
overflow_mul-det2-2 c = fits c.requires.sizes w64 (var 4 ⊠ var 2) tt

pub overflow_sub-det2 : goal.overflow_sub-det2
overflow_sub-det2 c = fits c.requires.sizes w64 d₂ tt
