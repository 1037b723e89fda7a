-- A displacement, cast to a float and divided by 1,048,576, in either format.
use mathlib.Core.Path.{◌≡◌, ap, ◌∙◌}
use mathlib.Core.Bool.{false}
use Prim.Native.Nat.{◌≤◌}
use lib.Dec.{T}
use lib.IntN.{ℤ, pos, nat_abs}
use lib.Ieee.{Float, fin, Format, div, of_int, in_float}
use mir.Syntax.{w32}
use mir.Val.{SFits, to_z, of_z}
use mir.Facts.{to_z-of_z}
use Rattle.integers.proofs.Floats.{divide-exact, casts}
use Rattle.model.specs.Ranges.{displacement_ok}
use Rattle.model.specs.Fraction.{fraction, Holds}
use Rattle.laws.specs.Sizes.{inside-within}
use Rattle.laws.specs.Exact.{fraction-holds}

module _ (f : Format) (x : ℤ) (k : SFits w32 x) (h : T (displacement_ok x)) where
  size : nat_abs x ≤ 1048576
  unfolding displacement_ok
  size = (inside-within 1048576 x h).size

  pub casts-exactly : T (in_float f (to_z w32 (of_z w32 x)))
  casts-exactly = rw (to_z-of_z k) (casts f x size)

  -- what the machine computes
  abbrev quotient : Float
  quotient = div f (of_int f (to_z w32 (of_z w32 x))) (fin false 1 (pos 20))

  quotient_is : quotient ≡ fraction f x
  unfolding fraction
  quotient_is = ap (λ z. div f (of_int f z) (fin false 1 (pos 20))) (to_z-of_z k) ∙ divide-exact f x size

  pub divides-exactly : (quotient ≡ fraction f x) × Holds quotient x
  divides-exactly = (quotient_is, rw quotient_is (fraction-holds f x size))
