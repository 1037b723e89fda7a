-- A signed machine word read back from its bits, `to_z w (of_z w z)`, and cast from one width to another.
-- Of what fits its width, as a parameter does, `to_z-of_z` (`mir.Facts`) says that it is read back as itself.
use Rattle.std.specs.Prelude.{◌≡◌, ℕ, ◌^◌, ◌<◌, T, leb, ℤ}
use Rattle.std.proofs.Common.{◌∙◌, to_z-of_z}
use Rattle.std.specs.Int.{Width}
use mir.Val.{SFits, hbits, to_z, of_z}
use Rattle.std.proofs.Math.Facts.{sfits_widen}
use Rattle.integers.specs.Size.{◌within◌, below}

-- a number known by its size: of `h : nat_abs z < 2 ^ 31`, `back w32 (self z) h`
pub back : (w : Width) {z : ℤ} {n : ℕ} → z within n → n < 2 ^ hbits w → to_z w (of_z w z) ≡ z
back w h l = to_z-of_z (below h l)

-- a cast from v to w of a number that fits both: what it asks, and that it changes nothing
module _ {v w : Width} {z : ℤ} (f : SFits v z) (g : SFits w z) where
  pub cast_fits : SFits w (to_z v (of_z v z))
  cast_fits = rw (to_z-of_z f) g

  pub cast_is : to_z w (of_z w (to_z v (of_z v z))) ≡ z
  cast_is = to_z-of_z cast_fits ∙ to_z-of_z f

-- to a wider width, which the number fits as well: `wide_is w64 tt f`
module _ {v : Width} (w : Width) {z : ℤ} (t : T (leb (hbits v) (hbits w))) (f : SFits v z) where
  pub wide_fits : SFits w (to_z v (of_z v z))
  wide_fits = cast_fits f (sfits_widen t f)

  pub wide_is : to_z w (of_z w (to_z v (of_z v z))) ≡ z
  wide_is = cast_is f (sfits_widen t f)

-- from a wider width, where the number fits the narrower one: `narrow_is w64 tt (below h l)`
module _ (v : Width) {w : Width} {z : ℤ} (t : T (leb (hbits w) (hbits v))) (f : SFits w z) where
  pub narrow-fits : SFits w (to_z v (of_z v z))
  narrow-fits = cast_fits (sfits_widen t f) f

  pub narrow_is : to_z w (of_z w (to_z v (of_z v z))) ≡ z
  narrow_is = cast_is (sfits_widen t f) f
