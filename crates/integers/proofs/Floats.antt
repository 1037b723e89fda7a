-- Whole numbers up to 2 ^ 20 over 2 ^ 20 as floats: rounding changes nothing, and a float with such a value is that float.
use Rattle.std.specs.Prelude.{◌≡◌, Bool, false, ℕ, ◌^◌, ◌≤◌, T, ℤ, pos, negsuc, nat_abs, Float}
use Rattle.std.proofs.Common.{le_of_lt, lit<, le→leb, lt→ltb}
use Rattle.std.specs.Float.{fin, Format}
use Rattle.std.specs.Float.Ieee.{prec, round, div, of_int, in_float, fits}
use Rattle.std.specs.Float.Ieee.Fits.{round-fits}
use Rattle.std.specs.Float.Ieee.Exact.{HasValue}
use Rattle.integers.specs.Floats.{small, deep, power-exact, divide-power, negative, unique}

pub fraction-exact : (f : Format) (s : Bool) (n : ℕ) → n ≤ 1048576 → HasValue (round f s n 1048576) s n 1048576
fraction-exact f s n h = power-exact f s n 20 (small f h) (deep f)

pub divide-exact : (f : Format) (z : ℤ) → nat_abs z ≤ 1048576 → div f (of_int f z) (fin false 1 (pos 20)) ≡ round f (negative z) (nat_abs z) 1048576
divide-exact f z h = divide-power f z 20 (le_of_lt (small f h))

pub fraction-unique : (f : Format) (x : Float) (s : Bool) (n : ℕ) → n ≤ 1048576 → T (fits f x) → HasValue x s n 1048576 → x ≡ round f s n 1048576
fraction-unique f x s n h p v = unique f x (round f s n 1048576) s n 1048576 (lit< tt) p (round-fits f s n 1048576) v (fraction-exact f s n h)

-- what the cast of z to the format asks
pub casts : (f : Format) (z : ℤ) → nat_abs z ≤ 1048576 → T (in_float f z)
unfolding in_float
casts f (pos n) h = le→leb n (2 ^ prec f) (le_of_lt (small f h))
casts f (negsuc n) h = lt→ltb n (2 ^ prec f) (le_of_lt (small f h))
