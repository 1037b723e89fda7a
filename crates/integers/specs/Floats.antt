-- Whole numbers over a power of two as floats: rounding such a fraction changes nothing, and a float that has its value is that float.
-- `HasValue x s a c` says that x is finite, has the sign s and is a / c in size.
use Rattle.std.specs.Prelude.{◌≡◌, refl, Bool, true, false, cond, ℕ, suc, ◌+◌, ◌-◌, ◌*◌, ◌/◌, ◌^◌, ◌≤◌, ◌<◌, T, ℤ, pos, negsuc, nat_abs, Float}
use Rattle.std.proofs.Common.{sym, ap, ap₂, ◌∙◌, le_refl, le_antisymm, lt_of_lt_of_le, mul_assoc, mul_comm, mul_right_comm, one-mul, mul-pos, arith, lit<, lit≤, pow_pos, pow_mono, pow-add, shl_lt}
use Rattle.std.specs.Float.{fin, inf, nan, Format, binary32, binary64}
use Rattle.std.specs.Float.Ieee.{prec, low, hid, top, size, up, down, unlike, round, div, of_int, fits, to_bits, of_bits}
use Rattle.std.specs.Float.Ieee.Digits.{back}
use Rattle.std.specs.Float.Ieee.Fits.{reach, down_pos}
use Rattle.std.specs.Float.Ieee.Exact.{HasValue, round_exact}
use Rattle.std.specs.Float.Ieee.Back.{round_whole}
use Rattle.std.specs.Float.Ieee.Scale.{round_same}
use Rattle.std.specs.Float.Ieee.Nearest.{div_same}
use Rattle.std.specs.Float.Ieee.Order.{transfer}
use Rattle.std.specs.Float.Ieee.Bits.{of_bits-to_bits}

-- the sign of an integer, as a float has it
abbrev pub negative : ℤ → Bool
negative (pos n) = false
negative (negsuc n) = true

-- ---- n / 2 ^ k, rounded

pub power-exact : (f : Format) (s : Bool) (n k : ℕ) → n < 2 ^ prec f → k ≤ low f → HasValue (round f s n (2 ^ k)) s n (2 ^ k)
power-exact f s n k h l =
    round_exact f s n (2 ^ k) n (low f - k) (pow_pos k) h
    (lt_of_lt_of_le (shl_lt (prec f) (low f - k) h) (pow_mono (omega (arith, reach f))))
    (ap (λ x. n * 2 ^ x) (sym (back (low f) k l)) ∙ ap (λ x. n * x) (pow-add 2 (low f - k) k) ∙ sym (mul_assoc n (2 ^ (low f - k)) (2 ^ k)))

-- ---- divided by 2 ^ k

unlike-false : (s : Bool) → unlike s false ≡ s
unlike-false true = refl
unlike-false false = refl

divided : (f : Format) (x : Float) (s : Bool) (n k : ℕ) → HasValue x s n 1 → div f x (fin false 1 (pos k)) ≡ round f s n (2 ^ k)
unfolding div
divided f (fin t m e) s n k v =
    ap (λ b. round f b (m * up e * 1) (1 * 2 ^ k * down e)) (unlike-false t ∙ v.0)
    ∙ round_same f s (m * up e * 1) (1 * 2 ^ k * down e) n (2 ^ k) (mul-pos (mul-pos (lit< tt) (pow_pos k)) (down_pos e)) (pow_pos k)
    (ap (λ x. x * 2 ^ k) v.1 ∙ regroup n (down e) (2 ^ k))
  where
    regroup : (n d p : ℕ) → n * d * p ≡ n * (1 * p * d)
    regroup n d p = rw one-mul (mul_assoc n d p ∙ ap (λ x. n * x) (mul_comm d p))
divided f nan s n k v = elim v [ ]
divided f (inf t) s n k v = elim v [ ]

pub divide-power : (f : Format) (z : ℤ) (k : ℕ) → nat_abs z ≤ 2 ^ prec f → div f (of_int f z) (fin false 1 (pos k)) ≡ round f (negative z) (nat_abs z) (2 ^ k)
unfolding of_int
divide-power f (pos n) k h = divided f (round f false n 1) false n k (round_whole f false n h)
divide-power f (negsuc n) k h = divided f (round f true (suc n) 1) true (suc n) k (round_whole f true (suc n) h)

-- ---- a value in a format is one float

-- its bit pattern depends on the value alone
abbrev pattern : Format → Bool → ℕ → ℕ
pattern f s n = let k = size n - prec f in cond s (top f) 0 + k * hid f + n / 2 ^ k

by_value : (f : Format) (x y : Float) (s : Bool) (a c : ℕ) → 0 < c → HasValue x s a c → HasValue y s a c → to_bits f x ≡ to_bits f y
unfolding to_bits
by_value f (fin t m e) (fin v n g) s a c k h j =
    let l = 2 ^ low f in
    ap₂ (pattern f) (h.0 ∙ sym j.0)
    (div_same (m * up e * l) (down e) (n * up g * l) (down g) (down_pos e) (down_pos g)
    (mul_right_comm (m * up e) l (down g) ∙ ap (λ z. z * l) (cross (m * up e) (n * up g) (down e) (down g) h.1 j.1) ∙ mul_right_comm (n * up g) (down e) l))
  where
    cross : (x y p q : ℕ) → x * c ≡ a * p → y * c ≡ a * q → x * q ≡ y * p
    cross x y p q d e = le_antisymm (transfer x y p q a a c c k k d e (le_refl (a * c))) (transfer y x q p a a c c k k e d (le_refl (a * c)))
by_value f nan y s a c k h j = elim h [ ]
by_value f (inf t) y s a c k h j = elim h [ ]
by_value f (fin t m e) nan s a c k h j = elim j [ ]
by_value f (fin t m e) (inf v) s a c k h j = elim j [ ]

pub unique : (f : Format) (x y : Float) (s : Bool) (a c : ℕ) → 0 < c → T (fits f x) → T (fits f y) → HasValue x s a c → HasValue y s a c → x ≡ y
unique f x y s a c k p q h j = sym (of_bits-to_bits f x p) ∙ ap (of_bits f) (by_value f x y s a c k h j) ∙ of_bits-to_bits f y q

-- ---- at 2 ^ 20, for numbers up to that

pub small : (f : Format) {n : ℕ} → n ≤ 1048576 → n < 2 ^ prec f
small binary32 h = omega arith
small binary64 h = omega arith

pub deep : (f : Format) → 20 ≤ low f
deep binary32 = lit≤ tt
deep binary64 = lit≤ tt
