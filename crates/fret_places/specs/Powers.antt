-- x^12 · 2^q from the third power of x, and the sizes on the way.
use Rattle.std.specs.Prelude.{◌≡◌, ℕ, suc, ◌*◌, ◌%◌, ◌^◌, ◌≤◌}
use Rattle.std.proofs.Common.{sym, ◌∙◌, ap, mul-le-mul, lt_of_le_of_lt, mod-eq_of_lt, one-mul, mul_assoc, pow-suc, lit<, pow_mono}
use Rattle.std.proofs.Math.Nat.{pow-zero}

abbrev pub cube : ℕ → ℕ
cube x = x * x * x

more : (x n : ℕ) → x ^ suc (suc (suc n)) ≡ x ^ n * cube x
more x n = pow-suc x (suc (suc n)) ∙ ap (λ y. y * x) (pow-suc x (suc n) ∙ ap (λ y. y * x) (pow-suc x n) ∙ mul_assoc (x ^ n) x x) ∙ mul_assoc (x ^ n) (x * x) x

pub twelfth : (x : ℕ) → cube x * cube x * cube x * cube x ≡ x ^ 12
twelfth x = let c = cube x in
    sym (more x 9 ∙ ap (λ y. y * c) (more x 6 ∙ ap (λ y. y * c) (more x 3 ∙ ap (λ y. y * c) (more x 0 ∙ ap (λ y. y * c) (pow-zero x) ∙ one-mul c))))

-- 2^q as the code shifts it
pub shifted : (q : ℕ) → q ≤ 24 → 1 * 2 ^ q % 4294967296 ≡ 2 ^ q
shifted q h = ap (λ y. y % 4294967296) (one-mul (2 ^ q)) ∙ mod-eq_of_lt (lt_of_le_of_lt (pow_mono h) (lit< tt))

module _ {x : ℕ} (h : x ≤ 256) where
  pub square-most : x * x ≤ 256 ^ 2
  square-most = mul-le-mul h h

  pub cube-most : cube x ≤ 256 ^ 3
  cube-most = mul-le-mul square-most h

  pub sixth-most : cube x * cube x ≤ 256 ^ 6
  sixth-most = mul-le-mul cube-most cube-most

  pub ninth-most : cube x * cube x * cube x ≤ 256 ^ 9
  ninth-most = mul-le-mul sixth-most cube-most

  pub twelfth-most : cube x * cube x * cube x * cube x ≤ 256 ^ 12
  twelfth-most = mul-le-mul ninth-most cube-most

  pub scaled-most : (q : ℕ) → q ≤ 24 → cube x * cube x * cube x * cube x * 2 ^ q ≤ 2 ^ 120
  scaled-most q k = mul-le-mul twelfth-most (pow_mono k)
