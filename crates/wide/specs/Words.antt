-- The laws of two words: what the size of their number says of them, sums and differences with a carry, the order, and a number by its halves.
use Rattle.std.specs.Prelude.{◌≡◌, refl, Bool, true, false, [], ◌∷◌, ℕ, suc, ◌+◌, ◌-◌, ◌*◌, ◌/◌, ◌%◌, ◌^◌, ◌≤◌, ◌<◌, ℤ, pos, negsuc, neg_ℤ, nat_abs, ◌+ℤ◌, ◌-ℤ◌, ◌*ℤ◌, leb, ◌≤ℤ◌, ◌<ℤ◌}
use Rattle.std.proofs.Common.{sym, ◌∙◌, ap, ap₂, div-add-mod', mod-lt, mul-le-mul, le_of_lt, arith, leb→le, ltb→lt, leb-false}
use Rattle.std.specs.Int.Signed.{le_z, shr_z, lt_z_yes}
use Rattle.std.proofs.Math.Facts.{yes_ltb}
use Rattle.integers.specs.Order.{pos-≤, nat, nat_abs-≤}
use Rattle.integers.specs.Tests.{le-le_z, lt-le_z}
use Rattle.integers.specs.Derive.{◌≺◌, ◌≼◌, ◌⊢◌, times, equal, deduce}
use Rattle.integers.specs.Size.{◌within◌, nat_abs_mul, ◌⟨-⟩◌, num}
use Rattle.integers.specs.Solve.{◌⊕◌, ◌⊖◌, ◌⊗◌, ⊝◌, #◌, ◌≐◌, solve}
use Rattle.model.specs.Wide.{value}
use Rattle.model.specs.declared.Wide.{Wide}

abbrev pub high_size : ℕ
high_size = 2 ^ 60 + 1

-- a value of at most 2^124 has a high word of at most 2^60 + 1
pub high-within : (w : Wide) → w.low < 2 ^ 64 → value w within 2 ^ 124 → w.high within high_size
high-within w l h =
    let e : w.high *ℤ pos (2 ^ 64) ≡ value w -ℤ pos w.low = solve 3 (λ a b c. a ⊗ b ≐ a ⊗ b ⊕ c ⊖ c) tt w.high (pos (2 ^ 64)) (pos w.low) in
    let m : (value w -ℤ pos w.low) within (2 ^ 124 + w.low) = h ⟨-⟩ num w.low in
    let q : nat_abs w.high * 2 ^ 64 ≤ 2 ^ 124 + w.low = rw (← nat_abs_mul w.high (pos (2 ^ 64)), e) m.size in
    record { size = omega arith }

-- of a product of at most 2^124 the high word's part is small
pub high-part-within : (w : Wide) (m : ℕ) → w.low < 2 ^ 64 → m < 2 ^ 32 → (value w *ℤ pos m) within 2 ^ 124 → (w.high *ℤ pos m) within (2 ^ 60 + 2 ^ 32)
high-part-within w m l k h =
    let e : w.high *ℤ pos m *ℤ pos (2 ^ 64) ≡ value w *ℤ pos m -ℤ pos (w.low * m) = solve 4 (λ a b c m. a ⊗ m ⊗ b ≐ (a ⊗ b ⊕ c) ⊗ m ⊖ c ⊗ m) tt w.high (pos (2 ^ 64)) (pos w.low) (pos m) in
    let p : w.low * m ≤ 2 ^ 64 * 2 ^ 32 = mul-le-mul (le_of_lt l) (le_of_lt k) in
    let q : nat_abs (w.high *ℤ pos m) * 2 ^ 64 ≤ 2 ^ 124 + w.low * m = rw (← nat_abs_mul (w.high *ℤ pos m) (pos (2 ^ 64)), e) (h ⟨-⟩ num (w.low * m)).size in
    record { size = omega arith }

-- ---- sums of the words

module _ (x y : ℤ) where
  pub plain : (l m : ℤ) → (x +ℤ y) *ℤ pos (2 ^ 64) +ℤ (l +ℤ m) ≡ x *ℤ pos (2 ^ 64) +ℤ l +ℤ (y *ℤ pos (2 ^ 64) +ℤ m)
  plain l m = solve 4 (λ x y l m. (x ⊕ y) ⊗ # (2 ^ 64) ⊕ (l ⊕ m) ≐ x ⊗ # (2 ^ 64) ⊕ l ⊕ (y ⊗ # (2 ^ 64) ⊕ m)) tt x y l m

  -- the low words' sum passes 2^64
  pub carry : (l m n : ℕ) → n + 2 ^ 64 ≡ l + m → (x +ℤ y +ℤ pos 1) *ℤ pos (2 ^ 64) +ℤ pos n ≡ x *ℤ pos (2 ^ 64) +ℤ pos l +ℤ (y *ℤ pos (2 ^ 64) +ℤ pos m)
  carry l m n e = solve 3 (λ x y n. (x ⊕ y ⊕ # 1) ⊗ # (2 ^ 64) ⊕ n ≐ (x ⊕ y) ⊗ # (2 ^ 64) ⊕ (n ⊕ # (2 ^ 64))) tt x y (pos n)
      ∙ ap (λ (k : ℕ). (x +ℤ y) *ℤ pos (2 ^ 64) +ℤ pos k) e ∙ plain (pos l) (pos m)

  -- differences: the low words', and with a borrow from the high word
  pub less : (l m n : ℕ) → n + m ≡ l → (x -ℤ y) *ℤ pos (2 ^ 64) +ℤ pos n ≡ x *ℤ pos (2 ^ 64) +ℤ pos l -ℤ (y *ℤ pos (2 ^ 64) +ℤ pos m)
  less l m n e = solve 4 (λ x y n m. (x ⊖ y) ⊗ # (2 ^ 64) ⊕ n ≐ x ⊗ # (2 ^ 64) ⊕ (n ⊕ m) ⊖ (y ⊗ # (2 ^ 64) ⊕ m)) tt x y (pos n) (pos m)
      ∙ ap (λ (k : ℕ). x *ℤ pos (2 ^ 64) +ℤ pos k -ℤ (y *ℤ pos (2 ^ 64) +ℤ pos m)) e

  pub borrowed : (l m n : ℕ) → n + m ≡ l + 2 ^ 64 → (x -ℤ y -ℤ pos 1) *ℤ pos (2 ^ 64) +ℤ pos n ≡ x *ℤ pos (2 ^ 64) +ℤ pos l -ℤ (y *ℤ pos (2 ^ 64) +ℤ pos m)
  borrowed l m n e = solve 4 (λ x y n m. (x ⊖ y ⊖ # 1) ⊗ # (2 ^ 64) ⊕ n ≐ (x ⊖ # 1) ⊗ # (2 ^ 64) ⊕ (n ⊕ m) ⊖ (y ⊗ # (2 ^ 64) ⊕ m)) tt x y (pos n) (pos m)
      ∙ ap (λ (k : ℕ). (x -ℤ pos 1) *ℤ pos (2 ^ 64) +ℤ pos k -ℤ (y *ℤ pos (2 ^ 64) +ℤ pos m)) e
      ∙ solve 4 (λ x y l m. (x ⊖ # 1) ⊗ # (2 ^ 64) ⊕ (l ⊕ # (2 ^ 64)) ⊖ (y ⊗ # (2 ^ 64) ⊕ m) ≐ x ⊗ # (2 ^ 64) ⊕ l ⊖ (y ⊗ # (2 ^ 64) ⊕ m)) tt x y (pos l) (pos m)

-- of equal high words, by the low ones
pub by-low : (x : ℤ) (l m : ℕ) → le_z (x *ℤ pos (2 ^ 64) +ℤ pos l) (x *ℤ pos (2 ^ 64) +ℤ pos m) ≡ leb l m
by-low x l m = go (leb l m) refl
  where
    go : (t : Bool) → leb l m ≡ t → le_z (x *ℤ pos (2 ^ 64) +ℤ pos l) (x *ℤ pos (2 ^ 64) +ℤ pos m) ≡ t
    go true e = le-le_z _ _ (deduce 3 (λ x l m. times 1 (l ≼ m) ∷ [] ⊢ x ⊗ # (2 ^ 64) ⊕ l ≼ x ⊗ # (2 ^ 64) ⊕ m) tt x (pos l) (pos m) (pos-≤ (leb→le l m (rw e tt))))
    go false e = lt-le_z _ _ (deduce 3 (λ x l m. times 1 (m ≺ l) ∷ [] ⊢ x ⊗ # (2 ^ 64) ⊕ m ≺ x ⊗ # (2 ^ 64) ⊕ l) tt x (pos l) (pos m) (lt_z_yes (yes_ltb (leb-false l m e))))

-- ---- a negative number of at most 2^62 in size, above −2^62
pub raise : (x : ℤ) → x within 2 ^ 62 → x <ℤ pos 0 → (n : ℕ) × ((x +ℤ pos (2 ^ 62) ≡ pos n) × (n < 2 ^ 62))
raise x h k =
    let low : pos 0 ≤ℤ (x +ℤ pos (2 ^ 62)) = deduce 2 (λ x s. times 1 (⊝ s ≼ x) ∷ times 1 (s ≼ # (2 ^ 62)) ∷ [] ⊢ # 0 ≼ x ⊕ # (2 ^ 62)) tt x (pos (nat_abs x)) (nat_abs-≤ x) (pos-≤ h.size) in
    let (n, e) = nat low in
    let top : pos n <ℤ pos (2 ^ 62) = deduce 2 (λ x n. times 1 (x ≺ # 0) ∷ equal (# 1) (n ≐ x ⊕ # (2 ^ 62)) ∷ [] ⊢ n ≺ # (2 ^ 62)) tt x (pos n) k (sym e) in
    (n, (e, ltb→lt n (2 ^ 62) top.lt))

-- ---- a number by its quotient by b, rounded down, and what is left
minus_one : (k : ℕ) → negsuc k ≡ neg_ℤ (pos k +ℤ pos 1)
minus_one k = let q : suc k ≡ k + 1 = omega arith in ap (λ (n : ℕ). neg_ℤ (pos n)) q

pub halves : (b : ℕ) → 0 < b → (z : ℤ) → (n : ℕ) × ((z -ℤ shr_z z b *ℤ pos b ≡ pos n) × (n < b))
halves b l (pos a) = (a % b, (ap (λ (k : ℕ). pos k -ℤ pos (a / b) *ℤ pos b) (sym (div-add-mod' a b)) ∙ solve 3 (λ q r b. q ⊗ b ⊕ r ⊖ q ⊗ b ≐ r) tt (pos (a / b)) (pos (a % b)) (pos b), mod-lt a l))
halves b l (negsuc a) =
    let r = a % b in
    let h : r < b = mod-lt a l in
    let n = b - 1 - r in
    let e : n + r + 1 ≡ b = omega (arith, h) in (
      n,
      (
        ap (λ (k : ℕ). negsuc k -ℤ negsuc (a / b) *ℤ pos b) (sym (div-add-mod' a b))
            ∙ ap₂ (λ y z. y -ℤ z *ℤ pos b) (minus_one (a / b * b + r)) (minus_one (a / b))
            ∙ solve 3 (λ q r b. ⊝ (q ⊗ b ⊕ r ⊕ # 1) ⊖ ⊝ (q ⊕ # 1) ⊗ b ≐ b ⊖ r ⊖ # 1) tt (pos (a / b)) (pos r) (pos b)
            ∙ ap (λ (k : ℕ). pos k -ℤ pos r -ℤ pos 1) (sym e) ∙ solve 2 (λ n r. n ⊕ r ⊕ # 1 ⊖ r ⊖ # 1 ≐ n) tt (pos n) (pos r),
        omega (arith, e),
      ),
    )

-- ---- a product with a number of 32 bits, by the halves of the other factor

module _ (x m : ℕ) where
  abbrev pub lower_half : ℕ
  lower_half = x % 4294967296 * m

  abbrev pub upper_half : ℕ
  upper_half = x / 4294967296 * m + lower_half / 4294967296

  parted : x * m ≡ x / 4294967296 * m * 4294967296 + lower_half
  parted = ap (λ y. y * m) (sym (div-add-mod' x 4294967296)) ∙ distributed (x / 4294967296) (x % 4294967296)
    where
      distributed : (q r : ℕ) → (q * 4294967296 + r) * m ≡ q * m * 4294967296 + r * m
      distributed q r = cc (solve 3 (λ q r m. (q ⊗ # 4294967296 ⊕ r) ⊗ m ≐ q ⊗ m ⊗ # 4294967296 ⊕ r ⊗ m) tt (pos q) (pos r) (pos m))

  pub joined : upper_half / 4294967296 * 2 ^ 64 + (upper_half % 4294967296 * 4294967296 + lower_half % 4294967296) ≡ x * m
  joined = omega (arith, parted)

module _ {x m : ℕ} (h : x < 2 ^ 64) (k : m < 2 ^ 32) where
  small : m ≤ 4294967295
  small = omega arith

  -- each half's product
  pub lower-most : lower_half x m ≤ 4294967295 * 4294967295
  lower-most = let p : x % 4294967296 ≤ 4294967295 = omega arith in mul-le-mul p small

  pub upper-product : x / 4294967296 * m ≤ 4294967295 * 4294967295
  upper-product = let p : x / 4294967296 ≤ 4294967295 = omega arith in mul-le-mul p small

  pub upper-most : upper_half x m < 2 ^ 64
  upper-most = omega (arith, lower-most, upper-product)
