-- Finite sums of integers, `sum n f` = f 0 + .. + f (n - 1), and summation by parts.
use Rattle.std.specs.Prelude.{◌≡◌, refl, Bool, true, false, cond, ◌≢◌, List, [], ◌∷◌, ℕ, zero, suc, ◌+◌, ◌*◌, ◌≤◌, ◌<◌, eqb, ℤ, pos, neg_ℤ, ◌+ℤ◌, ◌-ℤ◌, ◌*ℤ◌, ◌≤ℤ◌}
use Rattle.std.proofs.Common.{sym, ◌∙◌, ap, ap₂, zero-le, lt-suc_self, not-suc-le-zero, le_of_eq, add-one, arith}
use Rattle.std.proofs.Math.Nat.{le_step}
use Rattle.std.proofs.Math.IntN.{*ℤ-zero, +ℤ_idl, +ℤ_idr}
use Rattle.std.proofs.Math.Facts.{eqb_yes, eqb_no, no_eqb}
use Rattle.integers.specs.Ring.{*ℤ-distl}
use Rattle.integers.specs.Solve.{◌⊕◌, ◌⊖◌, ◌⊗◌, ⊝◌, #◌, ◌≐◌, solve}
use Rattle.integers.specs.Order.{≤-refl, ≤_trans, ≤-sum}
pub use Rattle.integers.specs.Tests.{is_true, is_false}
use Rattle.integers.specs.Size.{◌within◌, ◌⟨+⟩◌, num, weaken, size, size-add}

unfoldable pub sum : ℕ → (ℕ → ℤ) → ℤ
sum zero f = pos 0
sum (suc n) f = sum n f +ℤ f n

-- one term more, as code counts
pub sum-next : (n : ℕ) (f : ℕ → ℤ) → sum (n + 1) f ≡ sum n f +ℤ f n
unfolding sum
sum-next n f = rw add-one

-- equal terms; a condition on k may be used
pub sum-cong : (n : ℕ) {f g : ℕ → ℤ} → ((k : ℕ) → k < n → f k ≡ g k) → sum n f ≡ sum n g
unfolding sum
sum-cong zero h = refl
sum-cong (suc n) h = ap₂ (λ x y. x +ℤ y) (sum-cong n (λ k l. h k (le_step l))) (h n (lt-suc_self n))

pub sum-zero : (n : ℕ) → sum n (λ k. pos 0) ≡ pos 0
unfolding sum
sum-zero zero = refl
sum-zero (suc n) = ap (λ x. x +ℤ pos 0) (sum-zero n)

pub sum-add : (n : ℕ) (f g : ℕ → ℤ) → sum n (λ k. f k +ℤ g k) ≡ sum n f +ℤ sum n g
unfolding sum
sum-add zero f g = refl
sum-add (suc n) f g = ap (λ x. x +ℤ (f n +ℤ g n)) (sum-add n f g) ∙ solve 4 (λ s t a b. s ⊕ t ⊕ (a ⊕ b) ≐ s ⊕ a ⊕ (t ⊕ b)) tt (sum n f) (sum n g) (f n) (g n)

pub sum-neg : (n : ℕ) (f : ℕ → ℤ) → sum n (λ k. neg_ℤ (f k)) ≡ neg_ℤ (sum n f)
unfolding sum
sum-neg zero f = refl
sum-neg (suc n) f = ap (λ x. x -ℤ f n) (sum-neg n f) ∙ solve 2 (λ s a. ⊝ s ⊖ a ≐ ⊝ (s ⊕ a)) tt (sum n f) (f n)

pub sum-sub : (n : ℕ) (f g : ℕ → ℤ) → sum n (λ k. f k -ℤ g k) ≡ sum n f -ℤ sum n g
sum-sub n f g = sum-add n f (λ k. neg_ℤ (g k)) ∙ ap (λ x. sum n f +ℤ x) (sum-neg n g)

pub sum-scale : (n : ℕ) (c : ℤ) (f : ℕ → ℤ) → sum n (λ k. c *ℤ f k) ≡ c *ℤ sum n f
unfolding sum
sum-scale zero c f = sym (*ℤ-zero c)
sum-scale (suc n) c f = ap (λ x. x +ℤ c *ℤ f n) (sum-scale n c f) ∙ sym (*ℤ-distl c (sum n f) (f n))

-- a linear combination, term by term: `sum-linear n ((c , f) ∷ (d , g) ∷ []) h`
abbrev pub combined : List (ℤ × (ℕ → ℤ)) → ℕ → ℤ
combined [] k = pos 0
combined (t ∷ ts) k = t.0 *ℤ t.1 k +ℤ combined ts k

abbrev pub summed : ℕ → List (ℤ × (ℕ → ℤ)) → ℤ
summed n [] = pos 0
summed n (t ∷ ts) = t.0 *ℤ sum n t.1 +ℤ summed n ts

pub sum-combined : (n : ℕ) (ts : List (ℤ × (ℕ → ℤ))) → sum n (combined ts) ≡ summed n ts
sum-combined n [] = sum-zero n
sum-combined n (t ∷ ts) = sum-add n (λ k. t.0 *ℤ t.1 k) (combined ts) ∙ ap₂ (λ x y. x +ℤ y) (sum-scale n t.0 t.1) (sum-combined n ts)

pub sum-linear : (n : ℕ) {f : ℕ → ℤ} (ts : List (ℤ × (ℕ → ℤ))) → ((k : ℕ) → k < n → f k ≡ combined ts k) → sum n f ≡ summed n ts
sum-linear n ts h = sum-cong n h ∙ sum-combined n ts

pub sum-≤ : (n : ℕ) {f g : ℕ → ℤ} → ((k : ℕ) → k < n → f k ≤ℤ g k) → sum n f ≤ℤ sum n g
unfolding sum
sum-≤ zero h = ≤-refl
sum-≤ (suc n) h = ≤-sum (sum-≤ n (λ k l. h k (le_step l))) (h n (lt-suc_self n))

pub sum_nonneg : (n : ℕ) {f : ℕ → ℤ} → ((k : ℕ) → k < n → pos 0 ≤ℤ f k) → pos 0 ≤ℤ sum n f
sum_nonneg n h = rw sum-zero at (sum-≤ n {f = λ k. pos 0} h)

-- the first term apart
pub sum_first : (n : ℕ) (f : ℕ → ℤ) → sum (suc n) f ≡ f 0 +ℤ sum n (λ k. f (suc k))
unfolding sum
sum_first zero f = solve 1 (λ a. # 0 ⊕ a ≐ a ⊕ # 0) tt (f 0)
sum_first (suc n) f = ap (λ x. x +ℤ f (suc n)) (sum_first n f) ∙ solve 3 (λ a s b. a ⊕ s ⊕ b ≐ a ⊕ (s ⊕ b)) tt (f 0) (sum n (λ k. f (suc k))) (f (suc n))

-- one term alone
pub sum-none : (n : ℕ) (f : ℕ → ℤ) (i : ℕ) → n ≤ i → sum n (λ k. cond (eqb k i) (f k) (pos 0)) ≡ pos 0
sum-none n f i h = sum-cong n (λ k l. rw (is_false (eqb k i) (no_eqb {a = k} {b = i} (omega arith)))) ∙ sum-zero n

pub sum_one : (n : ℕ) (f : ℕ → ℤ) (i : ℕ) → i < n → sum n (λ k. cond (eqb k i) (f k) (pos 0)) ≡ f i
unfolding sum
sum_one zero f i h = absurd (not-suc-le-zero h)
sum_one (suc n) f i h = go (eqb n i) refl (sum_one n f i)
  where
    go : (b : Bool) → eqb n i ≡ b → (i < n → sum n (λ k. cond (eqb k i) (f k) (pos 0)) ≡ f i) → sum n (λ k. cond (eqb k i) (f k) (pos 0)) +ℤ cond b (f n) (pos 0) ≡ f i
    go true e r = let q : n ≡ i = eqb_yes (rw e tt) in ap (λ x. x +ℤ f n) (sum-none n f i (le_of_eq q)) ∙ +ℤ_idl (f n) ∙ ap f q
    go false e r = let q : n ≢ i = eqb_no (rw e tt) in +ℤ_idr _ ∙ r (omega arith)

-- rows and columns
pub sum-swap : (m n : ℕ) (f : ℕ → ℕ → ℤ) → sum m (λ i. sum n (λ j. f i j)) ≡ sum n (λ j. sum m (λ i. f i j))
unfolding sum
sum-swap zero n f = sym (sum-zero n)
sum-swap (suc m) n f = ap (λ x. x +ℤ sum n (f m)) (sum-swap m n f) ∙ sym (sum-add n (λ j. sum m (λ i. f i j)) (f m))

pub telescope : (n : ℕ) (f : ℕ → ℤ) → sum n (λ k. f (suc k) -ℤ f k) ≡ f n -ℤ f 0
unfolding sum
telescope zero f = solve 1 (λ a. # 0 ≐ a ⊖ a) tt (f 0)
telescope (suc n) f = ap (λ x. x +ℤ (f (suc n) -ℤ f n)) (telescope n f) ∙ solve 3 (λ a b z. (a ⊖ z) ⊕ (b ⊖ a) ≐ b ⊖ z) tt (f n) (f (suc n)) (f 0)

-- ---- by parts

-- b's second difference around k + 1
abbrev pub bend : (ℕ → ℤ) → ℕ → ℤ
bend b k = b k -ℤ pos 2 *ℤ b (suc k) +ℤ b (suc (suc k))

-- Σ_{k ≤ m} Δa Δb, with what stands at the two ends
pub by_parts : (m : ℕ) (a b : ℕ → ℤ) → sum (suc m) (λ k. (a (suc k) -ℤ a k) *ℤ (b (suc k) -ℤ b k))
    ≡ a (suc m) *ℤ (b (suc m) -ℤ b m) -ℤ a 0 *ℤ (b 1 -ℤ b 0) -ℤ sum m (λ k. a (suc k) *ℤ bend b k)
unfolding sum
by_parts zero a b = solve 4 (λ p q x y. # 0 ⊕ (q ⊖ p) ⊗ (y ⊖ x) ≐ q ⊗ (y ⊖ x) ⊖ p ⊗ (y ⊖ x) ⊖ # 0) tt (a 0) (a 1) (b 0) (b 1)
by_parts (suc m) a b = ap (λ x. x +ℤ (a (suc (suc m)) -ℤ a (suc m)) *ℤ (b (suc (suc m)) -ℤ b (suc m))) (by_parts m a b)
    ∙ solve 7 (λ p q x y z e s. (p ⊗ (y ⊖ x) ⊖ e ⊖ s) ⊕ (q ⊖ p) ⊗ (z ⊖ y) ≐ q ⊗ (z ⊖ y) ⊖ e ⊖ (s ⊕ p ⊗ (x ⊖ # 2 ⊗ y ⊕ z))) tt
    (a (suc m)) (a (suc (suc m))) (b m) (b (suc m)) (b (suc (suc m))) (a 0 *ℤ (b 1 -ℤ b 0)) (sum m (λ k. a (suc k) *ℤ bend b k))

-- where a vanishes at both ends
pub by-parts-zero : (m : ℕ) (a b : ℕ → ℤ) → a 0 ≡ pos 0 → a (suc m) ≡ pos 0
    → sum (suc m) (λ k. (a (suc k) -ℤ a k) *ℤ (b (suc k) -ℤ b k)) ≡ neg_ℤ (sum m (λ k. a (suc k) *ℤ bend b k))
by-parts-zero m a b e f = by_parts m a b
    ∙ ap₂ (λ x y. x *ℤ (b (suc m) -ℤ b m) -ℤ y *ℤ (b 1 -ℤ b 0) -ℤ sum m (λ k. a (suc k) *ℤ bend b k)) f e
    ∙ solve 3 (λ x y s. # 0 ⊗ x ⊖ # 0 ⊗ y ⊖ s ≐ ⊝ s) tt (b (suc m) -ℤ b m) (b 1 -ℤ b 0) (sum m (λ k. a (suc k) *ℤ bend b k))

-- ---- its size

pub sum-size : (n : ℕ) (f : ℕ → ℤ) → size (sum n f) ≤ℤ sum n (λ k. size (f k))
unfolding sum
sum-size zero f = ≤-refl
sum-size (suc n) f = ≤_trans (size-add (sum n f) (f n)) (≤-sum (sum-size n f) ≤-refl)

pub sum-within : (n : ℕ) {f : ℕ → ℤ} {m : ℕ} → ((k : ℕ) → k < n → f k within m) → sum n f within n * m
unfolding sum
sum-within zero h = weaken (num 0) zero-le
sum-within (suc n) {f} {m} h = weaken (sum-within n (λ k l. h k (le_step l)) ⟨+⟩ h n (lt-suc_self n)) (omega arith)
