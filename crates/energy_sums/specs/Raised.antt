-- Products of raised numbers: what a sum of them over the segments or over the points of two strings comes to.
use Rattle.std.specs.Prelude.{◌≡◌, refl, [], ◌∷◌, ℕ, zero, suc, ◌^◌, ℤ, pos, neg_ℤ, ◌+ℤ◌, ◌-ℤ◌, ◌*ℤ◌}
use Rattle.std.proofs.Common.{◌∙◌, ap, ap₂, add-one}
use Rattle.integers.specs.Solve.{◌⊕◌, ◌⊖◌, ◌⊗◌, ⊝◌, #◌, ◌≐◌, solve}
use Rattle.integers.specs.Sum.{sum, sum-cong, sum-linear, telescope, bend}
use Rattle.integers.specs.Size.{◌within◌, ◌⟨+⟩◌, ◌⟨*⟩◌, num}
use Rattle.laws.specs.Strings.{rise}

-- what is added to each factor, 4·1,048,576, so that neither is negative
abbrev pub raise : ℤ
raise = pos 4194304

unfoldable pub raised : ℤ → ℤ → ℤ
raised x y = (x +ℤ raise) *ℤ (y +ℤ raise)

-- its size
abbrev pub raised_size : ℕ
raised_size = 2 ^ 46

pub raised-within : {x y : ℤ} → x within 4194304 → y within 4194304 → raised x y within raised_size
unfolding raised
raised-within h k = (h ⟨+⟩ num 4194304) ⟨*⟩ (k ⟨+⟩ num 4194304)

ones : (n : ℕ) → sum n (λ k. pos 1) ≡ pos n
unfolding sum
ones zero = refl
ones (suc n) = ap (λ z. z +ℤ pos 1) (ones n) ∙ ap pos (add-one n)

-- the raises are taken back: those of each factor by its sum, and their own product
taken_back : (n : ℕ) (f g : ℕ → ℤ) → sum n (λ k. raised (f k) (g k)) ≡ sum n (λ k. f k *ℤ g k) +ℤ raise *ℤ (sum n f +ℤ sum n g) +ℤ raise *ℤ raise *ℤ pos n
unfolding raised
taken_back n f g =
    sum-linear n ((pos 1, λ k. f k *ℤ g k) ∷ (raise, f) ∷ (raise, g) ∷ (raise *ℤ raise, λ k. pos 1) ∷ [])
    (λ k l. solve 3 (λ x y r. (x ⊕ r) ⊗ (y ⊕ r) ≐ # 1 ⊗ (x ⊗ y) ⊕ (r ⊗ x ⊕ (r ⊗ y ⊕ (r ⊗ r ⊗ # 1 ⊕ # 0)))) tt (f k) (g k) raise)
    ∙ ap (λ z. pos 1 *ℤ sum n (λ k. f k *ℤ g k) +ℤ (raise *ℤ sum n f +ℤ (raise *ℤ sum n g +ℤ (raise *ℤ raise *ℤ z +ℤ pos 0)))) (ones n)
    ∙ solve 5 (λ p x y r n. # 1 ⊗ p ⊕ (r ⊗ x ⊕ (r ⊗ y ⊕ (r ⊗ r ⊗ n ⊕ # 0))) ≐ p ⊕ r ⊗ (x ⊕ y) ⊕ r ⊗ r ⊗ n) tt (sum n (λ k. f k *ℤ g k)) (sum n f) (sum n g) raise (pos n)

module _ (n : ℕ) (f g : ℕ → ℤ) (f₀ : f 0 ≡ pos 0) (f₁ : f (suc n) ≡ pos 0) (g₀ : g 0 ≡ pos 0) (g₁ : g (suc n) ≡ pos 0) where
  no-rise : (f : ℕ → ℤ) → f 0 ≡ pos 0 → f (suc n) ≡ pos 0 → sum (suc n) (rise f) ≡ pos 0
  no-rise f z e = telescope (suc n) f ∙ ap₂ (λ x y. x -ℤ y) e z

  -- the rises of a string sum to 0
  pub raised-rises : sum (suc n) (λ k. raised (rise f k) (rise g k)) -ℤ raise *ℤ raise *ℤ pos (suc n) ≡ sum (suc n) (λ k. rise f k *ℤ rise g k)
  raised-rises =
      ap (λ z. z -ℤ raise *ℤ raise *ℤ pos (suc n)) (taken_back (suc n) (rise f) (rise g) ∙ ap₂ (λ x y. sum (suc n) (λ k. rise f k *ℤ rise g k) +ℤ raise *ℤ (x +ℤ y) +ℤ raise *ℤ raise *ℤ pos (suc n)) (no-rise f f₀ f₁) (no-rise g g₀ g₁))
      ∙ solve 3 (λ p r n. p ⊕ r ⊗ (# 0 ⊕ # 0) ⊕ r ⊗ r ⊗ n ⊖ r ⊗ r ⊗ n ≐ p) tt (sum (suc n) (λ k. rise f k *ℤ rise g k)) raise (pos (suc n))

  -- the bends of a string sum to what both its ends lack
  ends : (f : ℕ → ℤ) → f 0 ≡ pos 0 → f (suc n) ≡ pos 0 → sum n (bend f) ≡ neg_ℤ (f 1 +ℤ f n)
  ends f z e = sum-cong n (λ k l. solve 3 (λ a b c. a ⊖ # 2 ⊗ b ⊕ c ≐ (c ⊖ b) ⊖ (b ⊖ a)) tt (f k) (f (suc k)) (f (suc (suc k)))) ∙ telescope n (rise f)
      ∙ ap₂ (λ x y. (x -ℤ f n) -ℤ (f 1 -ℤ y)) e z ∙ solve 2 (λ a b. (# 0 ⊖ b) ⊖ (a ⊖ # 0) ≐ ⊝ (a ⊕ b)) tt (f 1) (f n)

  pub raised-bends : sum n (λ k. raised (bend f k) (bend g k)) +ℤ raise *ℤ (f 1 +ℤ f n +ℤ g 1 +ℤ g n) -ℤ raise *ℤ raise *ℤ pos n ≡ sum n (λ k. bend f k *ℤ bend g k)
  raised-bends =
      ap (λ z. z +ℤ raise *ℤ (f 1 +ℤ f n +ℤ g 1 +ℤ g n) -ℤ raise *ℤ raise *ℤ pos n) (taken_back n (bend f) (bend g) ∙ ap₂ (λ x y. sum n (λ k. bend f k *ℤ bend g k) +ℤ raise *ℤ (x +ℤ y) +ℤ raise *ℤ raise *ℤ pos n) (ends f f₀ f₁) (ends g g₀ g₁))
      ∙ solve 7 (λ p r n a b c d. p ⊕ r ⊗ (⊝ (a ⊕ b) ⊕ ⊝ (c ⊕ d)) ⊕ r ⊗ r ⊗ n ⊕ r ⊗ (a ⊕ b ⊕ c ⊕ d) ⊖ r ⊗ r ⊗ n ≐ p) tt
      (sum n (λ k. bend f k *ℤ bend g k)) raise (pos n) (f 1) (f n) (g 1) (g n)

-- one term alone
pub only-term : (f : ℕ → ℤ) → f 0 ≡ sum 1 f
unfolding sum
only-term f = solve 1 (λ x. x ≐ # 0 ⊕ x) tt (f 0)
