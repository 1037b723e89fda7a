-- The last segment and the last point of a string, and with them the whole sums: E(a, b) and Σ D1a·D1b.
use Rattle.std.specs.Prelude.{◌≡◌, List, ℕ, suc, ◌+◌, ◌-◌, ◌≤◌, ℤ, ◌+ℤ◌, ◌-ℤ◌, ◌*ℤ◌, length}
use Rattle.std.proofs.Math.Path.{refl, sym, ap, ap₂}
use Rattle.std.proofs.Common.{◌∙◌, add-one}
use native.Mathlib.Omega.{arith}
use Rattle.std.proofs.Math.IntN.{pos}
use Rattle.std.proofs.Math.ListN.{get_or, get_or-eq_default}
use Rattle.integers.specs.Solve.{◌⊕◌, ◌⊖◌, ◌⊗◌, #◌, ◌≐◌, solve}
use Rattle.integers.specs.Sum.{sum, sum-next, bend}
use Rattle.model.specs.Differences.{at, D1, dot, E}
use Rattle.laws.specs.Strings.{◌spans◌, at-past, at-index, rise, form, E-form, D1-form}
use Rattle.energy_sums.specs.Raised.{raise, raised, raised-rises, raised-bends}

-- the value at the last point
abbrev pub last : List ℤ → ℕ → ℤ
last x n = get_or x (n - 1) (pos 0)

module _ {x : List ℤ} {n : ℕ} (h : x spans n) where
  -- from the last point to the end
  pub last-rise : 1 ≤ n → pos 0 -ℤ last x n ≡ rise (at x) n
  last-rise l = ap₂ (λ a b. a -ℤ b) (sym (at-past h)) (sym (at-index x n l))

  -- at the last point, which has a neighbour
  pub last-bend : 2 ≤ n → get_or x (n - 2) (pos 0) -ℤ pos 2 *ℤ last x n ≡ bend (at x) (n - 1)
  last-bend l =
      let before : n - 2 ≡ n - 1 - 1 = omega arith in
      let past : length x ≤ suc (n - 1) = (let e = h.long in omega arith) in
      ap (λ (j : ℕ). get_or x j (pos 0) -ℤ pos 2 *ℤ last x n) before
      ∙ ap (λ a. a -ℤ pos 2 *ℤ last x n) (sym (at-index x (n - 1) (omega arith)))
      ∙ solve 2 (λ a b. a ⊖ # 2 ⊗ b ≐ a ⊖ # 2 ⊗ b ⊕ # 0) tt (at x (n - 1)) (last x n)
      ∙ ap (λ b. at x (n - 1) -ℤ pos 2 *ℤ last x n +ℤ b) (sym (get_or-eq_default x (pos 0) past))

module _ {a b : List ℤ} {n : ℕ} (ha : a spans n) (hb : b spans n) where
  abbrev pub raised_rises : ℕ → ℤ
  raised_rises k = raised (rise (at a) k) (rise (at b) k)

  abbrev pub raised_bends : ℕ → ℤ
  raised_bends k = raised (bend (at a) k) (bend (at b) k)

  -- all segments but the last, and the last one
  pub all-rises : sum n raised_rises +ℤ raised_rises n -ℤ raise *ℤ raise *ℤ pos (n + 1) ≡ E a b
  unfolding form
  all-rises =
      ap (λ z. z -ℤ raise *ℤ raise *ℤ pos (n + 1)) (sym (sum-next n raised_rises))
      ∙ ap (λ (k : ℕ). sum k raised_rises -ℤ raise *ℤ raise *ℤ pos k) (add-one n)
      ∙ raised-rises n (at a) (at b) refl (at-past ha) refl (at-past hb) ∙ sym (E-form ha b)

  -- all points but the last, the last one, and what the bends sum to
  pub all-bends : 1 ≤ n → sum (n - 1) raised_bends +ℤ raised_bends (n - 1) +ℤ raise *ℤ (get_or a 0 (pos 0) +ℤ last a n +ℤ get_or b 0 (pos 0) +ℤ last b n) -ℤ raise *ℤ raise *ℤ pos n ≡ dot (D1 a) (D1 b)
  unfolding form
  all-bends l =
      let one_more : n - 1 + 1 ≡ n = omega arith in
      ap (λ y. y +ℤ raise *ℤ (get_or a 0 (pos 0) +ℤ last a n +ℤ get_or b 0 (pos 0) +ℤ last b n) -ℤ raise *ℤ raise *ℤ pos n) (sym (sum-next (n - 1) raised_bends) ∙ ap (λ (k : ℕ). sum k raised_bends) one_more)
      ∙ ap₂ (λ x y. sum n raised_bends +ℤ raise *ℤ (get_or a 0 (pos 0) +ℤ x +ℤ get_or b 0 (pos 0) +ℤ y) -ℤ raise *ℤ raise *ℤ pos n) (sym (at-index a n l)) (sym (at-index b n l))
      ∙ raised-bends n (at a) (at b) refl (at-past ha) refl (at-past hb) ∙ sym (D1-form ha hb)
