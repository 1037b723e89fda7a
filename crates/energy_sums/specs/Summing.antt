-- A sum as a loop adds it up, a term at a time, in a signed number of 64 bits.
use Rattle.std.specs.Prelude.{◌≡◌, ℕ, ◌+◌, ◌^◌, ◌≤◌, ◌<◌, ℤ, ◌+ℤ◌}
use Rattle.std.proofs.Common.{sym, ◌∙◌, ap₂, arith, SFits, to_z, of_z, to_z-of_z}
use Rattle.std.specs.Int.{w64}
use Rattle.std.specs.Int.Signed.{mag}
use Rattle.integers.specs.Sum.{sum, sum-next, sum-within}
use Rattle.integers.specs.Size.{◌within◌, weaken, fits}

-- as many terms as a string has segments, and one more
pub few-terms : (n : ℕ) {f : ℕ → ℤ} → n ≤ 129 → ((k : ℕ) → f k within 2 ^ 52) → sum n f within 2 ^ 60
few-terms n l h = weaken (sum-within n (λ k _. h k)) (omega arith)

-- a number that is read back
pub held_is : {x y : ℤ} → mag x < 2 ^ 63 → x ≡ y → to_z w64 (of_z w64 x) ≡ y
held_is f e = to_z-of_z {w = w64} (record { sfits = f }) ∙ e

-- the total of the first i terms, and x, the next one
module _ (f : ℕ → ℤ) (total i : ℕ) {x : ℤ} (sofar : to_z w64 total ≡ sum i f) (term : x ≡ f i) (few : i < 129) (small : (k : ℕ) → f k within 2 ^ 52) where
  next_is : to_z w64 total +ℤ x ≡ sum (i + 1) f
  next_is = ap₂ (λ a b. a +ℤ b) sofar term ∙ sym (sum-next i f)

  pub next_fits : SFits w64 (to_z w64 total +ℤ x)
  next_fits = rw next_is (fits (few-terms (i + 1) (omega arith) small) tt)

  pub next-sum : to_z w64 (of_z w64 (to_z w64 total +ℤ x)) ≡ sum (i + 1) f
  next-sum = to_z-of_z {w = w64} next_fits ∙ next_is
