-- 02, item 3: whatever passes 1 to 12, no new contact variable is below −67,108,864. Where the last moves have a gradient the old and the new variable sum
-- to 0 or more, so that the new one is at least the negative of the old; where they have none it stays.
use Rattle.std.specs.Prelude.{◌≡◌, refl, [], ◌∷◌, ℕ, T, ℤ, pos, neg_ℤ, ◌+ℤ◌, ◌-ℤ◌, ◌*ℤ◌, ◌≤ℤ◌, ◌<ℤ◌, drop}
use Rattle.std.proofs.Common.{sym, ◌∙◌, ⊎_elim}
use Rattle.std.specs.Int.Signed.{le_z, le_z_yes}
use Rattle.std.proofs.Math.Facts.{and_yes}
use Rattle.integers.specs.Solve.{◌⊕◌, ◌⊖◌, ◌⊗◌, ⊝◌, #◌, ◌≐◌, solve}
use Rattle.integers.specs.Derive.{◌≼◌, ◌⊢◌, times, deduce}
use Rattle.integers.specs.Order.{≤_trans, ≤-antisym, ≤-of-eq, <-or-≤, cancel-≤}
use Rattle.model.specs.Ranges.{inside, contact_ok}
use Rattle.model.specs.Setup.{p, setup_rules}
use Rattle.model.specs.Differences.{at}
use Rattle.model.specs.Step.{cleared, WorkedStep, worked_step, next_state, call_rules}
use Rattle.promises.specs.Promises.{OnlyAbove}
use Rattle.laws.specs.Refusals.{fails, at_all}
use Rattle.laws.specs.InRange.{in-range}
use Rattle.laws.specs.Accepted.{Examined, examined}
use Rattle.laws.specs.Clearing.{in-range-clear, examined-clear}
use Rattle.laws.specs.Pulling.{at-contact, spans-last, worked-nonneg, worked-none-pulls}
use Rattle.laws.specs.Loose.{plus_none}

contact-between : (a : ℤ) → T (contact_ok a) → (neg_ℤ (pos 67108864) ≤ℤ a) × (a ≤ℤ pos 67108864)
unfolding contact_ok inside
contact-between a t = let k = and_yes (le_z (neg_ℤ (pos 67108864)) a) (le_z a (pos 67108864)) t in (le_z_yes k.0, le_z_yes k.1)

-- of a contact of gradient g that does not pull, whose variable a becomes b
not-below : (g a d : ℤ) {b : ℤ} → b ≡ a +ℤ g *ℤ d → T (contact_ok a) → pos 0 ≤ℤ g → pos 0 ≤ℤ (g *ℤ (a +ℤ b)) → neg_ℤ (pos 67108864) ≤ℤ b
not-below g a d {b} becomes range up none = ⊎_elim pushes stays (<-or-≤ (pos 0) g)
  where
    pushes : pos 0 <ℤ g → neg_ℤ (pos 67108864) ≤ℤ b
    pushes l =
        let total : pos 0 ≤ℤ (a +ℤ b) = cancel-≤ l (≤_trans (≤-of-eq (solve 1 (λ g. g ⊗ # 0 ≐ # 0) tt g)) none) in
        deduce 2 (λ a b. times 1 (a ≼ # 67108864) ∷ times 1 (# 0 ≼ a ⊕ b) ∷ [] ⊢ ⊝ # 67108864 ≼ b) tt a b (contact-between a range).1 total

    stays : g ≤ℤ pos 0 → neg_ℤ (pos 67108864) ≤ℤ b
    stays l = let same : b ≡ a = becomes ∙ plus_none a d (≤-antisym l up) in ≤_trans (contact-between a range).0 (≤-of-eq (sym same))

pub only_above : OnlyAbove
unfolding call_rules setup_rules worked_step next_state contact_ok inside
only_above s neck x F h =
    let rules = call_rules s neck x F in
    let checked : Examined s neck x = examined s neck x (drop 6 rules) h in
    let t : WorkedStep = worked_step s neck x F in
    let ψ : ℕ → ℤ = at t.before.contact in
    let G : ℕ → ℤ = at t.gradients.points in
    let δ : ℕ → ℤ = at t.moves.points in
    let range = in-range-clear s neck (in-range x (fails 11 rules h, tt)) in
    let up = worked-nonneg s neck x F in
    let none-pulls = worked-none-pulls checked F in
    record {
      point = λ i. not-below (G i) (ψ i) (neg_ℤ (δ i))
          (at-contact (examined-clear checked) (cleared s neck x) F t.gradients (spans-last checked F) i ∙ solve 3 (λ a g d. a ⊖ g ⊗ d ≐ a ⊕ g ⊗ ⊝ d) tt (ψ i) (G i) (δ i))
          (at_all contact_ok t.before.contact tt range.contact i) (up.point i) (none-pulls.point i);
      finger = not-below t.gradients.finger t.before.finger.contact (δ (p s) -ℤ t.moves.finger) refl range.finger up.finger none-pulls.finger;
    }
