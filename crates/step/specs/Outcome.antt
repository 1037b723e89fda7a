-- The outcome of a step that is worked out: 13 or 14 and nothing written, or its state taken over.
use Rattle.std.specs.Prelude.{◌≡◌, List, ℕ, ℤ, drop}
use Rattle.std.proofs.Common.{sym, ap}
use Rattle.model.specs.Refusal.{first_of, accepted, refused, unless}
use Rattle.model.specs.State.{State, Neck, Forces}
use Rattle.model.specs.Step.{worked_step, next_state, result_rules, frame}
use Rattle.model.specs.declared.Setup.{Setup}
use Rattle.laws.specs.Advance.{Advanced, advanced_result, late_rules, advance}
use Rattle.laws.specs.Refusals.{Reached, made_by, refused-by}

-- of a step that leads to the state y, with these in the buffers of the older string and of the contact variables
unfoldable pub outcome : ℕ → Setup → State → List ℤ → List ℤ → Advanced
outcome turn s y older contact =
    unless (first_of (result_rules y))
    (record { answer = accepted record { turn = turn; finger = y.finger; frame = frame s y }; older = y.newer; contact = y.contact })
    (λ n. record { answer = refused n; older = older; contact = contact })

-- by the number that its table gave
module _ (turn : ℕ) (s : Setup) (y : State) (older contact : List ℤ) where
  pub outcome-refused : (n : ℕ) → first_of (result_rules y) ≡ n → (n ≡ 0 → ⊥) → advanced_result (refused n) older contact ≡ outcome turn s y older contact
  unfolding outcome
  outcome-refused n e h = refused-by (result_rules y) _ _ n e h

  pub outcome-made : first_of (result_rules y) ≡ 0 → advanced_result (accepted record { turn = turn; finger = y.finger; frame = frame s y }) y.newer y.contact ≡ outcome turn s y older contact
  unfolding outcome
  outcome-made e = made_by (result_rules y) _ _ e

-- with 12 passed, the outcome is all that is left of the step. The older string of the state that it leads to is not looked at
pub by-outcome : (turn : ℕ) (s : Setup) (neck : Neck) (x : State) (F : Forces) (older : List ℤ) → Reached (late_rules s neck x F) (drop 1 (late_rules s neck x F))
    → (let y = next_state (worked_step s neck x F) in outcome turn s (record { newer = y.newer; older = older; contact = y.contact; finger = y.finger }) x.older x.contact ≡ advance turn s neck x F)
unfolding outcome advance late_rules result_rules frame
by-outcome turn s neck x F older passed =
    let y = next_state (worked_step s neck x F) in
    ap (λ (n : ℕ). unless n
    (record { answer = accepted record { turn = turn; finger = y.finger; frame = frame s y }; older = y.newer; contact = y.contact })
    (λ n. record { answer = refused n; older = x.older; contact = x.contact })) (sym passed.number)
