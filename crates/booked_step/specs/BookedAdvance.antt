-- A booked step of a voice that is ready, from its state: what it answers, writes and books, by the step that it makes.
use Rattle.std.specs.Prelude.{◌≡◌, [], ◌∷◌, ℕ, T}
use Rattle.std.proofs.Math.Path.{refl, ap}
use Rattle.std.proofs.Common.{sym, ◌∙◌}
use Rattle.model.specs.Ranges.{all, force_ok}
use Rattle.model.specs.Refusal.{accepted}
use Rattle.model.specs.Setup.{setup_rules}
use Rattle.model.specs.Neck.{heights_rule}
use Rattle.model.specs.State.{State, Neck, Forces}
use Rattle.model.specs.Step.{worked_step, next_state, frame, buffers_rule, state_rule, step_rules, call_rules, result_rules, forces_rule}
use Rattle.model.specs.Book.{Columns, with_step}
use Rattle.model.specs.declared.Setup.{Setup}
use Rattle.model.specs.declared.Stepped.{Stepped}
use Rattle.promises.specs.Promises.{Passed}
use Rattle.laws.specs.Accepted.{StepFacts, examined}
use Rattle.laws.specs.Booking.{ready_held}
use Rattle.laws.specs.EnergySizes.{Held}
use Rattle.laws.specs.Ready.{Ready, ready-next}
use Rattle.laws.specs.Refusals.{append-passed, not-not, accepted-by}
use Rattle.laws.specs.Advance.{Advanced, advance, late_rules}
use Rattle.booked_step.specs.BookedStep.{if_accepted}

-- the answer and what lies in the buffers, and the book after it
pub record BookedAdvanced : Type 0 where
  pub advanced : Advanced
  pub book : Columns

unfoldable pub booked_advance : ℕ → Setup → Neck → State → Forces → Columns → BookedAdvanced
booked_advance turn s neck x F b =
    let t = worked_step s neck x F in
    let a = advance turn s neck x F in
    record { advanced = a; book = if_accepted a.answer (with_step b t (next_state t)) b }

-- ---- the step that a ready voice makes

module _ {s : Setup} {neck : Neck} {x : State} (F : Forces) (ready : Ready s neck x) (forces : T (all force_ok (F.pluck ∷ F.finger ∷ []))) where
  abbrev y : State
  y = next_state (worked_step s neck x F)

  calls-passed : Passed (call_rules s neck x F)
  unfolding call_rules
  calls-passed = append-passed (setup_rules s) (buffers_rule s neck x ∷ heights_rule neck.heights ∷ state_rule x ∷ forces_rule F ∷ []) ready.setup
      (ready.buffers.0, (ready.heights.0, (ready.state.0, (not-not (all force_ok (F.pluck ∷ F.finger ∷ [])) forces, tt))))

  -- where it is accepted
  pub record Made (turn : ℕ) (a : Advanced) (st : Stepped) : Type 0 where
    pub facts : StepFacts s neck x F y
    pub held : Held s y
    pub older : a.older ≡ y.newer
    pub contact : a.contact ≡ y.contact
    pub stepped : st ≡ record { turn = turn; finger = y.finger; frame = frame s y }

  pub made : (turn : ℕ) (a : Advanced) → a ≡ advance turn s neck x F → (st : Stepped) → a.answer ≡ accepted st → Made turn a st
  unfolding advance late_rules step_rules result_rules call_rules
  made turn a e st q =
      let rules = late_rules s neck x F in
      let (h, r) = accepted-by (λ (r : Advanced). r.answer) rules tt _ _ (λ n. refl) st (ap (λ r. r.answer) (sym e) ∙ q) in
      let facts : StepFacts s neck x F y = record { passed = append-passed (call_rules s neck x F) (result_rules y) calls-passed h.1; examined = examined s neck x _ calls-passed; result = refl } in
      record {
        facts = facts;
        held = ready_held (ready-next facts ready);
        older = ap (λ r. r.older) (e ∙ r);
        contact = ap (λ r. r.contact) (e ∙ r);
        stepped = same (sym q ∙ ap (λ r. r.answer) (e ∙ r));
      }
    where
      same : {a b : Stepped} → accepted a ≡ accepted b → a ≡ b
      same q = cc
