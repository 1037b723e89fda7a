-- What passed the rows 1 to 5, 6, 7 and 11 is ready, and advances.
use Rattle.std.proofs.Common.{◌≡◌, sym, ◌∙◌}
use Rattle.std.specs.Prelude.{drop}
use Rattle.model.specs.Lending.{the_neck, the_lent}
use Rattle.model.specs.Refusal.{first_of, number, refused}
use Rattle.model.specs.Setup.{setup_rules}
use Rattle.model.specs.State.{Lent, state_of, Neck, Forces}
use Rattle.model.specs.Step.{call_rules, step_rules, StepResult, step}
use Rattle.model.specs.declared.Setup.{Setup}
use Rattle.model.specs.declared.refusal.Refusal.{Refusal}
use Rattle.laws.specs.Answered.{handed-on, refused-rows, turned-down}
use Rattle.laws.specs.Call.{buffer_rows, state_rows, buffers-reached, call-ready, judged-in-order}
use Rattle.step.proofs.step.Goals as goal

-- a refusal of the rows 1 to 6, and of 7 and 11
module _ (s : Setup) (neck : Neck) (v : Lent) (F : Forces) (e : Refusal) where
  turned_down : first_of (step_rules s neck (state_of v) F) ≡ number e → ◌≡◌ {A = StepResult} (record { answer = refused (number e); lent = v }) (step s neck v F)
  unfolding step
  turned_down given = turned-down (step_rules s neck (state_of v) F) _ _ e given

  at-buffers : number e ≡ first_of (buffer_rows s neck (state_of v)) → ◌≡◌ {A = StepResult} (record { answer = refused (number e); lent = v }) (step s neck v F)
  unfolding step_rules call_rules setup_rules
  at-buffers judged = turned_down (refused-rows (buffer_rows s neck (state_of v)) e judged (drop 6 (step_rules s neck (state_of v) F)))

  at-state : 0 ≡ first_of (buffer_rows s neck (state_of v)) → number e ≡ first_of (state_rows neck.heights (state_of v)) → ◌≡◌ {A = StepResult} (record { answer = refused (number e); lent = v }) (step s neck v F)
  unfolding step_rules call_rules setup_rules
  at-state passed judged =
      let rules = step_rules s neck (state_of v) F in
      turned_down ((buffers-reached s neck (state_of v) (sym passed) (drop 6 rules)).number ∙ refused-rows (state_rows neck.heights (state_of v)) e judged (drop 8 rules))

pub returns-in_err-examine_buffers-clause-stepped : goal.returns-in_err-examine_buffers-clause-stepped
returns-in_err-examine_buffers-clause-stepped c =
    let s = c.args.setup in
    let neck = the_neck c.args.neck in
    let v = the_lent c.args.lent.now in
    rw (handed-on _ _ c.from_residual.ensures) (at-buffers s neck v _ _ (judged-in-order v (buffer_rows s neck) _ c.in_order-state.ensures c.in_err-examine_buffers.ensures))

pub returns-in_err-examine_state-clause-stepped : goal.returns-in_err-examine_state-clause-stepped
returns-in_err-examine_state-clause-stepped c =
    let s = c.args.setup in
    let neck = the_neck c.args.neck in
    let v = the_lent c.args.lent.now in
    let passed = judged-in-order v (buffer_rows s neck) _ c.in_order-state.ensures c.in_ok-examine_buffers.ensures in
    rw (handed-on _ _ c.from_residual-in_err-examine_state.ensures) (at-state s neck v _ _ passed (judged-in-order v (state_rows neck.heights) _ c.in_order-state.ensures c.in_err-examine_state.ensures))

pub step_ready-requires : goal.step_ready-requires
step_ready-requires c =
    let s = c.args.setup in
    let neck = the_neck c.args.neck in
    let v = the_lent c.args.lent.now in
    let passed = judged-in-order v (buffer_rows s neck) 0 c.in_order-state.ensures c.in_ok-examine_buffers.ensures in
    call-ready s neck (state_of v) (sym passed) (sym (judged-in-order v (state_rows neck.heights) 0 c.in_order-state.ensures c.in_ok-examine_state.ensures))
