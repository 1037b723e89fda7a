-- What passed the rows 1 to 12, 16 and 17 is ready, and is stepped and booked.
use Rattle.std.proofs.Common.{◌≡◌, sym, ◌∙◌, ap}
use Rattle.std.specs.Prelude.{Bool, true, false, not, List, [], ◌∷◌, drop}
use Rattle.model.specs.Book.{Columns, columns, count_rule, columns_rule}
use Rattle.model.specs.Booking.{BookedResult, booked_rules, booked_step}
use Rattle.model.specs.Lending.{the_neck, the_lent}
use Rattle.model.specs.Ranges.{all, force_ok}
use Rattle.model.specs.Refusal.{Rule, first_of, number, refused}
use Rattle.model.specs.Setup.{setup_rules}
use Rattle.model.specs.State.{Lent, state_of, Neck, Forces}
use Rattle.model.specs.Step.{worked_step, next_state, call_rules, result_rules}
use Rattle.model.specs.declared.Setup.{Setup}
use Rattle.model.specs.declared.refusal.Refusal as Refusals
use Rattle.laws.specs.Answered.{handed-on, refused-rows, turned-down}
use Rattle.laws.specs.Call.{buffer_rows, state_rows, buffers-reached, call-ready, judged-in-order}
use Rattle.laws.specs.Ready.{Ready}
use Rattle.laws.specs.Refusals.{row-holds-not, row-passed-not, row-fact}
use Rattle.book.specs.Entering.{rows-passed}
use Rattle.booked_step.specs.BookedStep.{rows-after}
use Rattle.booked_step.proofs.step_booked.Goals as goal

module _ (s : Setup) (neck : Neck) (v : Lent) (b : Columns) (F : Forces) where
  abbrev table : List Rule
  table = booked_rules s neck (state_of v) b F

  abbrev Refused : Refusals.Refusal → Type 0
  Refused e = ◌≡◌ {A = BookedResult} (record { answer = refused (number e); lent = v; book = b }) (booked_step s neck v b F)

  turned_down : (e : Refusals.Refusal) → first_of table ≡ number e → Refused e
  unfolding booked_step
  turned_down e given = turned-down table _ _ e given

  at-buffers : (e : Refusals.Refusal) → number e ≡ first_of (buffer_rows s neck (state_of v)) → Refused e
  unfolding booked_rules call_rules setup_rules
  at-buffers e judged = turned_down e (refused-rows (buffer_rows s neck (state_of v)) e judged (drop 6 table))

  at-state : (e : Refusals.Refusal) → 0 ≡ first_of (buffer_rows s neck (state_of v)) → number e ≡ first_of (state_rows neck.heights (state_of v)) → Refused e
  unfolding booked_rules call_rules setup_rules
  at-state e passed judged =
      turned_down e ((buffers-reached s neck (state_of v) (sym passed) (drop 6 table)).number ∙ refused-rows (state_rows neck.heights (state_of v)) e judged (drop 8 table))

  -- a ready voice
  module _ (ready : Ready s neck (state_of v)) {t : Bool} (e-12 : t ≡ all force_ok (F.pluck ∷ F.finger ∷ [])) where
    at-12 : t ≡ false → Refused Refusals.Refusal.Force
    at-12 h = turned_down Refusals.Refusal.Force (row-holds-not {rules = table} (record { number = rows-after s neck v b F ready }) e-12 (ap not h))

    at-book : t ≡ true → (e : Refusals.Refusal) → number e ≡ first_of (count_rule b ∷ columns_rule b ∷ []) → Refused e
    at-book h e judged =
        let after-12 = row-passed-not {rules = table} (record { number = rows-after s neck v b F ready }) e-12 (ap not h) in
        turned_down e (after-12.number ∙ refused-rows (count_rule b ∷ columns_rule b ∷ []) e judged (result_rules (next_state (worked_step s neck (state_of v) F))))

pub returns-in_err-examine_buffers-clause-booked : goal.returns-in_err-examine_buffers-clause-booked
returns-in_err-examine_buffers-clause-booked c =
    let s = c.args.setup in
    let neck = the_neck c.args.neck in
    let v = the_lent c.args.lent.now in
    rw (handed-on _ _ c.from_residual.ensures) (at-buffers s neck v _ _ _ (judged-in-order v (buffer_rows s neck) _ c.in_order-state.ensures c.in_err-examine_buffers.ensures))

pub returns-in_err-examine_state-clause-booked : goal.returns-in_err-examine_state-clause-booked
returns-in_err-examine_state-clause-booked c =
    let s = c.args.setup in
    let neck = the_neck c.args.neck in
    let v = the_lent c.args.lent.now in
    rw (handed-on _ _ c.from_residual-in_err-examine_state.ensures)
    (at-state s neck v _ _ _ (judged-in-order v (buffer_rows s neck) 0 c.in_order-state.ensures c.in_ok-examine_buffers.ensures) (judged-in-order v (state_rows neck.heights) _ c.in_order-state.ensures c.in_err-examine_state.ensures))

pub returns-then-not-forces_ok-clause-booked : goal.returns-then-not-forces_ok-clause-booked
returns-then-not-forces_ok-clause-booked c =
    let s = c.args.setup in
    let neck = the_neck c.args.neck in
    let v = the_lent c.args.lent.now in
    let ready = call-ready s neck (state_of v) (sym (judged-in-order v (buffer_rows s neck) 0 c.in_order-state.ensures c.in_ok-examine_buffers.ensures)) (sym (judged-in-order v (state_rows neck.heights) 0 c.in_order-state.ensures c.in_ok-examine_state.ensures)) in
    at-12 s neck v _ _ ready c.forces_ok.ensures c.if-not-forces_ok.true

pub returns-in_err-examine_book-clause-booked : goal.returns-in_err-examine_book-clause-booked
returns-in_err-examine_book-clause-booked c =
    let s = c.args.setup in
    let neck = the_neck c.args.neck in
    let v = the_lent c.args.lent.now in
    let ready = call-ready s neck (state_of v) (sym (judged-in-order v (buffer_rows s neck) 0 c.in_order-state.ensures c.in_ok-examine_buffers.ensures)) (sym (judged-in-order v (state_rows neck.heights) 0 c.in_order-state.ensures c.in_ok-examine_state.ensures)) in
    rw (handed-on _ _ c.from_residual-in_err-examine_book.ensures) (at-book s neck v _ _ ready c.forces_ok.ensures c.if-not-forces_ok.false _ c.in_err-examine_book.ensures)

pub booked_ready-requires : goal.booked_ready-requires
booked_ready-requires c =
    let s = c.args.setup in
    let neck = the_neck c.args.neck in
    let v = the_lent c.args.lent.now in
    let ready = call-ready s neck (state_of v) (sym (judged-in-order v (buffer_rows s neck) 0 c.in_order-state.ensures c.in_ok-examine_buffers.ensures)) (sym (judged-in-order v (state_rows neck.heights) 0 c.in_order-state.ensures c.in_ok-examine_state.ensures)) in
    (ready, row-fact c.forces_ok.ensures (ap not c.if-not-forces_ok.false), rows-passed (columns c.args.book.now) c.in_ok-examine_book.ensures)
