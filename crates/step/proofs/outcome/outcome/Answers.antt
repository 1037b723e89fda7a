-- The rows 13 and 14 are gone through, and a passed table leads to the state that was worked out.
use Rattle.std.proofs.Common.{◌≡◌, ◌∙◌, ap, arith, rules, to_z, of_z, to_z-of_z}
use Rattle.std.specs.Prelude.{◌∷◌, Bool, not, true, false}
use Rattle.std.specs.Int.{w64}
use Rattle.model.specs.Differences.{at}
use Rattle.model.specs.Ranges.{all, displacement_ok, contact_ok}
use Rattle.model.specs.State.{State}
use Rattle.model.specs.Step.{result_rules, frame, frame_of}
use Rattle.model.specs.Refusal.{accepted, first_of}
use Rattle.laws.specs.Refusals.{reached-top, row-passed-not, row-holds-not}
use Rattle.step.specs.Outcome.{outcome-refused, outcome-made}
use Rattle.step.proofs.outcome.outcome.Goals as goal

-- by what the two rows answered
module _ (y : State) {t-13 : Bool} (e-13 : t-13 ≡ all displacement_ok (y.finger.newer ∷ y.newer)) where
  held-13 : t-13 ≡ false → first_of (result_rules y) ≡ 13
  unfolding result_rules
  held-13 l = row-holds-not reached-top e-13 (ap not l)

  module _ (l-13 : t-13 ≡ true) {t-14 : Bool} (e-14 : t-14 ≡ all contact_ok (y.finger.contact ∷ y.contact)) where
    held-14 : t-14 ≡ false → first_of (result_rules y) ≡ 14
    unfolding result_rules
    held-14 l = row-holds-not (row-passed-not reached-top e-13 (ap not l-13)) e-14 (ap not l)

    passed : t-14 ≡ true → first_of (result_rules y) ≡ 0
    unfolding result_rules
    passed l = (row-passed-not (row-passed-not reached-top e-13 (ap not l-13)) e-14 (ap not l)).number

pub returns-then-not-new_string_ok : goal.returns-then-not-new_string_ok
returns-then-not-new_string_ok c =
    let height : to_z w64 (of_z w64 c.args.next.height) ≡ c.args.next.height = search rules in
    outcome-refused _ _ _ _ _ 13 (held-13 _ (c.new_string_ok.ensures ∙ ap (λ z. all displacement_ok (z ∷ c.args.string.now)) height) c.if-not-new_string_ok.true) (λ z. omega arith)

pub returns-then-not-new_contact_variables_ok : goal.returns-then-not-new_contact_variables_ok
returns-then-not-new_contact_variables_ok c =
    let height : to_z w64 (of_z w64 c.args.next.height) ≡ c.args.next.height = search rules in
    let variable : to_z w64 (of_z w64 c.args.next.contact) ≡ c.args.next.contact = search rules in
    outcome-refused _ _ _ _ _ 14 (held-14 _ (c.new_string_ok.ensures ∙ ap (λ z. all displacement_ok (z ∷ c.args.string.now)) height) c.if-not-new_string_ok.false
    (c.new_contact_variables_ok.ensures ∙ ap (λ z. all contact_ok (z ∷ c.args.contacts.now)) variable) c.if-not-new_contact_variables_ok.true) (λ z. omega arith)

pub returns : goal.returns
unfolding frame
returns c =
    let height : to_z w64 (of_z w64 c.args.next.height) ≡ c.args.next.height = search rules in
    let variable : to_z w64 (of_z w64 c.args.next.contact) ≡ c.args.next.contact = search rules in
    let string_is = c.copy_from_slice.ensures.after in
    let finger_is = c.next_finger-finger.ensures ∙ ap (λ older. record { newer = c.args.next.height; older = older; contact = c.args.next.contact }) (to_z-of_z c.ranges.height) in
    let frame_is = c.pickup_frame-frame.ensures ∙ ap (λ l. frame_of (at l c.args.setup.bridge_place) (at l c.args.setup.neck_place)) string_is in
    (λ i. record { answer = accepted record { turn = c.args.turn; finger = finger_is i; frame = frame_is i }; older = string_is i; contact = c.copy_from_slice-2.ensures.after i })
    ∙ outcome-made _ _ _ _ _ (passed _ (c.new_string_ok.ensures ∙ ap (λ z. all displacement_ok (z ∷ c.args.string.now)) height) c.if-not-new_string_ok.false
    (c.new_contact_variables_ok.ensures ∙ ap (λ z. all contact_ok (z ∷ c.args.contacts.now)) variable) c.if-not-new_contact_variables_ok.false)
