-- The step is made, and its book is worked out from the states before and after it.
use Rattle.std.proofs.Common.{◌≡◌, sym, ◌∙◌, ap, subst, length, take}
use Rattle.std.specs.Prelude.{[], ◌∷◌, ◌^◌, T}
use Rattle.std.proofs.Math.Facts.{and_yes}
use Rattle.integers.specs.Size.{◌within◌}
use Rattle.model.specs.Book.{Columns, columns, with_step, count_rule, columns_rule}
use Rattle.model.specs.Booking.{BookedResult, booked_step}
use Rattle.model.specs.Lending.{the_neck, the_lent}
use Rattle.model.specs.Ranges.{all, force_ok, displacement_ok}
use Rattle.model.specs.Refusal.{accepted}
use Rattle.model.specs.State.{State, Lent, state_of, Neck, Forces}
use Rattle.model.specs.Step.{worked_step, StepResult, step}
use Rattle.model.specs.Wide.{value}
use Rattle.model.specs.declared.Frame.{Frame}
use Rattle.model.specs.declared.Setup.{Setup}
use Rattle.promises.specs.Promises.{Passed}
use Rattle.laws.specs.Accepted.{StepFacts, accepted-step}
use Rattle.laws.specs.Answered.{handed-on}
use Rattle.laws.specs.Booking.{ready_held, ready-examined}
use Rattle.laws.specs.EnergySizes.{Strings, Held, strings, energy-size, released-size}
use Rattle.laws.specs.Ready.{Ready, ready-next}
use Rattle.book.specs.Entering.{Passing, book-passing}
use Rattle.booked_step.specs.declared.booking.Before as Declared
use Rattle.booked_step.specs.Booking.{Before, kept, before, with_parts, books-step}
use Rattle.booked_step.specs.BookedStep.{booked, by-step}
use Rattle.booked_step.proofs.ready.booked_ready.Goals as goal

-- an accepted step, which left w
module _ (s : Setup) (neck : Neck) (v : Lent) (F : Forces) (ready : Ready s neck (state_of v)) {f : Frame} {w : Lent} (stepped : ◌≡◌ {A = StepResult} (record { answer = accepted f; lent = w }) (step s neck v F)) where
  facts : StepFacts s neck (state_of v) F (state_of w)
  facts = subst (λ (r : StepResult). StepFacts s neck (state_of v) F (state_of r.lent)) (sym stepped) (accepted-step s neck v F f (ap (λ r. r.answer) (sym stepped)))

  held : Held s (state_of w)
  held = ready_held (ready-next facts ready)

  across : Strings (state_of w).newer (state_of v).older
  across = let b = ready_held ready in let a = strings held in record { same = held.newer-length ∙ sym b.older-length; some = a.some; most = a.most; newer = a.newer; older = b.range.older }

  -- what was kept of the state before it
  module _ (k : Declared.Before) (is : kept (length (state_of v).older) k ≡ before s neck (state_of v)) where
    kept_is : kept (length (state_of w).newer) k ≡ before s neck (state_of v)
    kept_is = let b = ready_held ready in ap (λ n. kept n k) (held.newer-length ∙ sym b.older-length) ∙ is

    across-kept : Strings (state_of w).newer (take (length (state_of w).newer) k.older)
    across-kept = subst (λ (q : Before). Strings (state_of w).newer q.older) (sym kept_is) across

    stored-size : value k.stored within 2 ^ 65
    stored-size = subst (λ (q : Before). q.stored within 2 ^ 65) (sym is) (energy-size (ready_held ready))

    let-go-size : k.released within 2 ^ 60
    let-go-size = subst (λ (q : Before). q.released within 2 ^ 60) (sym is) (released-size (ready-examined ready) (ready_held ready))

    height-range : T (displacement_ok k.height)
    height-range = let b = ready_held ready in subst (λ (q : Before). T (displacement_ok q.height)) (sym is) b.range.older-height

    entered : (b : Columns) → Passed (count_rule b ∷ columns_rule b ∷ []) → {c : Columns} → c ≡ with_parts s b (kept (length (state_of w).newer) k) (state_of w) F
        → ◌≡◌ {A = BookedResult} (record { answer = accepted f; lent = w; book = c }) (booked_step s neck v b F)
    entered b rows e =
        let t = worked_step s neck (state_of v) F in
        let book-is = e ∙ ap (λ (q : Before). with_parts s b q (state_of w) F) kept_is ∙ books-step facts b ∙ ap (with_step b t) facts.result in
        (λ i. record { answer = accepted f; lent = w; book = book-is i }) ∙ ap (booked s neck v b F) stepped ∙ by-step s neck v b F rows

pub returns-in_err-frame-clause-booked : goal.returns-in_err-frame-clause-booked
returns-in_err-frame-clause-booked c =
    let s = c.args.setup in
    let neck = the_neck c.args.neck in
    let v = the_lent c.args.lent.now in
    let b = columns c.args.book.now in
    let F : Forces = record { pluck = c.args.forces.pluck; finger = c.args.forces.finger } in
    rw (handed-on _ _ c.from_residual.ensures) (ap (booked s neck v b F) c.in_err-frame.ensures.stepped ∙ by-step s neck v b F c.requires.2)

pub book_step-requires : goal.book_step-requires
book_step-requires c =
    let s = c.args.setup in
    let neck = the_neck c.args.neck in
    let v = the_lent c.args.lent.now in
    let F : Forces = record { pluck = c.args.forces.pluck; finger = c.args.forces.finger } in
    let k = c.before_step-before.result in
    let made = c.in_ok-frame.ensures.stepped in
    let ready = c.requires.0 in
    let is = subst (λ (x : State). kept (length x.older) k ≡ before c.args.setup (the_neck c.args.neck) x) c.state_of.ensures c.before_step-before.ensures.1 in
    let forces = and_yes (force_ok c.args.forces.pluck) (all force_ok (c.args.forces.finger ∷ [])) c.requires.1 in
    let finger = (and_yes (force_ok c.args.forces.finger) (all force_ok []) forces.1).0 in
    subst (λ (y : State). Held c.args.setup y × (length k.older ≡ 127) × Strings y.newer (take (length y.newer) k.older) × (value k.stored within 2 ^ 65) × (k.released within 2 ^ 60)
    × T (force_ok c.args.forces.pluck) × T (force_ok c.args.forces.finger) × T (displacement_ok k.height) × Passing c.args.book.now × Passed (count_rule (columns c.args.book.now) ∷ [])) (sym c.state_of-2.ensures) (
      held s neck v F ready made,
      c.before_step-before.ensures.0,
      across-kept s neck v F ready made k is,
      stored-size s neck v F ready made k is,
      let-go-size s neck v F ready made k is,
      forces.0,
      finger,
      height-range s neck v F ready made k is,
      book-passing c.args.book.now c.requires.2.1,
      (c.requires.2.0, tt),
    )

pub returns-clause-booked : goal.returns-clause-booked
returns-clause-booked c =
    let k = c.before_step-before.result in
    let is = subst (λ (x : State). kept (length x.older) k ≡ before c.args.setup (the_neck c.args.neck) x) c.state_of.ensures c.before_step-before.ensures.1 in
    entered c.args.setup _ (the_lent c.args.lent.now) _ c.requires.0 c.in_ok-frame.ensures.stepped k is (columns c.args.book.now) c.requires.2 (
    c.book_step.ensures
    ∙ ap (λ (y : State). with_parts c.args.setup (columns c.args.book.now) (kept (length y.newer) k) y (record { pluck = c.args.forces.pluck; finger = c.args.forces.finger })) c.state_of-2.ensures
    )
