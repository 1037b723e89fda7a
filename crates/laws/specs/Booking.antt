-- 02, item 6: a booked step is the step, and a booked bend the bend; work, loss and rounding work of an accepted step by the states before and after it, as code
-- has them, and how large they are.
use Rattle.std.specs.Prelude.{◌≡◌, ℤ, ◌+ℤ◌, ◌-ℤ◌, ◌*ℤ◌}
use Rattle.std.proofs.Math.Path.{refl, sym, ap, ap₂}
use Rattle.std.proofs.Common.{◌∙◌, subst, arith}
use mathlib.Core.List.{List, [], ◌∷◌, zip_with}
use Prim.Native.Nat.{ℕ, zero, suc, ◌^◌}
use Rattle.std.proofs.Math.IntN.{pos}
use Rattle.std.proofs.Math.ListN.{length}
use Rattle.std.proofs.Math.Facts.{eqb_no, yes_eqb}
use Rattle.integers.specs.Solve.{◌⊕◌, ◌⊖◌, ◌≐◌, solve}
use Rattle.integers.specs.Size.{◌within◌, ◌⟨+⟩◌, ◌⟨-⟩◌, wide}
use Rattle.model.specs.Ranges.{all, force_ok}
use Rattle.model.specs.Refusal.{first_of, Answer, accepted, refused, unless}
use Rattle.model.specs.Setup.{e, length_ok, setup, setup_rules}
use Rattle.model.specs.Changes.{with_tension, bend}
use Rattle.model.specs.Differences.{at, plus, minus}
use Rattle.model.specs.State.{State, Lent, state_of, put, Neck, Forces}
use Rattle.model.specs.Step.{clear, cleared, worked_step, next_state, buffers_rule, call_rules, result_rules, step_rules, frame, StepResult, step}
use Rattle.model.specs.Energy.{stored_energy, dot_all, released, work, loss}
use Rattle.model.specs.Run.{Bend}
use Rattle.model.specs.Book.{Columns, with_step, with_bend, count_rule, columns_rule}
use Rattle.model.specs.Booking.{booked_rules, BookedResult, booked_step, bent_rules, BentResult, booked_bend}
use Rattle.model.specs.declared.Setup.{Setup}
use Rattle.model.specs.declared.Frame.{Frame}
use Rattle.promises.specs.Promises.{Passed}
use Rattle.promises.specs.Book.{BookedCalls}
use Rattle.laws.specs.Refusals.{fails, passed_first, first-between, passed-append, append-passed, all_yes, not-not, yes-all, by-table, never_both, accepted-by, made_by}
use Rattle.laws.specs.InRange.{in-range, passed-range}
use Rattle.laws.specs.Accepted.{setup-facts, Examined, examined, right-lengths, StepFacts, state_made, result_made, accepted-step}
use Rattle.laws.specs.Balance.{fit}
use Rattle.laws.specs.Sizes.{inside-within}
use Rattle.laws.specs.Ready.{Ready, ready-next}
use Rattle.laws.specs.EnergySizes.{Strings, Held, strings, change-within, height-within, older-height-within, moving_loss, moving-size, released-size, work-within}

-- ---- a ready voice holds a state in range

pub ready_held : {s : Setup} {neck : Neck} {x : State} → Ready s neck x → Held s x
ready_held {s} {neck} {x} r =
    let l = right-lengths s (length neck.heights ∷ length neck.stiffness ∷ length x.newer ∷ length x.older ∷ length x.contact ∷ []) r.buffers.0 in
    record { setup = r.setup; newer-length = l.1.1.0; older-length = l.1.1.1.0; contact-length = l.1.1.1.1.0; range = in-range x r.state }

pub ready-examined : {s : Setup} {neck : Neck} {x : State} → Ready s neck x → Examined s neck x
ready-examined {s} {neck} {x} r = examined s neck x [] (append-passed (setup_rules s) (buffers_rule s neck x ∷ []) r.setup r.buffers)

-- ---- an accepted step by the states before and after it

minus_plus : (v d : List ℤ) → length v ≡ length d → minus (plus v d) v ≡ d
unfolding minus plus zip_with
minus_plus [] [] q = refl
minus_plus [] (y ∷ d) q = absurd (omega arith)
minus_plus (x ∷ v) [] q = absurd (omega arith)
minus_plus (x ∷ v) (y ∷ d) q = ap₂ (λ z w. z ∷ w) (solve 2 (λ x y. x ⊕ y ⊖ x ≐ y) tt x y) (minus_plus v d (omega arith))

module _ {s : Setup} {neck : Neck} {x : State} {F : Forces} {y : State} (h : StepFacts s neck x F y) where
  -- the moves, by the strings and by the finger heights
  moves-are : (worked_step s neck x F).moves.points ≡ minus y.newer x.older
  unfolding next_state worked_step clear
  moves-are = let f = fit F h.examined in sym (ap (λ z. minus z.newer x.older) h.result ∙ minus_plus x.older _ (f.older.long ∙ sym f.moves.long))

  finger-move : (worked_step s neck x F).moves.finger ≡ y.finger.newer -ℤ x.finger.older
  unfolding next_state worked_step clear
  finger-move = sym (ap (λ z. z.finger.newer -ℤ x.finger.older) h.result ∙ solve 2 (λ x y. x ⊕ y ⊖ x ≐ y) tt x.finger.older (worked_step s neck x F).moves.finger)

  pub work_is : work (worked_step s neck x F) ≡ pos 2 *ℤ F.pluck *ℤ at (minus y.newer x.older) (e s) +ℤ pos 2 *ℤ F.finger *ℤ (y.finger.newer -ℤ x.finger.older)
  unfolding work worked_step
  work_is = ap₂ (λ δ z. pos 2 *ℤ F.pluck *ℤ at δ (e s) +ℤ pos 2 *ℤ F.finger *ℤ z) moves-are finger-move

  pub loss_is : loss (worked_step s neck x F) ≡ moving_loss s (minus y.newer x.older) +ℤ pos 2 *ℤ dot_all (cleared s neck x) (cleared s neck x)
  unfolding loss released moving_loss worked_step
  loss_is = ap (λ δ. moving_loss s δ +ℤ pos 2 *ℤ dot_all (cleared s neck x) (cleared s neck x)) moves-are

  -- their sizes
  module _ (before : Held s x) (after : Held s y) where
    pub across : Strings y.newer x.older
    across = let a = strings after in let b = strings before in record { same = after.newer-length ∙ sym before.older-length; some = a.some; most = a.most; newer = a.newer; older = b.older }

    pub loss-size : loss (worked_step s neck x F) within 2 ^ 64
    loss-size = rw loss_is (wide (moving-size (setup-facts s before.setup) across ⟨+⟩ released-size h.examined before) tt)

    pub work-size : work (worked_step s neck x F) within 2 ^ 53
    unfolding force_ok step_rules call_rules setup_rules result_rules next_state worked_step
    work-size =
        let forces = all_yes force_ok (F.pluck ∷ F.finger ∷ []) (fails 12 (step_rules s neck x F) h.passed) in
        rw work_is (work-within (inside-within 1073741824 F.pluck forces.0) (inside-within 1073741824 F.finger forces.1.0) (change-within across (e s)) (height-within after ⟨-⟩ older-height-within before))

  pub stored_next : let t = worked_step s neck x F in stored_energy t.setup (next_state t) ≡ stored_energy s y
  unfolding worked_step
  stored_next = ap (stored_energy s) (sym h.result)

-- ---- a booked step

called-ready : (s : Setup) (neck : Neck) (x : State) (F : Forces) → Passed (call_rules s neck x F) → Ready s neck x
unfolding call_rules
called-ready s neck x F h = let (p, q) = passed-append (setup_rules s) _ h in record { setup = p; buffers = (q.0, tt); heights = (q.1.0, tt); state = (q.1.1.0, tt) }

module _ (s : Setup) (neck : Neck) (v : Lent) (b : Columns) (F : Forces) where
  abbrev y : State
  y = state_made s neck v F

  -- its result, where it is accepted
  abbrev pub booked_made : BookedResult
  booked_made = record { answer = accepted (frame s y); lent = put v y; book = with_step b (worked_step s neck (state_of v) F) y }

  pub booked-accepted : (f : Frame) → (booked_step s neck v b F).answer ≡ accepted f → Passed (booked_rules s neck (state_of v) b F) × (booked_step s neck v b F ≡ booked_made)
  unfolding booked_step booked_rules call_rules result_rules setup_rules
  booked-accepted = accepted-by (λ r. r.answer) (booked_rules s neck (state_of v) b F) tt booked_made _ (λ n. refl)

  pub booked-refused : (n : ℕ) → (booked_step s neck v b F).answer ≡ refused n → ((booked_step s neck v b F).lent ≡ v) × ((booked_step s neck v b F).book ≡ b)
  unfolding booked_step booked_rules call_rules result_rules setup_rules
  booked-refused = by-table (booked_rules s neck (state_of v) b F) tt booked_made _ (λ (r : BookedResult). (n : ℕ) → r.answer ≡ refused n → (r.lent ≡ v) × (r.book ≡ b)) (λ h n q. never_both q refl) (λ k h n q. (refl, refl))

  module _ (h : Passed (booked_rules s neck (state_of v) b F)) where
    abbrev later : Passed (count_rule b ∷ columns_rule b ∷ result_rules y)
    unfolding booked_rules
    later = (passed-append (call_rules s neck (state_of v) F) _ h).1

    calls-passed : Passed (call_rules s neck (state_of v) F)
    unfolding booked_rules
    calls-passed = (passed-append (call_rules s neck (state_of v) F) _ h).0

    step-passed : Passed (step_rules s neck (state_of v) F)
    unfolding step_rules
    step-passed = append-passed (call_rules s neck (state_of v) F) _ calls-passed later.1.1

    pub room : b.count ≡ 4294967295 → ⊥
    room = eqb_no later.0

    -- it is the step
    pub plain_step : step s neck v F ≡ result_made s neck v F
    unfolding step
    plain_step = sym (made_by (step_rules s neck (state_of v) F) (result_made s neck v F) _ (passed_first (step_rules s neck (state_of v) F) step-passed))

    pub step-facts : StepFacts s neck (state_of v) F (state_of (put v y))
    step-facts = subst (λ (r : StepResult). StepFacts s neck (state_of v) F (state_of r.lent)) plain_step (accepted-step s neck v F (frame s y) (ap (λ r. r.answer) plain_step))

    before-ready : Ready s neck (state_of v)
    before-ready = called-ready s neck (state_of v) F calls-passed

    pub before-held : Held s (state_of v)
    before-held = ready_held before-ready

    pub after-held : Held s (state_of (put v y))
    after-held = ready_held (ready-next step-facts before-ready)

  -- where 16 and 17 are passed, the other rows are a step's
  pub same_number : Passed (count_rule b ∷ columns_rule b ∷ []) → first_of (booked_rules s neck (state_of v) b F) ≡ first_of (step_rules s neck (state_of v) F)
  unfolding booked_rules step_rules
  same_number h = first-between (call_rules s neck (state_of v) F) (count_rule b ∷ columns_rule b ∷ []) (result_rules y) h

  pub answered : Passed (count_rule b ∷ columns_rule b ∷ []) → (booked_step s neck v b F).answer ≡ (step s neck v F).answer
  unfolding booked_step step
  answered h = rw (same_number h) (go (first_of (step_rules s neck (state_of v) F)))
    where
      go : (n : ℕ) → (unless n booked_made (λ n. record { answer = refused n; lent = v; book = b })).answer ≡ (unless n (result_made s neck v F) (λ n. record { answer = refused n; lent = v })).answer
      go zero = refl
      go (suc n) = refl

-- ---- a booked bend

-- a setup that is accepted passed 1 to 5, and the other way round
pub setup-passes : (s s' : Setup) → setup s ≡ accepted s' → Passed (setup_rules s) × (s' ≡ s)
unfolding setup setup_rules
setup-passes s s' q = let r = accepted-by (λ (r : Answer Setup). r) (setup_rules s) tt (accepted s) _ (λ n. refl) s' q in (r.0, cc)

pub passes-setup : (s : Setup) → Passed (setup_rules s) → setup s ≡ accepted s
unfolding setup
passes-setup s h = sym (made_by (setup_rules s) (accepted s) _ (passed_first (setup_rules s) h))

module _ (s : Setup) (v : Lent) (b : Columns) (L' : ℕ) where
  abbrev s' : Setup
  s' = with_tension s L'

  abbrev pub bend_of : Bend
  bend_of = record { setup = s; tension = L'; state = state_of v }

  abbrev pub bent_made : BentResult
  bent_made = record { answer = accepted s'; book = with_bend b bend_of }

  pub bent-accepted : (t : Setup) → (booked_bend s v b L').answer ≡ accepted t → Passed (bent_rules s (state_of v) b L') × (booked_bend s v b L' ≡ bent_made)
  unfolding booked_bend bent_rules setup_rules
  bent-accepted = accepted-by (λ r. r.answer) (bent_rules s (state_of v) b L') tt bent_made _ (λ n. refl)

  pub bent-refused : (n : ℕ) → (booked_bend s v b L').answer ≡ refused n → (booked_bend s v b L').book ≡ b
  unfolding booked_bend bent_rules setup_rules
  bent-refused = by-table (bent_rules s (state_of v) b L') tt bent_made _ (λ (r : BentResult). (n : ℕ) → r.answer ≡ refused n → r.book ≡ b) (λ h n q. never_both q refl) (λ k h n q. refl)

  module _ (h : Passed (bent_rules s (state_of v) b L')) where
    pub bent-made : (booked_bend s v b L').answer ≡ accepted s'
    unfolding booked_bend
    bent-made = ap (λ r. r.answer) (sym (made_by (bent_rules s (state_of v) b L') bent_made _ (passed_first (bent_rules s (state_of v) b L') h)))

    pub bent-setup : Passed (setup_rules s')
    unfolding bent_rules
    bent-setup = (passed-append (setup_rules s') _ h).0

    pub bent-held : Held s' (state_of v)
    unfolding bent_rules
    bent-held =
        let x = state_of v in
        let r = (passed-append (setup_rules s') _ h).1 in
        let l = right-lengths s' (length x.newer ∷ length x.older ∷ length x.contact ∷ []) r.0 in
        record { setup = bent-setup; newer-length = l.0; older-length = l.1.0; contact-length = l.1.1.0; range = in-range x (r.1.0, tt) }

  -- of a voice in range and a book that passes 17 a bend is booked where it is accepted
  pub bends-booked : Held s (state_of v) → Passed (columns_rule b ∷ []) → Passed (setup_rules s') → Passed (bent_rules s (state_of v) b L')
  unfolding bent_rules length_ok
  bends-booked h columns setup =
      let x = state_of v in
      let ns = length x.newer ∷ length x.older ∷ length x.contact ∷ [] in
      let long = not-not (all (length_ok s') ns) (yes-all (length_ok s') ns (yes_eqb h.newer-length, (yes_eqb h.older-length, (yes_eqb h.contact-length, tt)))) in
      append-passed (setup_rules s') _ setup (long, ((passed-range x h.range).0, columns))

-- ---- a booked call is the call itself

pub booked-calls : BookedCalls
unfolding bend
booked-calls = record {
  steps = λ s neck v b F f q.
      let (h, r) = booked-accepted s neck v b F f q in (
        plain_step s neck v b F h ∙ ap₂ (λ (a : Answer Frame) (l : Lent). record { answer = a; lent = l }) (sym (ap (λ r. r.answer) r) ∙ q) (ap (λ r. r.lent) (sym r)),
        ap (λ r. r.book) r ∙ ap (with_step b (worked_step s neck (state_of v) F)) (sym (step-facts s neck v b F h).result ∙ ap (λ r. state_of r.lent) (sym r)),
      );
  answers = answered;
  bends = λ s t v b L' q. let (h, r) = bent-accepted s v b L' t q in (passes-setup (with_tension s L') (bent-setup s v b L' h) ∙ sym (ap (λ r. r.answer) r) ∙ q, ap (λ r. r.book) r);
}
