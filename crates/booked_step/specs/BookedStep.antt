-- What a booked step answers and leaves, by the step that it makes.
use Rattle.std.proofs.Math.Path.{◌≡◌, refl, ap}
use Rattle.std.proofs.Common.{sym, ◌∙◌}
use Rattle.std.specs.Prelude.{List, [], ◌∷◌, ℤ}
use Prim.Native.Nat.{ℕ, zero, suc}
use Rattle.model.specs.Refusal.{Answer, accepted, refused, first_of, unless}
use Rattle.model.specs.Setup.{setup_rules}
use Rattle.model.specs.State.{Lent, state_of, Neck, Forces}
use Rattle.model.specs.Step.{worked_step, next_state, step_rules, call_rules, result_rules, forces_rule, StepResult, step}
use Rattle.model.specs.Book.{Columns, with_step, count_rule, columns_rule}
use Rattle.model.specs.Booking.{booked_rules, BookedResult, booked_step}
use Rattle.model.specs.Answers.{step_result}
use Rattle.model.specs.declared.Setup.{Setup}
use Rattle.model.specs.declared.Finger.{Finger}
use Rattle.model.specs.declared.Stepped.{Stepped}
use Rattle.promises.specs.Promises.{Passed}
use Rattle.laws.specs.Accepted.{result_made}
use Rattle.laws.specs.Ready.{Ready, rows_left}
use Rattle.laws.specs.Booking.{booked_made, same_number}

-- the book is entered just when the step is accepted
abbrev pub if_accepted : {B : Type 0} → Answer B → Columns → Columns → Columns
if_accepted (accepted a) new old = new
if_accepted (refused n) new old = old

module _ (s : Setup) (neck : Neck) (v : Lent) (b : Columns) (F : Forces) where
  abbrev pub made : Columns
  made = let t = worked_step s neck (state_of v) F in with_step b t (next_state t)

  abbrev pub booked : StepResult → BookedResult
  booked q = record { answer = q.answer; lent = q.lent; book = if_accepted q.answer made b }

  -- the rows that a ready voice has left
  pub rows-after : Ready s neck (state_of v) → first_of (booked_rules s neck (state_of v) b F) ≡ first_of (forces_rule F ∷ count_rule b ∷ columns_rule b ∷ result_rules (next_state (worked_step s neck (state_of v) F)))
  unfolding booked_rules call_rules setup_rules
  rows-after ready = rows_left ready (forces_rule F ∷ count_rule b ∷ columns_rule b ∷ result_rules (next_state (worked_step s neck (state_of v) F)))

  pub by-step : Passed (count_rule b ∷ columns_rule b ∷ []) → booked (step s neck v F) ≡ booked_step s neck v b F
  unfolding step booked_step
  by-step rows = go (first_of (step_rules s neck (state_of v) F)) ∙ ap (λ n. unless n (booked_made s neck v b F) turned_down) (sym (same_number s neck v b F rows))
    where
      turned_down : ℕ → BookedResult
      turned_down n = record { answer = refused n; lent = v; book = b }

      go : (n : ℕ) → booked (unless n (result_made s neck v F) (λ n. record { answer = refused n; lent = v })) ≡ unless n (booked_made s neck v b F) turned_down
      go zero = refl
      go (suc n) = refl

-- ---- by the turn

-- what a booked step leaves, by the answer of its step and the book after it
abbrev pub booked_result : ℕ → Finger → Answer Stepped → Columns → List ℤ → List ℤ → List ℤ → BookedResult
booked_result turn finger (accepted a) w first second contact = record { answer = accepted a.frame; lent = record { first = first; second = second; contact = contact; turn = a.turn; finger = a.finger }; book = w }
booked_result turn finger (refused n) w first second contact = record { answer = refused n; lent = record { first = first; second = second; contact = contact; turn = turn; finger = finger }; book = w }

pub in_parts : (turn : ℕ) (finger : Finger) (w : Columns) (r : Answer Stepped) (first second contact : List ℤ) → let q = step_result turn finger r first second contact in
    booked_result turn finger r w first second contact ≡ record { answer = q.answer; lent = q.lent; book = w }
in_parts turn finger w (accepted a) first second contact = refl
in_parts turn finger w (refused n) first second contact = refl

-- the book is entered just when the step is accepted
pub either : (turn : ℕ) (finger : Finger) (r : Answer Stepped) (first second contact : List ℤ) (new old : Columns)
    → if_accepted r new old ≡ if_accepted (step_result turn finger r first second contact).answer new old
either turn finger (accepted a) first second contact new old = refl
either turn finger (refused n) first second contact new old = refl
