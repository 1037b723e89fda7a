-- 02, item 6: a booked step and a booked bend, with their refusals. Every refusal leaves book and voice unchanged.
use Rattle.std.specs.Prelude.{List, [], ◌∷◌, ◌++◌, ℕ, length}
use Rattle.model.specs.Refusal.{Rule, first_of, Answer, accepted, refused, unless}
use Rattle.model.specs.Setup.{lengths_rule, setup_rules}
use Rattle.model.specs.Changes.{with_tension}
use Rattle.model.specs.State.{State, Lent, state_of, put, Neck, Forces}
use Rattle.model.specs.Step.{worked_step, next_state, state_rule, call_rules, result_rules, frame}
use Rattle.model.specs.Book.{Columns, with_step, with_bend, count_rule, columns_rule}
use Rattle.model.specs.declared.Setup.{Setup}
use Rattle.model.specs.declared.Frame.{Frame}

-- ---- a booked step

-- 16 and 17 come after 12 and before anything is stepped
unfoldable pub booked_rules : Setup → Neck → State → Columns → Forces → List Rule
booked_rules s neck x b F = call_rules s neck x F
    ++ count_rule b
    ∷ columns_rule b
    ∷ result_rules (next_state (worked_step s neck x F))

-- the frame or the number, and the lent buffers, turn, finger and book after the call
pub record BookedResult : Type 0 where
  pub answer : Answer Frame
  pub lent : Lent
  pub book : Columns

unfoldable pub booked_step : Setup → Neck → Lent → Columns → Forces → BookedResult
booked_step s neck v b F =
    let x = state_of v in
    let t = worked_step s neck x F in
    let y = next_state t in
    unless (first_of (booked_rules s neck x b F)) (record { answer = accepted (frame s y); lent = put v y; book = with_step b t y }) (λ n. record { answer = refused n; lent = v; book = b })

-- ---- a booked bend

-- as a bend is refused, then 6 and 11 for the state, then 17
unfoldable pub bent_rules : Setup → State → Columns → ℕ → List Rule
bent_rules s x b L' =
    let s' = with_tension s L' in
    setup_rules s'
    ++ lengths_rule s' (length x.newer ∷ length x.older ∷ length x.contact ∷ [])
    ∷ state_rule x
    ∷ columns_rule b
    ∷ []

-- the setup or the number, and the book after the call
pub record BentResult : Type 0 where
  pub answer : Answer Setup
  pub book : Columns

unfoldable pub booked_bend : Setup → Lent → Columns → ℕ → BentResult
booked_bend s v b L' =
    let x = state_of v in
    unless (first_of (bent_rules s x b L')) (record { answer = accepted (with_tension s L'); book = with_bend b record { setup = s; tension = L'; state = x } }) (λ n. record { answer = refused n; book = b })
