-- A step of a voice that is ready: rows 1 to 5, 6, 7 and 11 are passed, so that 12, 13 and 14 are left, and the turn has selected newer and older string.
use Rattle.std.specs.Prelude.{◌≡◌, Bool, true, false, not, ◌&&◌, ℤ, length}
use Rattle.std.proofs.Math.Path.{refl}
use Rattle.std.proofs.Common.{sym, ◌∙◌, ap, arith}
use Rattle.std.proofs.Math.Bool.{and_comm}
use mathlib.Core.List.{List, [], ◌∷◌}
use Prim.Native.Nat.{ℕ, zero, suc}
use Rattle.model.specs.Ranges.{all, displacement_ok, contact_ok}
use Rattle.model.specs.Refusal.{Rule, ◌when◌, first_of, Answer, accepted, refused, unless}
use Rattle.model.specs.Setup.{length_ok, setup_rules}
use Rattle.model.specs.State.{State, Lent, by_turn, state_of, put, Neck, Forces}
use Rattle.model.specs.Step.{worked_step, next_state, buffers_rule, state_ok, forces_rule, call_rules, result_rules, step_rules, frame, StepResult, step}
use Rattle.model.specs.Answers.{step_result}
use Rattle.model.specs.declared.Setup.{Setup}
use Rattle.model.specs.declared.Stepped.{Stepped}
use Rattle.laws.specs.Refusals.{all-parts}
use Rattle.laws.specs.Ready.{Ready, rows_left}

-- the answer, and what then lies in the buffers of the older string and of the contact variables
pub record Advanced : Type 0 where
  pub answer : Answer Stepped
  pub older : List ℤ
  pub contact : List ℤ

abbrev pub advanced_result : Answer Stepped → List ℤ → List ℤ → Advanced
advanced_result r older contact = record { answer = r; older = older; contact = contact }

-- the rows that are left
unfoldable pub late_rules : Setup → Neck → State → Forces → List Rule
late_rules s neck x F = forces_rule F ∷ result_rules (next_state (worked_step s neck x F))

-- a step from the state x; an accepted one answers the turn that it is given
unfoldable pub advance : ℕ → Setup → Neck → State → Forces → Advanced
advance turn s neck x F =
    let y = next_state (worked_step s neck x F) in
    unless (first_of (late_rules s neck x F))
    (record { answer = accepted record { turn = turn; finger = y.finger; frame = frame s y }; older = y.newer; contact = y.contact })
    (λ n. record { answer = refused n; older = x.older; contact = x.contact })

-- ---- the step that a ready voice makes

module _ (v : Lent) where
  -- the result of a step that answered r and left these in the buffers of the older string and of the contact variables
  abbrev pub stepped_result : Answer Stepped → List ℤ → List ℤ → StepResult
  stepped_result r older contact = step_result v.turn v.finger r (by_turn v.turn v.first older) (by_turn v.turn older v.second) contact

  abbrev stepped : Advanced → StepResult
  stepped a = stepped_result a.answer a.older a.contact

  stepped-result : (r : Answer Stepped) (older contact : List ℤ) → stepped_result r older contact ≡ stepped (advanced_result r older contact)
  stepped-result r older contact = refl

  -- where both are as they were, all that was lent is
  untouched : (n : ℕ) → stepped_result (refused n) (state_of v).older (state_of v).contact ≡ record { answer = refused n; lent = v }
  unfolding state_of
  untouched n = go v.turn
    where
      go : (t : ℕ) → step_result v.turn v.finger (refused n) (by_turn t v.first (by_turn t v.second v.first)) (by_turn t (by_turn t v.second v.first) v.second) v.contact ≡ record { answer = refused n; lent = v }
      go zero = refl
      go (suc t) = refl

  by_number : (n : ℕ) (a : Advanced) (f : ℕ → Advanced) {b : StepResult} {g : ℕ → StepResult} → stepped a ≡ b → ((k : ℕ) → stepped (f k) ≡ g k) → stepped (unless n a f) ≡ unless n b g
  by_number zero a f made turned_down = made
  by_number (suc n) a f made turned_down = turned_down (suc n)

late-rows : (s : Setup) (neck : Neck) (x : State) (F : Forces) → Ready s neck x → first_of (step_rules s neck x F) ≡ first_of (late_rules s neck x F)
unfolding step_rules call_rules setup_rules late_rules
late-rows s neck x F ready = rows_left ready (late_rules s neck x F)

pub by-advance : (s : Setup) (neck : Neck) (v : Lent) (F : Forces) → Ready s neck (state_of v) → (r : Answer Stepped) (older contact : List ℤ)
    → advanced_result r older contact ≡ advance (by_turn v.turn 1 0) s neck (state_of v) F → stepped_result v r older contact ≡ step s neck v F
unfolding step advance put
by-advance s neck v F ready r older contact e =
    let x = state_of v in
    let same : stepped v (advance (by_turn v.turn 1 0) s neck x F) ≡ step s neck v F = rw (late-rows s neck x F ready) (by_number v (first_of (late_rules s neck x F)) _ _ refl (untouched v)) in
    stepped-result v r older contact ∙ ap (stepped v) e ∙ same

-- ---- rows 6 and 11 do not depend on the turn

module _ (v : Lent) where
  abbrev pub with_strings : List ℤ → List ℤ → State
  with_strings newer older = record { newer = newer; older = older; contact = v.contact; finger = v.finger }

  -- the strings in the order in which they are lent
  abbrev pub in_order : State
  in_order = with_strings v.first v.second

  either_order : {B : Type 0} (f : State → B) → ((a b : List ℤ) → f (with_strings a b) ≡ f (with_strings b a)) → f in_order ≡ f (state_of v)
  unfolding state_of
  either_order f e = go v.turn
    where
      go : (n : ℕ) → f in_order ≡ f (with_strings (by_turn n v.first v.second) (by_turn n v.second v.first))
      go zero = refl
      go (suc n) = e v.first v.second

exchanged : (a b c : Bool) → (a && (b && c)) ≡ (b && (a && c))
exchanged true b c = refl
exchanged false true c = refl
exchanged false false c = refl

pub same-lengths : (s : Setup) (neck : Neck) (v : Lent) → buffers_rule s neck (in_order v) ≡ buffers_rule s neck (state_of v)
same-lengths s neck v = either_order v (buffers_rule s neck) (λ a b.
    ap (λ others. 6 when not (length_ok s (length neck.heights) && (length_ok s (length neck.stiffness) && others)))
    (exchanged (length_ok s (length a)) (length_ok s (length b)) (all (length_ok s) (length v.contact ∷ []))))

pub same-state : (v : Lent) → state_ok (in_order v) ≡ state_ok (state_of v)
same-state v = either_order v state_ok (λ a b.
    ap (λ strings. (displacement_ok v.finger.newer && (displacement_ok v.finger.older && strings)) && all contact_ok (v.finger.contact ∷ v.contact))
    (all-parts displacement_ok a b ∙ and_comm (all displacement_ok a) (all displacement_ok b) ∙ sym (all-parts displacement_ok b a)))

-- ---- the two orders in which a step is given the strings

module _ (s : Setup) (neck : Neck) (v : Lent) (F : Forces) where
  abbrev at_turn : ℕ → Lent
  at_turn t = record { first = v.first; second = v.second; contact = v.contact; turn = t; finger = v.finger }

  -- at turn 0 the first string is newer
  pub advanced-first : Ready s neck (state_of v) → v.turn ≡ 0 → (r : Answer Stepped) (older contact : List ℤ)
      → advanced_result r older contact ≡ advance 1 s neck (with_strings v v.first v.second) F → step_result v.turn v.finger r v.first older contact ≡ step s neck v F
  unfolding state_of
  advanced-first = go v.turn
    where
      go : (t : ℕ) → Ready s neck (state_of (at_turn t)) → t ≡ 0 → (r : Answer Stepped) (older contact : List ℤ)
          → advanced_result r older contact ≡ advance 1 s neck (with_strings v v.first v.second) F → step_result t v.finger r v.first older contact ≡ step s neck (at_turn t) F
      go zero ready z r older contact e = by-advance s neck (at_turn 0) F ready r older contact e
      go (suc t) ready z r older contact e = absurd (omega arith)

  -- at any other number the second is
  pub advanced-second : Ready s neck (state_of v) → (v.turn ≡ 0 → ⊥) → (r : Answer Stepped) (older contact : List ℤ)
      → advanced_result r older contact ≡ advance 0 s neck (with_strings v v.second v.first) F → step_result v.turn v.finger r older v.second contact ≡ step s neck v F
  unfolding state_of
  advanced-second = go v.turn
    where
      go : (t : ℕ) → Ready s neck (state_of (at_turn t)) → (t ≡ 0 → ⊥) → (r : Answer Stepped) (older contact : List ℤ)
          → advanced_result r older contact ≡ advance 0 s neck (with_strings v v.second v.first) F → step_result t v.finger r older v.second contact ≡ step s neck (at_turn t) F
      go zero ready z r older contact e = absurd (z refl)
      go (suc t) ready z r older contact e = by-advance s neck (at_turn (suc t)) F ready r older contact e

  -- a ready voice, with the strings in the order that its turn selects
  pub ready-first : Ready s neck (state_of v) → v.turn ≡ 0 → Ready s neck (with_strings v v.first v.second)
  unfolding state_of
  ready-first = go v.turn
    where
      go : (t : ℕ) → Ready s neck (state_of (at_turn t)) → t ≡ 0 → Ready s neck (with_strings v v.first v.second)
      go zero ready z = ready
      go (suc t) ready z = absurd (omega arith)

  pub ready-second : Ready s neck (state_of v) → (v.turn ≡ 0 → ⊥) → Ready s neck (with_strings v v.second v.first)
  unfolding state_of
  ready-second = go v.turn
    where
      go : (t : ℕ) → Ready s neck (state_of (at_turn t)) → (t ≡ 0 → ⊥) → Ready s neck (with_strings v v.second v.first)
      go zero ready z = absurd (z refl)
      go (suc t) ready z = ready
