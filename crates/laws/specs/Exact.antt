-- Frames and readings lose nothing: a displacement in range, or a depth above 0, is divided by 1,048,576 exactly.
use Rattle.std.specs.Prelude.{◌≡◌, refl, Bool, true, false, cond, List, [], ◌∷◌, ℕ, ◌≤◌, ℤ, pos, nat_abs, ◌-ℤ◌}
use Rattle.std.proofs.Common.{ap}
use native.Mathlib.Omega.{arith}
use Rattle.std.proofs.Math.Dec.{T}
use Rattle.std.specs.Int.Signed.{lt_z, lt_z_yes}
use Rattle.std.specs.Float.{Format, binary32, binary64}
use Rattle.std.proofs.Math.Facts.{and_yes, T_not-not}
use Rattle.integers.specs.Floats.{negative}
use Rattle.integers.proofs.Floats.{fraction-exact}
use Rattle.model.specs.Ranges.{inside, all, height_ok, displacement_ok}
use Rattle.model.specs.Refusal.{Rule, accepted}
use Rattle.model.specs.Setup.{setup_rules}
use Rattle.model.specs.Differences.{at}
use Rattle.model.specs.State.{Lent, newest, state_of, Neck, Forces}
use Rattle.model.specs.Step.{call_rules, result_rules, step_rules, frame, step}
use Rattle.model.specs.Fraction.{fraction, Holds}
use Rattle.model.specs.Reading.{reading_rules, reading}
use Rattle.model.specs.Answers.{reading_result}
use Rattle.model.specs.declared.Setup.{Setup}
use Rattle.model.specs.declared.Frame.{Frame}
use Rattle.model.specs.declared.Reading.{Reading}
use Rattle.model.specs.declared.Reading.TheVariants.{Free, Pressed, Refused}
use Rattle.promises.specs.Promises.{Passed, Refuses, Frames, Shows, shown, Readings}
use Rattle.laws.specs.Refusals.{fails, at_all, by-table}
use Rattle.laws.specs.Accepted.{state_made, step-accepted, accepted-step}
use Rattle.laws.specs.Sizes.{inside-within, depth-ok}

pub fraction-holds : (f : Format) (z : ℤ) → nat_abs z ≤ 1048576 → Holds (fraction f z) z
unfolding fraction
fraction-holds f z h = fraction-exact f (negative z) (nat_abs z) h

-- every displacement of a string in range
string-≤ : (u : List ℤ) → T (all displacement_ok u) → (i : ℕ) → nat_abs (at u i) ≤ 1048576
unfolding displacement_ok inside
string-≤ u t i = (inside-within 1048576 (at u i) (at_all displacement_ok u tt t i)).size

-- ---- a frame

-- the new displacements of an accepted step are in range
pub accepted-range : (s : Setup) (neck : Neck) (v : Lent) (F : Forces) (f : Frame) → (step s neck v F).answer ≡ accepted f → (i : ℕ) → nat_abs (at (state_made s neck v F).newer i) ≤ 1048576
unfolding step_rules call_rules result_rules setup_rules
accepted-range s neck v F f q =
    let y = state_made s neck v F in
    let h = (step-accepted s neck v F f q).0 in
    string-≤ y.newer (and_yes (displacement_ok y.finger.newer) (all displacement_ok y.newer) (T_not-not (all displacement_ok (y.finger.newer ∷ y.newer)) (fails 13 (step_rules s neck (state_of v) F) h))).1

pub frames : Frames
unfolding frame
frames s neck v F f q =
    let y = state_made s neck v F in
    let r = (step-accepted s neck v F f q).1 in
    let made : f ≡ frame s y = cc (ap (λ r. r.answer) r) in
    let range = accepted-range s neck v F f q in
    rw ((accepted-step s neck v F f q).result, made) (fraction-holds binary32 (at y.newer s.bridge_place) (range s.bridge_place), fraction-holds binary32 (at y.newer s.neck_place) (range s.neck_place))

-- ---- a reading

module _ (s : Setup) (heights first second : List ℤ) (turn i : ℕ) where
  string : List ℤ
  string = newest turn first second

  u : ℤ
  u = at string i

  d : ℤ
  d = at heights i -ℤ u

  rules : List Rule
  rules = reading_rules s heights first second turn i

  value : Bool → Reading
  value b = cond b (Pressed (fraction binary64 u) (fraction binary64 d)) (Free (fraction binary64 u))

  -- what is shown, by the test b on the depth
  abbrev numbers : Bool → List ℤ
  numbers b = cond b (u ∷ d ∷ []) (u ∷ [])

  shows : Passed rules → (b : Bool) → lt_z (pos 0) d ≡ b → Refuses rules (reading_result (value b)) × Shows (numbers b) (reading_result (value b))
  unfolding string u d rules value reading_rules setup_rules displacement_ok height_ok inside
  shows h b q = go b q
    where
      range : T (displacement_ok u)
      range = at_all displacement_ok string tt (T_not-not (all displacement_ok string) (fails 11 rules h)) i

      height : T (height_ok (at heights i))
      height = at_all height_ok heights tt (T_not-not (all height_ok heights) (fails 7 rules h)) i

      held : Holds (fraction binary64 u) u
      held = fraction-holds binary64 u (inside-within 1048576 u range).size

      go : (b : Bool) → lt_z (pos 0) d ≡ b → Refuses rules (reading_result (value b)) × Shows (numbers b) (reading_result (value b))
      go true q = (h, (held, (fraction-holds binary64 d (inside-within 1048576 d (depth-ok (at heights i) u height range (lt_z_yes (rw q tt)))).size, tt)))
      go false q = (h, (held, tt))

  holds : let answer = reading_result (reading s heights first second turn i) in Refuses rules answer × Shows (shown u d) answer
  unfolding reading string u d rules value reading_rules setup_rules
  holds = by-table rules tt (value (lt_z (pos 0) d)) Refused (λ (r : Reading). Refuses rules (reading_result r) × Shows (shown u d) (reading_result r)) (λ h. shows h (lt_z (pos 0) d) refl) (λ n h. ((omega arith, h), tt))

pub readings : Readings
unfolding string u d rules
readings = holds
