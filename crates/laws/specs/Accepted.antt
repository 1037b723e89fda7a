-- What an accepted operation has passed, and what it leads to.
use Rattle.std.specs.Prelude.{◌≡◌, not, cond, List, [], ◌∷◌, ◌++◌, T, leb, ltb, eqb, ℤ, pos, length, drop, get_or}
use Rattle.std.proofs.Math.Path.{refl, ap}
use Rattle.std.proofs.Common.{sym, ◌∙◌, arith}
use Prim.Native.Nat.{ℕ, zero, suc, ◌+◌, ◌*◌, ◌≤◌, ◌<◌}
use Rattle.std.proofs.Math.ListN.{replicate, length-replicate}
use Rattle.std.proofs.Math.Facts.{and_yes, or_no, T_not-not, leb_yes, ltb_no, eqb_yes}
use Rattle.integers.specs.Filled.{length-tabulate, get_d_tabulate}
use Rattle.integers.specs.Tests.{is_true, is_false}
use Rattle.model.specs.Ranges.{all, any, between}
use Rattle.model.specs.Refusal.{Rule, first_of, Answer, accepted, refused}
use Rattle.model.specs.Setup.{N, L, M, S, Z, m, p, e, points, place_ok, length_ok, coefficient_wrong, own_places, setup_rules, setup}
use Rattle.model.specs.Changes.{with_tension, with_place, bend, slide}
use Rattle.model.specs.Differences.{at}
use Rattle.model.specs.State.{State, Lent, by_turn, newest, state_of, put, Neck, Forces}
use Rattle.model.specs.Step.{clear, worked_step, next_state, buffers_rule, call_rules, result_rules, step_rules, frame, StepResult, step}
use Rattle.model.specs.Neck.{Plan, fret_at, neck_rules, NeckResult, laid, lay}
use Rattle.model.specs.Start.{start_rules, StartResult, started_result, start, fresh}
use Rattle.model.specs.declared.Setup.{Setup}
use Rattle.model.specs.declared.Frame.{Frame}
use Rattle.promises.specs.Promises.{Passed, LaidAt, Accepts, Every}
use Rattle.laws.specs.Refusals.{passed, fails, Reached, reached-back, front-number, passed-append, all_yes, by-table, never_both, accepted-by}
use Rattle.laws.specs.Strings.{◌spans◌}

-- ---- a setup

pub record SetupFacts (s : Setup) : Type 0 where
  pub segments-low : 2 ≤ N s
  pub segments : N s ≤ 128
  pub stable : L s + 4 * M s + 2 * S s ≤ 4096
  pub tension : L s ≤ 4096
  pub stiffness : M s ≤ 1024
  pub viscous : S s ≤ 2048
  pub plain : Z s ≤ 4096
  pub mass-low : 1 ≤ m s
  pub mass : m s ≤ 1048576
  pub first : 1 ≤ p s
  pub last : p s ≤ points s
  pub pluck-first : 1 ≤ e s
  pub pluck-last : e s ≤ points s
  pub bridge-first : 1 ≤ s.bridge_place
  pub bridge-last : s.bridge_place ≤ points s
  pub neck-first : 1 ≤ s.neck_place
  pub neck-last : s.neck_place ≤ points s

none_above : (ns : List ℕ) → T (not (any (ltb 4096) ns)) → Every (λ n. n ≤ 4096) ns
none_above [] t = tt
none_above (n ∷ ns) t = let k = or_no (ltb 4096 n) (any (ltb 4096) ns) t in (ltb_no k.0, none_above ns k.1)

-- of the row 2 that does not hold
pub small-coefficients : (s : Setup) → T (not (coefficient_wrong s)) → Every (λ n. n ≤ 4096) (L s ∷ M s ∷ S s ∷ Z s ∷ [])
small-coefficients s t = none_above (L s ∷ M s ∷ S s ∷ Z s ∷ []) (or_no (eqb (L s) 0) (any (ltb 4096) (L s ∷ M s ∷ S s ∷ Z s ∷ [])) t).1

pub between-yes : (a n b : ℕ) → T (between a n b) → (a ≤ n) × (n ≤ b)
unfolding between
between-yes a n b t = let h = and_yes (leb a n) (leb n b) t in (leb_yes h.0, leb_yes h.1)

pub sound : (s : Setup) (rules : List Rule) → Passed (setup_rules s ++ rules) → SetupFacts s
unfolding setup_rules place_ok
sound s rules h =
    let table = setup_rules s ++ rules in
    let segments = between-yes 2 (N s) 128 (T_not-not (between 2 (N s) 128) (fails 1 table h)) in
    let coefficients = small-coefficients s (fails 2 table h) in
    let stable : L s + 4 * M s + 2 * S s ≤ 4096 = ltb_no (fails 3 table h) in
    let places = all_yes (place_ok s) (own_places s) (fails 4 table h) in
    let finger = between-yes 1 (p s) (points s) places.0 in
    let pluck = between-yes 1 (e s) (points s) places.1.0 in
    let bridge = between-yes 1 s.bridge_place (points s) places.1.1.0 in
    let neck = between-yes 1 s.neck_place (points s) places.1.1.1.0 in
    let mass = between-yes 1 (m s) 1048576 (T_not-not (between 1 (m s) 1048576) (fails 5 table h)) in
    record {
      segments-low = segments.0;
      segments = segments.1;
      stable = stable;
      tension = omega arith;
      stiffness = omega arith;
      viscous = omega arith;
      plain = coefficients.1.1.1.0;
      mass-low = mass.0;
      mass = mass.1;
      first = finger.0;
      last = finger.1;
      pluck-first = pluck.0;
      pluck-last = pluck.1;
      bridge-first = bridge.0;
      bridge-last = bridge.1;
      neck-first = neck.0;
      neck-last = neck.1;
    }

pub setup-facts : (s : Setup) → Passed (setup_rules s) → SetupFacts s
unfolding setup_rules
setup-facts s h = sound s [] h

-- what an entry learns of its table, where the examination of its setup answered n
module _ (s : Setup) (n : ℕ) (e : n ≡ first_of (setup_rules s)) where
  pub setup-passed : n ≡ 0 → Passed (setup_rules s)
  unfolding setup_rules
  setup-passed z = passed (setup_rules s) tt (sym e ∙ z)

  pub setup-accepted : n ≡ 0 → SetupFacts s
  setup-accepted z = setup-facts s (setup-passed z)

  pub setup-reached : (rules : List Rule) → n ≡ 0 → Reached (setup_rules s ++ rules) rules
  setup-reached rules z = reached-back (setup_rules s) rules (setup-passed z)

  pub setup-refused : (rules : List Rule) → (n ≡ 0 → ⊥) → first_of (setup_rules s ++ rules) ≡ n
  setup-refused rules h = front-number (setup_rules s) rules n e h

-- buffers that pass 6 are N − 1 long
pub right-lengths : (s : Setup) (ns : List ℕ) → T (not (not (all (length_ok s) ns))) → Every (λ n. n ≡ points s) ns
unfolding length_ok
right-lengths s ns t = go ns (all_yes (length_ok s) ns t)
  where
    go : (ns : List ℕ) → Every (λ n. T (length_ok s n)) ns → Every (λ n. n ≡ points s) ns
    go [] h = tt
    go (n ∷ ns) h = (eqb_yes h.0, go ns h.1)

-- ---- a setup with buffers of its length, as rules 1 to 6 leave it

pub record Examined (s : Setup) (neck : Neck) (x : State) : Type 0 where
  pub setup : SetupFacts s
  pub heights : neck.heights spans points s
  pub stiffness : length neck.stiffness ≡ points s
  pub newer : x.newer spans points s
  pub older : x.older spans points s
  pub contact : x.contact spans points s

pub examined : (s : Setup) (neck : Neck) (x : State) (rules : List Rule) → Passed (setup_rules s ++ buffers_rule s neck x ∷ rules) → Examined s neck x
unfolding setup_rules
examined s neck x rules h =
    let lengths = right-lengths s (length neck.heights ∷ length neck.stiffness ∷ length x.newer ∷ length x.older ∷ length x.contact ∷ []) (fails 6 (setup_rules s ++ buffers_rule s neck x ∷ rules) h) in
    record {
      setup = sound s (buffers_rule s neck x ∷ rules) h;
      heights = record { long = lengths.0 };
      stiffness = lengths.1.0;
      newer = record { long = lengths.1.1.0 };
      older = record { long = lengths.1.1.1.0 };
      contact = record { long = lengths.1.1.1.1.0 };
    }

-- ---- a step

-- from the state x with the forces F to the state y
pub record StepFacts (s : Setup) (neck : Neck) (x : State) (F : Forces) (y : State) : Type 0 where
  pub passed : Passed (step_rules s neck x F)
  pub examined : Examined s neck x
  pub result : y ≡ next_state (worked_step s neck x F)

-- what is put is what the turn then selects
state-put : (v : Lent) (x : State) → (state_of v).newer ≡ x.older → state_of (put v x) ≡ x
unfolding state_of put
state-put v x e = go v.turn e
  where
    go : (n : ℕ) → by_turn n v.first v.second ≡ x.older
        → state_of (record { first = by_turn n v.first x.newer; second = by_turn n x.newer v.second; contact = x.contact; turn = by_turn n 1 0; finger = x.finger }) ≡ x
    go zero e = λ i. record { newer = x.newer; older = e i; contact = x.contact; finger = x.finger }
    go (suc n) e = λ i. record { newer = x.newer; older = e i; contact = x.contact; finger = x.finger }

module _ (s : Setup) (neck : Neck) (v : Lent) (F : Forces) where
  -- the state that it leads to
  abbrev pub state_made : State
  state_made = next_state (worked_step s neck (state_of v) F)

  -- its result, where it is accepted
  abbrev pub result_made : StepResult
  result_made = record { answer = accepted (frame s state_made); lent = put v state_made }

  pub step-accepted : (f : Frame) → (step s neck v F).answer ≡ accepted f → Passed (step_rules s neck (state_of v) F) × (step s neck v F ≡ result_made)
  unfolding step step_rules call_rules result_rules setup_rules
  step-accepted = accepted-by (λ r. r.answer) (step_rules s neck (state_of v) F) tt result_made _ (λ n. refl)

  pub accepted-step : (f : Frame) → (step s neck v F).answer ≡ accepted f → StepFacts s neck (state_of v) F (state_of (step s neck v F).lent)
  unfolding step_rules call_rules setup_rules next_state worked_step clear
  accepted-step f e =
      let (h, r) = step-accepted f e in
      record { passed = h; examined = examined s neck (state_of v) (drop 6 (step_rules s neck (state_of v) F)) h; result = ap (λ q. state_of q.lent) r ∙ state-put v state_made refl }

-- a refused step leaves what was lent
pub step-refused : (s : Setup) (neck : Neck) (v : Lent) (F : Forces) (n : ℕ) → (step s neck v F).answer ≡ refused n → (step s neck v F).lent ≡ v
unfolding step step_rules call_rules result_rules setup_rules
step-refused s neck v F = by-table (step_rules s neck (state_of v) F) tt (result_made s neck v F) _ (λ (r : StepResult). (n : ℕ) → r.answer ≡ refused n → r.lent ≡ v) (λ h n q. never_both q refl) (λ k h n q. refl)

-- the buffer that an accepted step does not write
pub step-untouched : (s : Setup) (neck : Neck) (v : Lent) (F : Forces) (f : Frame) → (step s neck v F).answer ≡ accepted f
    → newest v.turn (step s neck v F).lent.first (step s neck v F).lent.second ≡ newest v.turn v.first v.second
unfolding put
step-untouched s neck v F f h = ap (λ r. newest v.turn r.lent.first r.lent.second) (step-accepted s neck v F f h).1 ∙ go v.turn (state_made s neck v F).newer
  where
    go : (n : ℕ) (u : List ℤ) → newest n (by_turn n v.first u) (by_turn n u v.second) ≡ newest n v.first v.second
    go zero u = refl
    go (suc n) u = refl

-- the turn of an accepted step is flipped
pub step-turn : (s : Setup) (neck : Neck) (v : Lent) (F : Forces) (f : Frame) → (step s neck v F).answer ≡ accepted f → (step s neck v F).lent.turn ≡ by_turn v.turn 1 0
unfolding put
step-turn s neck v F f h = ap (λ r. r.lent.turn) (step-accepted s neck v F f h).1

-- ---- a voice whose strings have the setup's length

pub record Fitting (s : Setup) (v : Lent) : Type 0 where
  pub first : v.first spans points s
  pub second : v.second spans points s

module _ {s : Setup} {v : Lent} (h : Fitting s v) where
  pub spans-newer : (state_of v).newer spans points s
  unfolding state_of
  spans-newer = go v.turn
    where
      go : (n : ℕ) → by_turn n v.first v.second spans points s
      go zero = h.first
      go (suc n) = h.second

  pub spans-older : (state_of v).older spans points s
  unfolding state_of
  spans-older = go v.turn
    where
      go : (n : ℕ) → by_turn n v.second v.first spans points s
      go zero = h.second
      go (suc n) = h.first

-- ---- a fresh start

module _ (s : Setup) (first second contact : List ℤ) (w w' : ℤ) (v : Lent) where
  pub start-accepted : start s first second contact w w' ≡ started_result s v → Passed (setup_rules s) × Fitting s v
  unfolding start start_rules setup_rules fresh
  start-accepted q =
      let rules = start_rules s first second contact w w' in
      let (h, r) = accepted-by (λ (r : StartResult). r.answer) rules tt _ _ (λ n. refl) _ (ap (λ r. r.answer) q) in
      let zeros : replicate (points s) (pos 0) spans points s = record { long = length-replicate (points s) (pos 0) } in
      ((passed-append (setup_rules s) (drop 5 rules) h).0, record { first = rw (sym (ap (λ r. r.first) q) ∙ ap (λ r. r.first) r) zeros; second = rw (sym (ap (λ r. r.second) q) ∙ ap (λ r. r.second) r) zeros })

-- ---- what setup, laying and fresh start accept

laid-at : (s : Setup) (plan : Plan) (k : ℕ) → k < points s → LaidAt plan (suc k) (get_or (laid s plan).heights k (pos 0)) (get_or (laid s plan).stiffness k 0)
unfolding laid
laid-at s plan k h = rw (get_d_tabulate (points s) (λ k. cond (fret_at plan.frets (suc k)) plan.tip (at plan.board (suc k))) (pos 0) k h, get_d_tabulate (points s) (λ k. cond (fret_at plan.frets (suc k)) plan.fret_stiffness plan.board_stiffness) 0 k h)
    record { fret = λ t. rw (is_true (fret_at plan.frets (suc k)) t) (refl, refl); board = λ t. rw (is_false (fret_at plan.frets (suc k)) t) (refl, refl) }

-- an accepted setup is the one examined, and passed 1 to 5
pub setup-examined : (s s' : Setup) → setup s ≡ accepted s' → SetupFacts s × (s' ≡ s)
unfolding setup setup_rules
setup-examined s s' q = let r = accepted-by (λ (r : Answer Setup). r) (setup_rules s) tt (accepted s) _ (λ n. refl) s' q in (setup-facts s r.0, cc)

pub accepts : Accepts
unfolding lay start bend slide setup_rules neck_rules start_rules laid
accepts = record {
  setups = λ s a q. (setup-examined s a q).1;
  bends = λ s a L' q. (setup-examined (with_tension s L') a q).1;
  slides = λ s a p' q. (setup-examined (with_place s p') a q).1;
  necks = λ s plan heights stiffness q.
      let r = (accepted-by (λ (r : NeckResult). r.answer) (neck_rules s plan heights stiffness) tt _ _ (λ n. refl) tt q).1 in
      rw r (length-tabulate (points s) _, length-tabulate (points s) _, laid-at s plan);
  starts = λ s first second contact w w' a q. (accepted-by (λ (r : StartResult). r.answer) (start_rules s first second contact w w') tt _ _ (λ n. refl) a q).1;
}
