-- A block as a loop plays it: after some steps, what is left of it comes to what the whole comes to.
use Rattle.std.specs.Prelude.{◌≡◌, List, [], ◌∷◌, ◌++◌, ℕ, zero, suc, ◌+◌, ◌*◌, ◌/◌, ◌≤◌, ◌<◌, ℤ, pos, Float, length, get_or, take, drop, set}
use Rattle.std.proofs.Math.Path.{refl, ap}
use Rattle.std.proofs.Common.{sym, ◌∙◌, ap₂, subst, append_assoc, add-zero, zero-add, le_of_suc-le-suc, arith, take-append-drop, length-drop, length-append, drop-cons, drop-drop, length-take-le, take_at, drop_at}
use Rattle.model.specs.Refusal.{Answer, accepted, refused}
use Rattle.model.specs.State.{Lent, state_of, Neck, Forces}
use Rattle.model.specs.Step.{StepResult, step}
use Rattle.model.specs.Block.{pairs, BlockResult, stopped, step_made, play}
use Rattle.model.specs.Answers.{step_result}
use Rattle.model.specs.declared.Setup.{Setup}
use Rattle.model.specs.declared.Frame.{Frame}
use Rattle.model.specs.declared.Stepped.{Stepped}
use Rattle.laws.specs.Accepted.{accepted-step}
use Rattle.laws.specs.Ready.{Ready, ready-next}
use Rattle.laws.specs.Call.{lent_with}

-- the samples with a frame written from place i on, bridge first
abbrev pub with_frame : Frame → ℕ → List Float → List Float
with_frame f i samples = take i samples ++ f.bridge ∷ f.neck ∷ drop (i + 2) samples

-- the forces of the step that follows n steps
abbrev pub forces_at : List ℤ → ℕ → Forces
forces_at forces n = record { pluck = get_or forces (2 * n) (pos 0); finger = get_or forces (2 * n + 1) (pos 0) }

-- a block's result, with n steps made before it, whose frames the samples hold
abbrev pub after : ℕ → List Float → BlockResult → BlockResult
after n samples b = record { count = n + b.count; refusal = b.refusal; lent = b.lent; samples = take (2 * n) samples ++ b.samples }

-- ---- forces and samples by the place

pairs-none : (fs : List ℤ) → length fs ≤ 1 → pairs fs ≡ []
pairs-none [] h = refl
pairs-none (f ∷ []) h = refl
pairs-none (f ∷ g ∷ fs) h = absurd (omega arith)

module _ (forces : List ℤ) (n : ℕ) where
  pairs-ended : length forces / 2 ≤ n → pairs (drop (2 * n) forces) ≡ []
  pairs-ended h = pairs-none (drop (2 * n) forces) (rw (length-drop (2 * n) forces) (omega arith))

  pairs_next : n < length forces / 2 → pairs (drop (2 * n) forces) ≡ forces_at forces n ∷ pairs (drop (2 * (n + 1)) forces)
  pairs_next h =
      let low : 2 * n < length forces = omega arith in
      let high : suc (2 * n) < length forces = omega arith in
      let i : suc (2 * n) ≡ 2 * n + 1 = omega arith in
      let j : suc (suc (2 * n)) ≡ 2 * (n + 1) = omega arith in
      ap pairs (drop-cons forces (2 * n) (pos 0) low ∙ ap (λ fs. get_or forces (2 * n) (pos 0) ∷ fs) (drop-cons forces (suc (2 * n)) (pos 0) high))
      ∙ ap₂ (λ i j. record { pluck = get_or forces (2 * n) (pos 0); finger = get_or forces i (pos 0) } ∷ pairs (drop j forces)) i j

module _ (f : Frame) (i : ℕ) (samples : List Float) (h : i + 2 ≤ length samples) where
  abbrev front : List Float
  front = take i samples ++ f.bridge ∷ f.neck ∷ []

  in_parts : with_frame f i samples ≡ front ++ drop (i + 2) samples
  in_parts = sym (append_assoc (take i samples) (f.bridge ∷ f.neck ∷ []) (drop (i + 2) samples))

  front_length : length front ≡ i + 2
  front_length = length-append (take i samples) (f.bridge ∷ f.neck ∷ []) ∙ ap (λ (n : ℕ). n + 2) (length-take-le i samples (omega arith))

  written : take (i + 2) (with_frame f i samples) ≡ front
  written = ap (take (i + 2)) in_parts ∙ take_at front (drop (i + 2) samples) (i + 2) front_length

  unwritten : drop (i + 2) (with_frame f i samples) ≡ drop (i + 2) samples
  unwritten = ap (drop (i + 2)) in_parts ∙ drop_at front (drop (i + 2) samples) (i + 2) front_length

  pub frame-length : length (with_frame f i samples) ≡ length samples
  frame-length = ap length in_parts ∙ length-append front (drop (i + 2) samples) ∙ ap₂ (λ (m n : ℕ). m + n) front_length (length-drop (i + 2) samples) ∙ omega arith

-- two samples in a row, stored one after the other
stored-twice : (samples : List Float) (i : ℕ) (a b : Float) → suc (suc i) ≤ length samples → set (set samples i a) (suc i) b ≡ take i samples ++ a ∷ b ∷ drop (suc (suc i)) samples
stored-twice [] i a b h = absurd (omega arith)
stored-twice (x ∷ []) i a b h = absurd (omega arith)
stored-twice (x ∷ y ∷ samples) zero a b h = refl
stored-twice (x ∷ y ∷ samples) (suc i) a b h = ap (λ samples. x ∷ samples) (stored-twice (y ∷ samples) i a b (le_of_suc-le-suc h))

pub frame-stored : (f : Frame) (i : ℕ) (samples : List Float) → i + 2 ≤ length samples → set (set samples i f.bridge) (i + 1) f.neck ≡ with_frame f i samples
frame-stored f i samples h =
    let one : i + 1 ≡ suc i = omega arith in
    let two : suc (suc i) ≡ i + 2 = omega arith in
    ap (λ (k : ℕ). set (set samples i f.bridge) k f.neck) one ∙ stored-twice samples i f.bridge f.neck (omega arith) ∙ ap (λ (k : ℕ). take i samples ++ f.bridge ∷ f.neck ∷ drop k samples) two

-- ---- one step more

module _ (s : Setup) (neck : Neck) where
  -- a block goes on by what its next step came to
  module _ (Fs : List Forces) (samples : List Float) where
    abbrev onwards : StepResult → BlockResult
    onwards r = elim r.answer [
      | accepted f ↦ step_made f (play s neck r.lent Fs (drop 2 samples))
      | refused n ↦ stopped r.lent samples n
    ]

    play-next : (v : Lent) (F : Forces) {r : StepResult} → r ≡ step s neck v F → play s neck v (F ∷ Fs) samples ≡ onwards r
    unfolding play
    play-next v F e = ap onwards (sym e)

  play-ended : (v : Lent) (samples : List Float) → play s neck v [] samples ≡ stopped v samples 0
  unfolding play
  play-ended v samples = refl

  -- what the whole comes to, by what is left after n steps: v is what they left, and the samples hold their frames
  abbrev pub resumed : List ℤ → Lent → List Float → ℕ → BlockResult
  resumed forces v samples n = after n samples (play s neck v (pairs (drop (2 * n) forces)) (drop (2 * n) samples))

  pub begun : (forces : List ℤ) (v : Lent) (samples : List Float) → resumed forces v samples 0 ≡ play s neck v (pairs forces) samples
  begun forces v samples = let b = play s neck v (pairs forces) samples in ap (λ (n : ℕ). record { count = n; refusal = b.refusal; lent = b.lent; samples = b.samples }) (zero-add b.count)

  module _ (forces : List ℤ) (v : Lent) (samples : List Float) (n : ℕ) where
    stopped-here : {w : Lent} {k : ℕ} {Fs : List Forces} → pairs (drop (2 * n) forces) ≡ Fs → play s neck v Fs (drop (2 * n) samples) ≡ stopped w (drop (2 * n) samples) k
        → resumed forces v samples n ≡ record { count = n; refusal = k; lent = w; samples = samples }
    stopped-here {w} {k} p e =
        ap (λ Fs. after n samples (play s neck v Fs (drop (2 * n) samples))) p ∙ ap (after n samples) e
        ∙ ap₂ (λ (n : ℕ) samples. record { count = n; refusal = k; lent = w; samples = samples }) (add-zero n) (take-append-drop (2 * n) samples)

    pub ended : n ≡ length forces / 2 → resumed forces v samples n ≡ record { count = length forces / 2; refusal = 0; lent = v; samples = samples }
    ended e = stopped-here (pairs-ended forces n (omega arith)) (play-ended v (drop (2 * n) samples)) ∙ ap (λ (n : ℕ). record { count = n; refusal = 0; lent = v; samples = samples }) e

-- one step more, which answered r and left these in the buffers
pub record OneMore (s : Setup) (neck : Neck) (forces : List ℤ) (v : Lent) (n : ℕ) (r : Answer Stepped) (first second contact : List ℤ) : Type 0 where
  pub below : n < length forces / 2
  pub result : step_result v.turn v.finger r first second contact ≡ step s neck v (forces_at forces n)

module _ {s : Setup} {neck : Neck} {forces : List ℤ} {v : Lent} {n : ℕ} {r : Answer Stepped} {first second contact : List ℤ} (more : OneMore s neck forces v n r first second contact) where
  answered : {a : Answer Stepped} → r ≡ a → step_result v.turn v.finger a first second contact ≡ step s neck v (forces_at forces n)
  answered q = ap (λ r. step_result v.turn v.finger r first second contact) (sym q) ∙ more.result

  pub refused-next : (samples : List Float) (k : ℕ) → r ≡ refused k
      → resumed s neck forces v samples n ≡ record { count = n; refusal = k; lent = lent_with v.turn v.finger first second contact; samples = samples }
  refused-next samples k q =
      stopped-here s neck forces v samples n (pairs_next forces n more.below)
      (play-next s neck (pairs (drop (2 * (n + 1)) forces)) (drop (2 * n) samples) v (forces_at forces n) (answered q))

  module _ (a : Stepped) (q : r ≡ accepted a) where
    abbrev w : Lent
    w = lent_with a.turn a.finger first second contact

    pub ready-again : Ready s neck (state_of v) → Ready s neck (state_of w)
    ready-again ready =
        let made = sym (answered q) in
        subst (λ (r : StepResult). Ready s neck (state_of r.lent)) made (ready-next (accepted-step s neck v (forces_at forces n) a.frame (ap (λ (r : StepResult). r.answer) made)) ready)

    pub made-next : (samples : List Float) → 2 * n + 2 ≤ length samples → resumed s neck forces v samples n ≡ resumed s neck forces w (with_frame a.frame (2 * n) samples) (n + 1)
    made-next samples room =
        let Fs = pairs (drop (2 * (n + 1)) forces) in
        let samples' = with_frame a.frame (2 * n) samples in
        let b = play s neck w Fs (drop (2 * (n + 1)) samples') in
        let two : 2 * n + 2 ≡ 2 * (n + 1) = omega arith in
        let left : drop 2 (drop (2 * n) samples) ≡ drop (2 * (n + 1)) samples' = drop-drop 2 (2 * n) samples ∙ sym (unwritten a.frame (2 * n) samples room) ∙ ap (λ (k : ℕ). drop k samples') two in
        let count : n + suc b.count ≡ n + 1 + b.count = omega arith in
        ap (λ Fs. after n samples (play s neck v Fs (drop (2 * n) samples))) (pairs_next forces n more.below)
        ∙ ap (after n samples) (play-next s neck Fs (drop (2 * n) samples) v (forces_at forces n) (answered q))
        ∙ ap (λ left. after n samples (step_made a.frame (play s neck w Fs left))) left
        ∙ ap₂ (λ (count : ℕ) samples. record { count = count; refusal = b.refusal; lent = b.lent; samples = samples })
        count
        (sym (append_assoc (take (2 * n) samples) (a.frame.bridge ∷ a.frame.neck ∷ []) b.samples) ∙ ap (λ front. front ++ b.samples) (sym (written a.frame (2 * n) samples room) ∙ ap (λ (k : ℕ). take k samples') two))
