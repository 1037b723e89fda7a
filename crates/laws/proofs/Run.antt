-- Demand 3: the claims on the energy hold for every list of steps, bends and slides, from any strings of the setup's length, on any neck.
use Rattle.std.specs.Prelude.{◌≡◌, ℕ, zero, suc, ℤ, pos, nat_abs, ◌+ℤ◌, ◌-ℤ◌, ◌*ℤ◌, ◌≤ℤ◌}
use Rattle.std.proofs.Math.Path.{refl, ap}
use Rattle.std.proofs.Common.{sym, ◌∙◌, ap₂, subst}
use mathlib.Core.List.{List, [], ◌∷◌, ◌++◌}
use Rattle.integers.specs.Filled.{length-tabulate}
use Rattle.integers.specs.Solve.{◌⊕◌, ◌⊖◌, ◌⊗◌, #◌, ◌≐◌, solve}
use Rattle.integers.specs.Order.{≤-refl, ≤_trans, ≤-of-eq, ≤-sum, times-≤, nonneg}
use Rattle.integers.specs.Size.{size, size-add, size-mul}
use Rattle.model.specs.Refusal.{Answer, accepted, refused}
use Rattle.model.specs.Setup.{e, points, setup}
use Rattle.model.specs.Differences.{at, dot}
use Rattle.model.specs.State.{State, Lent, by_turn, state_of, put, Neck, Forces}
use Rattle.model.specs.Step.{clear, WorkedStep, worked_step, next_state, step}
use Rattle.model.specs.Energy as Energy
use Rattle.model.specs.Energy.{stored_energy, released, dot_all, residuals, limits}
use Rattle.model.specs.Steps.{Voice, voice, after, call, history, accepted_steps, voice_after}
use Rattle.model.specs.Changes.{with_tension, with_place, bend, slide}
use Rattle.model.specs.Run.{energy_of, Request, to_step, to_bend, to_slide, Entry, stepped, bent, slid, changed, taken, entries, last_voice, work, loss, rounding_work, rounding_limit, total}
use Rattle.model.specs.declared.Setup.{Setup}
use Rattle.model.specs.declared.Frame.{Frame}
use Rattle.promises.specs.Promises.{Every}
use Rattle.promises.specs.Energy.{WithinLimits, NoForce, OfStep, Unforced, Claims, Run, StepRun, StepRuns}
use Rattle.laws.specs.Strings.{◌spans◌, spans-plus, dot-size}
use Rattle.laws.specs.Clearing.{energy-released}
use Rattle.laws.specs.Loss.{lossless-clears}
use Rattle.laws.specs.Balance.{balance, fit}
use Rattle.laws.specs.Positive.{energy-nonneg}
use Rattle.laws.specs.Accepted.{SetupFacts, setup-examined, StepFacts, step-accepted, accepted-step, step-refused, Fitting, spans-newer, spans-older}
use Rattle.laws.specs.Moves.{moves-nearest}
use Rattle.laws.specs.Limits.{within-at, within-limits}
use Rattle.laws.specs.Changes.{bend-balance, slide-balance, fitting-other}

-- ---- one step

-- residuals within their limits do little work
rounding-≤ : (t : WorkedStep) → WithinLimits t → size (Energy.rounding_work t) ≤ℤ Energy.rounding_limit t
unfolding Energy.rounding_work Energy.rounding_limit dot_all residuals limits
rounding-≤ t h =
    let r = residuals t in
    let δ = t.moves in
    ≤_trans (≤-of-eq (ap size (solve 3 (λ p f y. # 2 ⊗ (p ⊕ f ⊗ y) ≐ # 2 ⊗ p ⊕ # 2 ⊗ f ⊗ y) tt (dot r.points δ.points) r.finger δ.finger)))
    (≤_trans (size-add (pos 2 *ℤ dot r.points δ.points) (pos 2 *ℤ r.finger *ℤ δ.finger))
    (≤-sum (dot-size (record { long = length-tabulate (points t.setup) _ }) (record { long = length-tabulate (points t.setup) _ }) δ.points (λ i _ _. within-at r.points (limits t).points h.points i))
    (≤_trans (≤-of-eq (size-mul (pos 2 *ℤ r.finger) δ.finger)) (times-≤ (nonneg (nat_abs δ.finger)) h.finger))))

no-work : (t : WorkedStep) → NoForce t → Energy.work t ≡ pos 0
unfolding Energy.work
no-work t u = ap₂ (λ f g. pos 2 *ℤ f *ℤ at t.moves.points (e t.setup) +ℤ pos 2 *ℤ g *ℤ t.moves.finger) u.pluck u.finger
    ∙ solve 2 (λ a b. # 2 ⊗ # 0 ⊗ a ⊕ # 2 ⊗ # 0 ⊗ b ≐ # 0) tt (at t.moves.points (e t.setup)) t.moves.finger

-- what an accepted step from x to y gives
module _ {s : Setup} {neck : Neck} {x : State} {F : Forces} {y : State} (h : StepFacts s neck x F y) where
  pub step-balance : let t = worked_step s neck x F in stored_energy s y ≡ stored_energy s x +ℤ Energy.work t -ℤ Energy.loss t +ℤ Energy.rounding_work t
  unfolding worked_step released
  step-balance =
      let t = worked_step s neck x F in
      rw h.result (balance t (fit F h.examined) ∙ ap (λ e. e +ℤ Energy.work t -ℤ Energy.loss t +ℤ Energy.rounding_work t) (sym (energy-released h.examined)))

  step-limits : WithinLimits (worked_step s neck x F)
  unfolding worked_step
  step-limits = within-limits (worked_step s neck x F) (moves-nearest s (clear s neck x) (worked_step s neck x F).gradients F h.examined.setup)

  pub spans-next : y.newer spans points s
  unfolding next_state worked_step clear
  spans-next = rw h.result (spans-plus h.examined.older (fit F h.examined).moves)

-- the strings keep their length
fitting-step : (s : Setup) (neck : Neck) (v : Lent) (F : Forces) (f : Frame) → (step s neck v F).answer ≡ accepted f → Fitting s v → Fitting s (step s neck v F).lent
unfolding put
fitting-step s neck v F f q h = rw (step-accepted s neck v F f q).1 record { first = choose v.turn h.first next; second = choose v.turn next h.second }
  where
    next : (next_state (worked_step s neck (state_of v) F)).newer spans points s
    next = let k = accepted-step s neck v F f q in rw (← k.result) (spans-next k)

    choose : (n : ℕ) {a b : List ℤ} → a spans points s → b spans points s → by_turn n a b spans points s
    choose zero p q = p
    choose (suc n) p q = q

-- ---- one accepted call

rounding-entry : (e : Entry) → OfStep WithinLimits e → size (rounding_work e) ≤ℤ rounding_limit e
rounding-entry (stepped t) h = rounding-≤ t h
rounding-entry (bent b) h = ≤-refl
rounding-entry slid h = ≤-refl

no-work-entry : (e : Entry) → Unforced e → work e ≡ pos 0
no-work-entry (stepped t) u = no-work t u
no-work-entry (bent b) u = absurd u
no-work-entry slid u = refl

-- ---- a run

unforced-work : (es : List Entry) → Every Unforced es → total work es ≡ pos 0
unfolding total
unforced-work [] u = refl
unforced-work (e ∷ es) u = ap₂ (λ x y. x +ℤ y) (no-work-entry e u.0) (unforced-work es u.1)

-- the claim on lossless unforced runs follows from two others
conserves : (v w : Voice) (es : List Entry) → energy_of w ≡ energy_of v +ℤ total work es -ℤ total loss es +ℤ total rounding_work es → size (total rounding_work es) ≤ℤ total rounding_limit es
    → total loss es ≡ pos 0 → Every Unforced es → size (energy_of w -ℤ energy_of v) ≤ℤ total rounding_limit es
conserves v w es q b l u = rw (q, unforced-work es u, l) (≤_trans (≤-of-eq (ap size (solve 2 (λ e r. e ⊕ # 0 ⊖ # 0 ⊕ r ⊖ e ≐ r) tt (energy_of v) (total rounding_work es)))) b)

none : (v : Voice) → pos 0 ≤ℤ energy_of v → Claims v v []
unfolding total
none v h =
    let q : energy_of v ≡ energy_of v +ℤ pos 0 -ℤ pos 0 +ℤ pos 0 = solve 1 (λ e. e ≐ e ⊕ # 0 ⊖ # 0 ⊕ # 0) tt (energy_of v) in
    record { never-negative = h; exact = q; limited = tt; bounded = ≤-refl; conserved = conserves v v [] q ≤-refl; lossless = λ _. tt }

one : {v v' w : Voice} {e : Entry} {es : List Entry} → energy_of v' ≡ energy_of v +ℤ work e -ℤ loss e +ℤ rounding_work e → OfStep WithinLimits e → Claims v' w es → Claims v w (e ∷ es)
unfolding total
one {v} {v'} {w} {e} {es} q l c = record { never-negative = c.never-negative; exact = exact; limited = (l, c.limited); bounded = bounded; conserved = conserves v w (e ∷ es) exact bounded; lossless = λ l. lossless-clears (e ∷ es) (≤-of-eq l) }
  where
    exact : energy_of w ≡ energy_of v +ℤ total work (e ∷ es) -ℤ total loss (e ∷ es) +ℤ total rounding_work (e ∷ es)
    exact = c.exact ∙ ap (λ E. E +ℤ total work es -ℤ total loss es +ℤ total rounding_work es) q
        ∙ solve 7 (λ e w l r W L R. (e ⊕ w ⊖ l ⊕ r) ⊕ W ⊖ L ⊕ R ≐ e ⊕ (w ⊕ W) ⊖ (l ⊕ L) ⊕ (r ⊕ R)) tt
        (energy_of v) (work e) (loss e) (rounding_work e) (total work es) (total loss es) (total rounding_work es)

    bounded : size (total rounding_work (e ∷ es)) ≤ℤ total rounding_limit (e ∷ es)
    bounded = ≤_trans (size-add (rounding_work e) (total rounding_work es)) (≤-sum (rounding-entry e l) c.bounded)

from : {s : Setup} {v v' : Lent} {w : Voice} {es : List Entry} → v' ≡ v → Claims (voice s v') w es → Claims (voice s v) w es
from {s} {w} {es} q c = subst (λ (v : Lent). Claims (voice s v) w es) q c

module _ (neck : Neck) where
  -- the claims for a list, wherever it starts
  abbrev Everywhere : List Request → Type 0
  Everywhere qs = (s : Setup) (v : Lent) → SetupFacts s → Fitting s v → Run neck (voice s v) qs

  after-step : (F : Forces) (qs : List Request) → Everywhere qs → Everywhere (to_step F ∷ qs)
  unfolding entries last_voice taken accepted_steps
  after-step F qs rest s v ok h = go (step s neck v F).answer refl
    where
      go : (a : Answer Frame) → (step s neck v F).answer ≡ a → Run neck (voice s v) (to_step F ∷ qs)
      go (accepted f) q = let k = accepted-step s neck v F f q in rw q (one (step-balance k) (step-limits k) (rest s (step s neck v F).lent ok (fitting-step s neck v F f q h)))
      go (refused n) q = let same = step-refused s neck v F n q in rw q (from same (rest s (step s neck v F).lent ok (rw same h)))

  -- a change of the setup s to t, accepted or refused, which is entered as e
  module _ (s t : Setup) (v : Lent) (e : Entry) (same : points s ≡ points t) (gain : stored_energy t (state_of v) ≡ stored_energy s (state_of v) +ℤ work e -ℤ loss e +ℤ rounding_work e) (within : OfStep WithinLimits e) where
    after-change : (qs : List Request) → Everywhere qs → SetupFacts s → Fitting s v → let k = changed (voice s v) e (setup t) in Claims (voice s v) (last_voice neck k.after qs) (k.entries ++ entries neck k.after qs)
    after-change qs rest ok h = go (setup t) refl
      where
        go : (a : Answer Setup) → setup t ≡ a → let k = changed (voice s v) e a in Claims (voice s v) (last_voice neck k.after qs) (k.entries ++ entries neck k.after qs)
        go (accepted t') q = let (facts, same-setup) = setup-examined t t' q in rw same-setup (one gain within (rest t v facts (fitting-other same h)))
        go (refused n) q = rest s v ok h

  pub run : (qs : List Request) → Everywhere qs
  unfolding entries last_voice taken bend slide
  run [] = λ s v ok h. none (voice s v) (energy-nonneg s (state_of v) (spans-newer h) (spans-older h) ok.stable)
  run (to_step F ∷ qs) = after-step F qs (run qs)
  run (to_bend L' ∷ qs) = λ s v. after-change s (with_tension s L') v (bent record { setup = s; tension = L'; state = state_of v }) refl (bend-balance s L' (state_of v)) tt qs (run qs)
  run (to_slide p' ∷ qs) = λ s v. after-change s (with_place s p') v slid refl (slide-balance s p' (state_of v)) tt qs (run qs)

-- ---- steps alone

pub step-runs : StepRuns
unfolding entries last_voice taken accepted_steps history voice_after
step-runs neck v [] = record { last = refl; entered = refl }
step-runs neck v (F ∷ Fs) = go (call neck v F).result.answer refl (step-runs neck (after (call neck v F)) Fs)
  where
    go : (a : Answer Frame) → (call neck v F).result.answer ≡ a → StepRun neck (after (call neck v F)) Fs → StepRun neck v (F ∷ Fs)
    go (accepted f) q rest = record { last = rest.last; entered = rw (q, accepted_steps) (ap (λ es. stepped (worked_step v.setup neck (state_of v.lent) F) ∷ es) rest.entered) }
    go (refused n) q rest = record { last = rest.last; entered = rw (q, accepted_steps) rest.entered }
