-- A block plays: its steps are those of a run, its count theirs and the turn's flips, and it stops early only with 12, 13 or 14.
use Rattle.std.specs.Prelude.{◌≡◌, ℕ, suc, ◌+◌, ◌*◌, ◌%◌, ◌≤◌, eqb, ltb, ℤ, Float, length, drop}
use Rattle.std.proofs.Math.Path.{refl}
use Rattle.std.proofs.Common.{◌∙◌, ap, arith, drop-drop}
use mathlib.Core.List.{List, [], ◌∷◌, ◌++◌}
use Rattle.std.proofs.Math.Facts.{or_no, ltb_no}
use Rattle.model.specs.Refusal.{first_of, unless, Answer, accepted, refused}
use Rattle.model.specs.Setup.{setup_rules}
use Rattle.model.specs.State.{Lent, state_of, Neck, Forces}
use Rattle.model.specs.Step.{step}
use Rattle.model.specs.Steps.{voice, call, history, accepted_steps, voice_after}
use Rattle.model.specs.Block.{pairs, stopped, play, block_rules, block}
use Rattle.model.specs.declared.Setup.{Setup}
use Rattle.model.specs.declared.Frame.{Frame}
use Rattle.promises.specs.Promises.{Passed, IsFirst, flips, frame_samples, Plays, Blocks}
use Rattle.laws.specs.Refusals.{passed, first-of, fails, passed-append}
use Rattle.laws.specs.Accepted.{accepted-step, step-refused, step-turn}
use Rattle.laws.specs.Ready.{Ready, ready-next, ready_refused}

two-more : (n : ℕ) (zs : List Float) → drop (2 * n) (drop 2 zs) ≡ drop (2 * suc n) zs
two-more n zs = let q : 2 + 2 * n ≡ 2 * suc n = omega arith in drop-drop (2 * n) 2 zs ∙ ap (λ (k : ℕ). drop k zs) q

module _ (s : Setup) (neck : Neck) where
  pub play-plays : (Fs : List Forces) (v : Lent) (samples : List Float) → Ready s neck (state_of v) → Plays neck (voice s v) Fs samples (play s neck v Fs samples)
  unfolding play history accepted_steps voice_after flips frame_samples
  play-plays [] v samples h = record { calls = []; run = refl; count = refl; turn = refl; lent = refl; samples = refl; stops = refl }
  play-plays (F ∷ Fs) v samples h = go (step s neck v F).answer refl (play-plays Fs (step s neck v F).lent (drop 2 samples))
    where
      v' : Lent
      v' = (step s neck v F).lent

      go : (a : Answer Frame) → (step s neck v F).answer ≡ a → (Ready s neck (state_of v') → Plays neck (voice s v') Fs (drop 2 samples) (play s neck v' Fs (drop 2 samples)))
          → Plays neck (voice s v) (F ∷ Fs) samples (play s neck v (F ∷ Fs) samples)
      go (accepted f) q rest =
          let k = rest (ready-next (accepted-step s neck v F f q) h) in
          let b = play s neck v' Fs (drop 2 samples) in
          rw (q, play) record {
            calls = call neck (voice s v) F ∷ k.calls;
            run = ap (λ cs. call neck (voice s v) F ∷ cs) k.run;
            count = rw (q, accepted_steps) (ap suc k.count);
            turn = k.turn ∙ ap (flips b.count) (step-turn s neck v F f q);
            lent = k.lent;
            samples = rw (q, frame_samples) (ap (λ zs. f.bridge ∷ f.neck ∷ zs) (k.samples ∙ ap (λ zs. frame_samples k.calls ++ zs) (two-more b.count samples)));
            stops = k.stops;
          }
      go (refused n) q rest = rw (q, play) record {
        calls = [];
        run = refl;
        count = refl;
        turn = ap (λ v. v.turn) (step-refused s neck v F n q);
        lent = step-refused s neck v F n q;
        samples = refl;
        stops = (q, ready_refused s neck v F h n q);
      }

-- a block that passed its own table is ready, and has at least a sample for each force
module _ (s : Setup) (neck : Neck) (v : Lent) (forces : List ℤ) (samples : List Float) where
  ready : Passed (block_rules s neck v forces samples) → Ready s neck (state_of v)
  unfolding block_rules setup_rules
  ready h =
      let rules = block_rules s neck v forces samples in
      record { setup = (passed-append (setup_rules s) (drop 5 rules) h).0; buffers = (fails 6 rules h, tt); heights = (fails 7 rules h, tt); state = (fails 11 rules h, tt) }

  pub block-ready : first_of (block_rules s neck v forces samples) ≡ 0 → Ready s neck (state_of v) × (length forces ≤ length samples)
  unfolding block_rules setup_rules
  block-ready e =
      let rules = block_rules s neck v forces samples in
      let h = passed rules tt e in
      let enough = (or_no (eqb (length forces % 2) 1) (ltb (length samples) (length forces)) (fails 15 rules h)).1 in
      (ready h, ltb_no enough)

-- a block by what its table gave
by_number : (s : Setup) (neck : Neck) (v : Lent) (forces : List ℤ) (samples : List Float) (n : ℕ) → IsFirst (block_rules s neck v forces samples) n
    → block s neck v forces samples ≡ unless n (play s neck v (pairs forces) samples) (stopped v samples)
unfolding block
by_number s neck v forces samples n h = ap (λ n. unless n (play s neck v (pairs forces) samples) (stopped v samples)) (first-of (block_rules s neck v forces samples) n h)

pub blocks : Blocks
blocks = record {
  played = λ s neck v forces samples h. rw (by_number s neck v forces samples 0 h) (play-plays s neck (pairs forces) v samples (ready s neck v forces samples h));
  turned_down = λ s neck v forces samples n h. by_number s neck v forces samples (suc n) h;
}
