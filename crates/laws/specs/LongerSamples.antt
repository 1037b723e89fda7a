-- 02, item 1: samples past the frames of a block's forces play no part in it, and keep their contents.
use Rattle.std.specs.Prelude.{◌≡◌, Bool, true, false, ◌||◌, ℕ, zero, suc, ◌*◌, ◌/◌, ◌%◌, ◌≤◌, eqb, ltb, ℤ, Float, length}
use Rattle.std.proofs.Math.Path.{refl, ap}
use Rattle.std.proofs.Common.{sym, ◌∙◌, arith, le-ltb, length-append}
use mathlib.Core.List.{List, [], ◌∷◌, ◌++◌}
use Rattle.std.proofs.lemmas.Bool.{eqb-false}
use Rattle.model.specs.Refusal.{◌when◌, first_of, unless, Answer, accepted, refused}
use Rattle.model.specs.Setup.{setup_rules}
use Rattle.model.specs.State.{Lent, state_of, Neck, Forces}
use Rattle.model.specs.Neck.{heights_rule}
use Rattle.model.specs.Step.{buffers_rule, state_rule, step}
use Rattle.model.specs.Block.{pairs, counts_wrong, stopped, step_made, play, block_rules, block}
use Rattle.model.specs.declared.Setup.{Setup}
use Rattle.model.specs.declared.Frame.{Frame}
use Rattle.promises.specs.Promises.{followed_by, PlaysNoPart, LongerSamples}

-- two forces a frame
frames-length : (forces : List ℤ) → length (pairs forces) ≡ length forces / 2
frames-length [] = refl
frames-length (f ∷ []) = refl
frames-length (f ∷ g ∷ fs) = let shorter = frames-length fs in omega (arith, shorter)

-- with two samples a frame or more, 15 is given for an odd number of forces alone
odd-alone : (forces samples : ℕ) → 2 * (forces / 2) ≤ samples → counts_wrong forces samples ≡ eqb (forces % 2) 1
odd-alone forces samples enough = go (eqb (forces % 2) 1) refl
  where
    go : (odd : Bool) → eqb (forces % 2) 1 ≡ odd → (odd || ltb samples forces) ≡ odd
    go true q = refl
    go false q = le-ltb samples forces (let even = eqb-false (forces % 2) 1 q in omega (arith, even))

module _ (s : Setup) (neck : Neck) (rest : List Float) where
  play-surplus : (Fs : List Forces) (v : Lent) (samples : List Float) → 2 * length Fs ≤ length samples → play s neck v Fs (samples ++ rest) ≡ followed_by rest (play s neck v Fs samples)
  unfolding play
  play-surplus [] v samples h = refl
  play-surplus (F ∷ Fs) v [] h = absurd (omega arith)
  play-surplus (F ∷ Fs) v (a ∷ []) h = absurd (omega arith)
  play-surplus (F ∷ Fs) v (a ∷ b ∷ samples) h = go (step s neck v F).answer (play-surplus Fs (step s neck v F).lent samples (omega arith))
    where
      v' : Lent
      v' = (step s neck v F).lent

      go : (answer : Answer Frame) → play s neck v' Fs (samples ++ rest) ≡ followed_by rest (play s neck v' Fs samples)
          → elim answer [ accepted f ↦ step_made f (play s neck v' Fs (samples ++ rest)) | refused n ↦ stopped v' (a ∷ b ∷ samples ++ rest) n ]
          ≡ followed_by rest (elim answer [ accepted f ↦ step_made f (play s neck v' Fs samples) | refused n ↦ stopped v' (a ∷ b ∷ samples) n ])
      go (accepted f) later = ap (step_made f) later
      go (refused n) later = refl

  module _ (v : Lent) (forces : List ℤ) (samples : List Float) (two-each : length samples ≡ 2 * length (pairs forces)) where
    -- 15 is given with the rest just when it is given without
    same-counts : counts_wrong (length forces) (length (samples ++ rest)) ≡ counts_wrong (length forces) (length samples)
    same-counts =
        let frames = frames-length forces in
        let longer = length-append samples rest in
        odd-alone (length forces) (length (samples ++ rest)) (omega (arith, frames, two-each, longer))
        ∙ sym (odd-alone (length forces) (length samples) (omega (arith, frames, two-each)))

    same_number : first_of (block_rules s neck v forces (samples ++ rest)) ≡ first_of (block_rules s neck v forces samples)
    unfolding block_rules
    same_number =
        ap (λ wrong. first_of (setup_rules s ++ buffers_rule s neck (state_of v) ∷ 15 when wrong ∷ heights_rule neck.heights ∷ state_rule (state_of v) ∷ [])) same-counts

    by_number : (n : ℕ) → unless n (play s neck v (pairs forces) (samples ++ rest)) (stopped v (samples ++ rest)) ≡ followed_by rest (unless n (play s neck v (pairs forces) samples) (stopped v samples))
    by_number zero = play-surplus (pairs forces) v samples (omega (arith, two-each))
    by_number (suc n) = refl

    no_part : PlaysNoPart s neck v forces samples rest
    unfolding block
    no_part = ap (λ n. unless n (play s neck v (pairs forces) (samples ++ rest)) (stopped v (samples ++ rest))) same_number ∙ by_number (first_of (block_rules s neck v forces samples))

pub longer-samples : LongerSamples
longer-samples = record {
  surplus = λ s neck v forces samples rest h. no_part s neck rest v forces samples h;
  earlier = λ forces. odd-alone forces forces (omega arith);
}
