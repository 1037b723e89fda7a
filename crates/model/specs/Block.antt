-- 01, 'Playing a block', and a block's refusals, with longer sample buffers by 02's item 1.
use Rattle.std.specs.Prelude.{Bool, ◌||◌, List, [], ◌∷◌, ◌++◌, ℕ, suc, ◌%◌, eqb, ltb, ℤ, Float, length, drop}
use Rattle.model.specs.Refusal.{Rule, ◌when◌, first_of, accepted, refused, unless}
use Rattle.model.specs.Setup.{setup_rules}
use Rattle.model.specs.State.{Lent, state_of, Neck, Forces}
use Rattle.model.specs.Neck.{heights_rule}
use Rattle.model.specs.Step.{buffers_rule, state_rule, step}
use Rattle.model.specs.declared.Setup.{Setup}
use Rattle.model.specs.declared.Frame.{Frame}

-- the forces of each step: pluck and finger in turn
abbrev pub pairs : List ℤ → List Forces
pairs [] = []
pairs (f ∷ []) = []
pairs (f ∷ g ∷ fs) = record { pluck = f; finger = g } ∷ pairs fs

-- 15 (02, item 1): an odd number of forces, or too few samples, fewer than forces
abbrev pub counts_wrong : (forces samples : ℕ) → Bool
counts_wrong forces samples = eqb (forces % 2) 1 || ltb samples forces

-- the number of steps made, the refusal that stopped them (0 if none did), and what the lent buffers, turn, finger and samples then are
pub record BlockResult : Type 0 where
  pub count : ℕ
  pub refusal : ℕ
  pub lent : Lent
  pub samples : List Float

-- no step more is made, and nothing more is written: the forces ended (n = 0), or the number n was given
abbrev pub stopped : Lent → List Float → ℕ → BlockResult
stopped v samples n = record { count = 0; refusal = n; lent = v; samples = samples }

-- a step is made, and then the rest of the block: its frame comes first, bridge before neck
abbrev pub step_made : Frame → BlockResult → BlockResult
step_made f b = record { count = suc b.count; refusal = b.refusal; lent = b.lent; samples = f.bridge ∷ f.neck ∷ b.samples }

module _ (s : Setup) (neck : Neck) where
  -- steps until the forces end or one is refused; each frame is written in turn, and samples past the last frame made keep their contents
  unfoldable pub play : Lent → List Forces → List Float → BlockResult
  play v [] samples = stopped v samples 0
  play v (F ∷ Fs) samples =
      let r = step s neck v F in
      elim r.answer [
        | accepted f ↦ step_made f (play r.lent Fs (drop 2 samples))
        | refused n ↦ stopped r.lent samples n
      ]

  module _ (v : Lent) (forces : List ℤ) (samples : List Float) where
    unfoldable pub block_rules : List Rule
    block_rules = setup_rules s
        ++ buffers_rule s neck (state_of v)
        ∷ 15 when counts_wrong (length forces) (length samples)
        ∷ heights_rule neck.heights
        ∷ state_rule (state_of v)
        ∷ []

    unfoldable pub block : BlockResult
    block = unless (first_of block_rules) (play v (pairs forces) samples) (stopped v samples)
