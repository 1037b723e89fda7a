-- A list of steps, each given what the one before it returned or left: what a block makes, and what 02's item 2 compares.
use Rattle.std.specs.Prelude.{List, [], ◌∷◌}
use Rattle.model.specs.Refusal.{accepted, refused}
use Rattle.model.specs.State.{Lent, state_of, Neck, Forces}
use Rattle.model.specs.Step.{WorkedStep, worked_step, StepResult, step}
use Rattle.model.specs.declared.Setup.{Setup}

-- what is kept from call to call: the setup, and what is passed with every call
pub record Voice : Type 0 where
  pub setup : Setup
  pub lent : Lent

abbrev pub voice : Setup → Lent → Voice
voice s v = record { setup = s; lent = v }

-- one call: the voice that it was given, its forces and its result
pub record Call : Type 0 where
  pub before : Voice
  pub forces : Forces
  pub result : StepResult

-- the voice that it returned or left
abbrev pub after : Call → Voice
after k = voice k.before.setup k.result.lent

module _ (neck : Neck) where
  abbrev pub call : Voice → Forces → Call
  call v F = record { before = v; forces = F; result = step v.setup neck v.lent F }

  -- every call, refused ones included: the first is given the voice v, each later one what the call before it returned or left
  unfoldable pub history : Voice → List Forces → List Call
  history v [] = []
  history v (F ∷ Fs) = call v F ∷ history (after (call v F)) Fs

  -- the accepted steps of a list of calls
  unfoldable pub accepted_steps : List Call → List WorkedStep
  accepted_steps [] = []
  accepted_steps (k ∷ ks) = elim k.result.answer [
    | accepted f ↦ worked_step k.before.setup neck (state_of k.before.lent) k.forces ∷ accepted_steps ks
    | refused n ↦ accepted_steps ks
  ]

-- what the last call returned or left, v if there is none
unfoldable pub voice_after : Voice → List Call → Voice
voice_after v [] = v
voice_after v (k ∷ ks) = voice_after (after k) ks
