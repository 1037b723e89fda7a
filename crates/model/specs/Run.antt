-- 01, 'Energy', and 02, item 5: a run, a list of calls from a fresh start, steps, bends and slides in any order, any of which may be refused.
use Rattle.std.specs.Prelude.{List, [], ◌∷◌, ◌++◌, map, ℕ, ℤ, pos, ◌+ℤ◌, ◌-ℤ◌, ◌*ℤ◌}
use Rattle.model.specs.Refusal.{Answer, accepted, refused}
use Rattle.model.specs.Setup.{L}
use Rattle.model.specs.Changes.{bend, slide}
use Rattle.model.specs.Differences.{E}
use Rattle.model.specs.State.{State, state_of, Neck, Forces}
use Rattle.model.specs.Step.{WorkedStep}
use Rattle.model.specs.Energy as Energy
use Rattle.model.specs.Energy.{stored_energy}
use Rattle.model.specs.Steps.{Voice, voice, after, call, accepted_steps}
use Rattle.model.specs.declared.Setup.{Setup}

-- the stored energy by the voice's own setup
abbrev pub energy_of : Voice → ℤ
energy_of v = stored_energy v.setup (state_of v.lent)

-- ---- the calls

-- what a caller asks for: a step with its forces, a bend to L', a slide to p'
pub data Request : Type 0 where
  to_step : Forces → Request
  to_bend : ℕ → Request
  to_slide : ℕ → Request

-- an accepted bend: the setup that it was given, the tension L' and the state at that moment
pub record Bend : Type 0 where
  pub setup : Setup
  pub tension : ℕ
  pub state : State

-- an accepted call, with what its sums are read from
pub data Entry : Type 0 where
  stepped : WorkedStep → Entry
  bent : Bend → Entry
  slid : Entry

-- what a call comes to: the voice that later calls get, and its entry, none where it is refused
pub record Taken : Type 0 where
  pub after : Voice
  pub entries : List Entry

-- after an accepted bend or slide later calls get its new setup; a refused one changes and adds nothing
abbrev pub changed : Voice → Entry → Answer Setup → Taken
changed v e (accepted s) = record { after = voice s v.lent; entries = e ∷ [] }
changed v e (refused n) = record { after = v; entries = [] }

module _ (neck : Neck) where
  unfoldable pub taken : Voice → Request → Taken
  taken v (to_step F) = let k = call neck v F in record { after = after k; entries = map stepped (accepted_steps neck (k ∷ [])) }
  taken v (to_bend L') = changed v (bent record { setup = v.setup; tension = L'; state = state_of v.lent }) (bend v.setup L')
  taken v (to_slide p') = changed v slid (slide v.setup p')

  -- the accepted calls of a run: the first call is given the voice v, each later one what the call before it returned or left
  unfoldable pub entries : Voice → List Request → List Entry
  entries v [] = []
  entries v (q ∷ qs) = (taken v q).entries ++ entries (taken v q).after qs

  -- what the last call returned or left, v if there is none
  unfoldable pub last_voice : Voice → List Request → Voice
  last_voice v [] = v
  last_voice v (q ∷ qs) = last_voice (taken v q).after qs

-- ---- what an accepted call adds

-- a bend from L to L' adds 2·(L' − L)·E(u, v)
unfoldable pub bend_work : Bend → ℤ
bend_work b = pos 2 *ℤ (pos b.tension -ℤ pos (L b.setup)) *ℤ E b.state.newer b.state.older

abbrev pub work : Entry → ℤ
work (stepped t) = Energy.work t
work (bent b) = bend_work b
work slid = pos 0

-- a number that only a step adds to
abbrev pub of_step : (WorkedStep → ℤ) → Entry → ℤ
of_step f (stepped t) = f t
of_step f (bent b) = pos 0
of_step f slid = pos 0

abbrev pub loss : Entry → ℤ
loss = of_step Energy.loss

abbrev pub rounding_work : Entry → ℤ
rounding_work = of_step Energy.rounding_work

abbrev pub rounding_limit : Entry → ℤ
rounding_limit = of_step Energy.rounding_limit

-- the sum of f over the accepted calls: a run's work, loss, rounding work
unfoldable pub total : (Entry → ℤ) → List Entry → ℤ
total f [] = pos 0
total f (e ∷ es) = f e +ℤ total f es
