-- Demand 3: the energy of a run, as 02's item 5 has it: a list of steps, bends and slides. Crate `laws` proves it in its file Run.
use Rattle.std.specs.Prelude.{◌≡◌, List, [], ◌∷◌, map, ℕ, ℤ, pos, ◌+ℤ◌, ◌-ℤ◌, ◌*ℤ◌, ◌≤ℤ◌, length}
use Rattle.integers.specs.Size.{size}
use Rattle.model.specs.Refusal.{accepted}
use Rattle.model.specs.Setup.{N, points, setup, setup_rules}
use Rattle.model.specs.Differences.{at}
use Rattle.model.specs.State.{Lent, Neck, Forces}
use Rattle.model.specs.Neck.{Plan, laid_result, lay}
use Rattle.model.specs.Start.{started_result, start}
use Rattle.model.specs.Step.{WorkedStep}
use Rattle.model.specs.Energy.{residuals, limits}
use Rattle.model.specs.Steps.{Voice, voice, history, accepted_steps, voice_after}
use Rattle.model.specs.Run.{energy_of, Request, to_step, Entry, stepped, bent, slid, entries, last_voice, work, loss, rounding_work, rounding_limit, total}
use Rattle.model.specs.declared.Setup.{Setup}
use Rattle.promises.specs.Promises.{Every, Passed}

-- ---- of an accepted call

-- as many of both, and twice each number of rs is within its number of ls
abbrev pub EachWithin : List ℤ → List ℤ → Type 0
EachWithin [] [] = Unit {0}
EachWithin [] (l ∷ ls) = ⊥
EachWithin (r ∷ rs) [] = ⊥
EachWithin (r ∷ rs) (l ∷ ls) = (size (pos 2 *ℤ r) ≤ℤ l) × EachWithin rs ls

-- every doubled residual of a step is within its limit
pub record WithinLimits (t : WorkedStep) : Type 0 where
  pub points : EachWithin (residuals t).points (limits t).points
  pub finger : size (pos 2 *ℤ (residuals t).finger) ≤ℤ (limits t).finger

-- no variable other than 0 is cleared before a step
pub record ClearsNothing (t : WorkedStep) : Type 0 where
  pub point : (i : ℕ) → at t.cleared.points i ≡ pos 0
  pub finger : t.cleared.finger ≡ pos 0

-- every force of a step is 0
pub record NoForce (t : WorkedStep) : Type 0 where
  pub pluck : t.forces.pluck ≡ pos 0
  pub finger : t.forces.finger ≡ pos 0

-- what P says of a step; a bend and a slide have no residuals and clear nothing
abbrev pub OfStep : (WorkedStep → Type 0) → Entry → Type 0
OfStep P (stepped t) = P t
OfStep P (bent b) = Unit {0}
OfStep P slid = Unit {0}

-- a run with an accepted bend in it isn't an unforced one
abbrev pub Unforced : Entry → Type 0
Unforced (stepped t) = NoForce t
Unforced (bent b) = ⊥
Unforced slid = Unit {0}

-- ---- of a run

-- what is claimed of a run from the voice `start` to the voice `last`, whose accepted calls are `es`: each step is read with the setup that it was
-- given, the stored energy with the newest setup, the starting energy with the first
pub record Claims (start last : Voice) (es : List Entry) : Type 0 where
  -- the stored energy is never negative
  pub never-negative : pos 0 ≤ℤ energy_of last
  -- it equals starting energy + work − loss + rounding work, exactly
  pub exact : energy_of last ≡ energy_of start +ℤ total work es -ℤ total loss es +ℤ total rounding_work es
  -- every doubled residual is within its limit
  pub limited : Every (OfStep WithinLimits) es
  -- so the rounding work is at most the sum of each limit times the size of its move
  pub bounded : size (total rounding_work es) ≤ℤ total rounding_limit es
  -- after a lossless unforced run the energy differs from the start by at most that sum
  pub conserved : total loss es ≡ pos 0 → Every Unforced es → size (energy_of last -ℤ energy_of start) ≤ℤ total rounding_limit es
  -- a run that clears a variable other than 0 is not lossless
  pub lossless : total loss es ≡ pos 0 → Every (OfStep ClearsNothing) es

-- the claims for a list of calls from the voice v on a neck
abbrev pub Run : Neck → Voice → List Request → Type 0
Run neck v qs = Claims v (last_voice neck v qs) (entries neck v qs)

-- the claims hold where the setup passed 1 to 5 and both strings have its length, on any neck
abbrev pub Runs : Type 0
Runs = (s : Setup) (neck : Neck) (v : Lent) → Passed (setup_rules s) → length v.first ≡ points s → length v.second ≡ points s → (qs : List Request) → Run neck (voice s v) qs

-- 01's words, over the lists of 02's item 5. `Runs` asks for less: of the setup that it is accepted by the fresh start, of the neck nothing.
abbrev pub Demand3 : Type 0
Demand3 =
    -- for any accepted setup,
    (s : Setup) → setup s ≡ accepted s
    -- any neck laid for its N, with any accepted setup that has it,
    → (t : Setup) → setup t ≡ accepted t → N t ≡ N s → (plan : Plan) (heights : List ℤ) (stiffness : List ℕ) (neck : Neck) → lay t plan heights stiffness ≡ laid_result neck
    -- and any fresh start accepted on it,
    → (first second contact : List ℤ) (w w' : ℤ) (v : Lent) → start s first second contact w w' ≡ started_result s v
    -- and for every list of steps with any forces, bends and slides, refused calls included
    → (qs : List Request) → Run neck (voice s v) qs

-- ---- steps alone

-- a run of steps alone ends where the steps end, and its entries are the accepted steps
pub record StepRun (neck : Neck) (v : Voice) (Fs : List Forces) : Type 0 where
  pub last : last_voice neck v (map to_step Fs) ≡ voice_after v (history neck v Fs)
  pub entered : entries neck v (map to_step Fs) ≡ map stepped (accepted_steps neck (history neck v Fs))

-- so a list of steps is the special case, and what is claimed of lists of steps is about the same runs
abbrev pub StepRuns : Type 0
StepRuns = (neck : Neck) (v : Voice) (Fs : List Forces) → StepRun neck v Fs
