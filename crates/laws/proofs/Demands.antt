-- The promises, each proved.
use Rattle.std.specs.Prelude.{refl, length}
use Rattle.std.proofs.Common.{arith}
use Rattle.model.specs.Refusal.{Answer}
use Rattle.model.specs.Setup.{setup, setup_rules}
use Rattle.model.specs.Changes.{with_tension, with_place, bend, slide}
use Rattle.model.specs.State.{state_of}
use Rattle.model.specs.Neck.{neck_rules, NeckResult, lay}
use Rattle.model.specs.Frets.{fret_rules, FretsResult, frets}
use Rattle.model.specs.Start.{start_rules, StartResult, start}
use Rattle.model.specs.Step.{call_rules, result_rules, step_rules, StepResult, step}
use Rattle.model.specs.Booking.{booked_rules, BookedResult, booked_step, bent_rules, BentResult, booked_bend}
use Rattle.model.specs.Block.{block_rules}
use Rattle.model.specs.Reading.{reading_rules}
use Rattle.model.specs.declared.Setup.{Setup}
use Rattle.promises.specs.Promises.{Demand1, Accepts, Demand2, NoContactPulls, OnlyAbove, Blocks, LongerSamples, Frames, Readings, Rounding, Refuses, Leaves}
use Rattle.promises.specs.Energy.{Runs, Demand3, StepRuns}
use Rattle.laws.specs.Refusals.{first-unique, by-table}
use Rattle.laws.specs.Nearest.{nearest_is, unique}
use Rattle.laws.specs.Accepted as Accepted
use Rattle.laws.specs.Accepted.{setup-facts, start-accepted}
use Rattle.laws.specs.Solved as Solved
use Rattle.laws.specs.OnlyAbove as Above
use Rattle.laws.proofs.Run as Run
use Rattle.laws.proofs.Run.{run}
use Rattle.promises.specs.Book.{OneNumber, BookedCalls, EnergyBook}
use Rattle.promises.specs.Frets.{FretRule, FretLists}
use Rattle.promises.specs.Symmetry.{Symmetry}
use Rattle.laws.specs.Symmetry as Symmetric
use Rattle.laws.specs.Words as Words
use Rattle.laws.specs.Booking as Booking
use Rattle.laws.proofs.BookedRun as BookedRun
use Rattle.laws.specs.Frets as Frets
use Rattle.laws.specs.Exact as Exact
use Rattle.laws.specs.Block as Block
use Rattle.laws.specs.LongerSamples as Longer

setup-refuses : (s : Setup) → Refuses (setup_rules s) (setup s)
unfolding setup setup_rules
setup-refuses s = by-table (setup_rules s) tt _ _ (λ (r : Answer Setup). Refuses (setup_rules s) r) (λ h. h) (λ n h. (omega arith, h))

-- every refusal is the first whose condition holds, and leaves what was lent
pub demand1 : Demand1
unfolding setup bend slide lay frets fret_rules start step booked_step booked_bend booked_rules bent_rules setup_rules neck_rules start_rules step_rules call_rules result_rules block_rules reading_rules
demand1 = record {
  setups = setup-refuses;
  bends = λ s L'. setup-refuses (with_tension s L');
  slides = λ s p'. setup-refuses (with_place s p');
  necks = λ s plan heights stiffness. by-table (neck_rules s plan heights stiffness) tt _ _
      (λ (r : NeckResult). Refuses (neck_rules s plan heights stiffness) r.answer × Leaves r.answer heights r.heights × Leaves r.answer stiffness r.stiffness)
      (λ h. (h, tt, tt)) (λ n h. ((omega arith, h), refl, refl));
  starts = λ s first second contact w w'. by-table (start_rules s first second contact w w') tt _ _
      (λ (r : StartResult). Refuses (start_rules s first second contact w w') r.answer × Leaves r.answer first r.first × Leaves r.answer second r.second × Leaves r.answer contact r.contact)
      (λ h. (h, tt, tt, tt)) (λ n h. ((omega arith, h), refl, refl, refl));
  steps = λ s neck v F. by-table (step_rules s neck (state_of v) F) tt _ _
      (λ (r : StepResult). Refuses (step_rules s neck (state_of v) F) r.answer × Leaves r.answer v r.lent) (λ h. (h, tt)) (λ n h. ((omega arith, h), refl));
  booked_steps = λ s neck v b F. by-table (booked_rules s neck (state_of v) b F) tt _ _
      (λ (r : BookedResult). Refuses (booked_rules s neck (state_of v) b F) r.answer × Leaves r.answer v r.lent × Leaves r.answer b r.book) (λ h. (h, tt, tt)) (λ n h. ((omega arith, h), refl, refl));
  booked_bends = λ s v b L'. by-table (bent_rules s (state_of v) b L') tt _ _
      (λ (r : BentResult). Refuses (bent_rules s (state_of v) b L') r.answer × Leaves r.answer b r.book) (λ h. (h, tt)) (λ n h. ((omega arith, h), refl));
  fret_lists = λ N n buffer. by-table (fret_rules N n (length buffer)) tt _ _
      (λ (r : FretsResult). Refuses (fret_rules N n (length buffer)) r.answer × Leaves r.answer buffer r.places) (λ h. (h, tt)) (λ n h. ((omega arith, h), refl));
  one_number = first-unique;
}

pub accepts : Accepts
accepts = Accepted.accepts

-- an accepted step solves the equations
pub demand2 : Demand2
demand2 = Solved.step-solves

-- and no contact pulls in it
pub no-contact-pulls : NoContactPulls
no-contact-pulls = Solved.no-contact-pulls

-- so that 14 is given only above its range
pub only_above : OnlyAbove
only_above = Above.only_above

-- the energy of every list of steps, bends and slides
pub runs : Runs
runs s neck v h first second qs = run neck qs s v (setup-facts s h) record { first = record { long = first }; second = record { long = second } }

pub demand3 : Demand3
demand3 s _ t _ _ plan heights stiffness neck _ first second contact w w' v h qs =
    let (passed, fitting) = start-accepted s first second contact w w' v h in
    runs s neck v passed fitting.first.long fitting.second.long qs

-- of which a list of steps alone is the special case
pub step-runs : StepRuns
step-runs = Run.step-runs

-- a booked call is the call itself
pub booked-calls : BookedCalls
booked-calls = Booking.booked-calls

-- what a book holds after every list of booked calls, and that 17 is never given on the way
pub energy-book : EnergyBook
energy-book = BookedRun.energy-book

-- the words of a column say one number
pub one_number : OneNumber
one_number = Words.one_number

-- a fret's place is the nearest point by the rule
pub fret-rule : FretRule
fret-rule = Frets.fret-rule

-- and a list of them that is accepted is one that laying accepts
pub fret-lists : FretLists
fret-lists = Frets.fret-lists

pub blocks : Blocks
blocks = Block.blocks

pub longer-samples : LongerSamples
longer-samples = Longer.longer-samples

pub frames : Frames
frames = Exact.frames

pub readings : Readings
readings = Exact.readings

pub rounding : Rounding
rounding a b h = (nearest_is a h, λ q n. unique h n (nearest_is a h))

-- the negated run is the run, negated
pub symmetry : Symmetry
symmetry = Symmetric.symmetry
