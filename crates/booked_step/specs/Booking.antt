-- The book after a step by the states before and after it, as the code has it; for an accepted step that is `with_step`.
use Rattle.std.specs.Prelude.{◌≡◌, List, ℕ, take, ◌+◌, ℤ, pos, ◌+ℤ◌, ◌-ℤ◌, ◌*ℤ◌}
use Rattle.std.proofs.Common.{sym, ◌∙◌, ap, ap₂}
use Rattle.model.specs.Setup.{e}
use Rattle.model.specs.Differences.{at, minus}
use Rattle.model.specs.State.{State, Neck, Forces}
use Rattle.model.specs.Step.{cleared, worked_step}
use Rattle.model.specs.Energy.{stored_energy, dot_all}
use Rattle.model.specs.Book.{Columns, with_step}
use Rattle.model.specs.Wide.{value}
use Rattle.model.specs.declared.Setup.{Setup}
use Rattle.laws.specs.Accepted.{StepFacts}
use Rattle.laws.specs.Booking.{work_is, loss_is}
use Rattle.laws.proofs.Booking.{rounding-left}
use Rattle.laws.specs.EnergySizes.{moving_loss}
use Rattle.booked_step.specs.declared.booking.Before as Declared

-- the work of forces, from the string v and the finger height w' before to the string u and the height w
unfoldable pub work_of : Setup → Forces → (u v : List ℤ) → (w w' : ℤ) → ℤ
work_of s F u v w w' = pos 2 *ℤ F.pluck *ℤ at (minus u v) (e s) +ℤ pos 2 *ℤ F.finger *ℤ (w -ℤ w')

-- of a step to the state y: the stored energy before it, what was let go, its older string and the finger's older height before it, and its forces
pub record Before : Type 0 where
  pub stored : ℤ
  pub released : ℤ
  pub older : List ℤ
  pub height : ℤ

-- as the code keeps it, with a string of n points
abbrev pub kept : ℕ → Declared.Before → Before
kept n b = record { stored = value b.stored; released = b.released; older = take n b.older; height = b.height }

abbrev pub with_parts : Setup → Columns → Before → State → Forces → Columns
with_parts s b x y F =
    let work = work_of s F y.newer x.older y.finger.newer x.height in
    let loss = moving_loss s (minus y.newer x.older) +ℤ x.released in
    record {
      stored = stored_energy s y;
      work = b.work +ℤ work;
      loss = b.loss +ℤ loss;
      rounding = b.rounding +ℤ (stored_energy s y -ℤ x.stored -ℤ work +ℤ loss);
      count = b.count + 1;
    }

abbrev pub before : Setup → Neck → State → Before
before s neck x = record { stored = stored_energy s x; released = pos 2 *ℤ dot_all (cleared s neck x) (cleared s neck x); older = x.older; height = x.finger.older }

-- an accepted step is booked so
pub books-step : {s : Setup} {neck : Neck} {x : State} {F : Forces} {y : State} → StepFacts s neck x F y → (b : Columns) → with_parts s b (before s neck x) y F ≡ with_step b (worked_step s neck x F) y
unfolding work_of worked_step
books-step {s} {neck} {x} {F} {y} h b =
    let t = worked_step s neck x F in
    λ i. record {
      stored = stored_energy s y;
      work = b.work +ℤ sym (work_is h) i;
      loss = b.loss +ℤ sym (loss_is h) i;
      rounding = (ap (λ z. b.rounding +ℤ z) (ap₂ (λ w l. stored_energy s y -ℤ stored_energy s x -ℤ w +ℤ l) (sym (work_is h)) (sym (loss_is h)) ∙ sym (rounding-left h))) i;
      count = b.count + 1;
    }
