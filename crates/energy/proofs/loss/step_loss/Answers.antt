-- The loss of the moves, from its two sums, and what was let go.
use Rattle.std.specs.Prelude.{◌≡◌, ◌+ℤ◌}
use Rattle.std.proofs.Common.{◌∙◌, ap₂, to_z-of_z}
use Rattle.integers.specs.Size.{wide}
use Rattle.integers.specs.Machine.{∅, ◌▹◌}
use Rattle.model.specs.Differences.{minus}
use Rattle.model.specs.Wide.{value}
use Rattle.laws.specs.Accepted.{setup-facts}
use Rattle.laws.specs.EnergySizes.{moving_loss, moving-size, changes-size, change-rises-size}
use Rattle.energy_sums.specs.Summing.{held_is}
use Rattle.energy.proofs.loss.step_loss.Goals as goal
use Rattle.energy.proofs.loss.step_loss.Goals.{After-moving_loss-moving}

moving_is : (c : After-moving_loss-moving) → value c.moving_loss-moving.result ≡ moving_loss c.args.setup (minus c.args.new.now c.args.older.now)
unfolding moving_loss
moving_is c = rw (held_is c.changes-change.type_inv c.changes-change.ensures, held_is c.change_rises-viscous.type_inv c.change_rises-viscous.ensures) at c.moving_loss-moving.ensures

pub moving_loss-moving-requires : goal.moving_loss-moving-requires
moving_loss-moving-requires c =
    let h = c.requires.1 in
    (c.requires.0, rw (held_is c.changes-change.type_inv c.changes-change.ensures, held_is c.change_rises-viscous.type_inv c.change_rises-viscous.ensures) (changes-size h ▹ change-rises-size h ▹ ∅))

pub added-requires : goal.added-requires
added-requires c = rw (moving_is c) (wide (moving-size (setup-facts c.args.setup c.requires.0) c.requires.1) tt)

pub returns : goal.returns
returns c = c.added.ensures ∙ ap₂ (λ a b. a +ℤ b) (moving_is c.before) (to_z-of_z c.ranges.released)
