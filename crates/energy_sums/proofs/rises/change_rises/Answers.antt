-- Their change makes one with itself.
use Rattle.std.proofs.Common.{sym}
use Rattle.energy_sums.specs.Lines.{spans-change, change-pair}
use Rattle.energy_sums.proofs.rises.change_rises.Goals as goal

pub all_rises-requires : goal.all_rises-requires
all_rises-requires c = let h = c.requires in (h, h, change-pair h, sym (spans-change h).long)
