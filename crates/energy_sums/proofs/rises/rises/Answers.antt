-- Two strings are a pair.
use Rattle.std.proofs.Common.{refl}
use Rattle.energy_sums.specs.Lines.{strings-pair}
use Rattle.energy_sums.proofs.rises.rises.Goals as goal

pub all_rises-requires : goal.all_rises-requires
all_rises-requires c = (tt, tt, strings-pair c.requires, refl)
