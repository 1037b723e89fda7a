-- The change of two strings can be squared.
use Rattle.integers.specs.Size.{wide}
use Rattle.laws.specs.EnergySizes.{change-within}
use Rattle.energy_sums.specs.Lines.{spans-change}
use Rattle.energy_sums.proofs.changes.changes.Goals as goal

pub squares-requires : goal.squares-requires
squares-requires c = let h = c.requires in (h, (spans-change h).long, h.most, λ i. wide (change-within h i) tt)
