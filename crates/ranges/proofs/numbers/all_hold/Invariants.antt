-- The loop's invariant: the test of the whole slice is `ok` and the test of what is left.
use Rattle.std.specs.Prelude.{◌&&◌}
use Rattle.integers.specs.Scan.{Scanned}
use Rattle.model.specs.Ranges.{all}
use Rattle.ranges.proofs.numbers.all_hold.Given as goal

abbrev pub invariant-loop-number : goal.invariant-loop-number
invariant-loop-number g l = Scanned ◌&&◌ (all g.K.Kind.ok) l.numbers l.ok l.number-index
