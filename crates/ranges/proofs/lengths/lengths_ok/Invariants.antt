-- The loop's invariant: the test of the whole list is `ok` and the test of what is left.
use Rattle.std.specs.Prelude.{◌&&◌}
use Rattle.integers.specs.Scan.{Scanned}
use Rattle.model.specs.Ranges.{all}
use Rattle.model.specs.Setup.{length_ok}
use Rattle.ranges.proofs.lengths.lengths_ok.Given as goal

abbrev pub invariant-loop-length : goal.invariant-loop-length
invariant-loop-length l = Scanned ◌&&◌ (all (length_ok l.fn.setup)) l.lengths l.ok l.length-index
