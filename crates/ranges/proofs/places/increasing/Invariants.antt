-- The loop's invariant: the test of the whole list is `ok` and the test of what is left, from the place before on.
use Rattle.std.specs.Prelude.{◌&&◌, ◌-◌}
use Rattle.integers.specs.Scan.{Scanned}
use Rattle.model.specs.Neck.{increasing}
use Rattle.ranges.proofs.places.increasing.Given as goal

abbrev pub invariant-loop-i : goal.invariant-loop-i
invariant-loop-i l = Scanned ◌&&◌ increasing l.frets l.ok (l.i - 1)
