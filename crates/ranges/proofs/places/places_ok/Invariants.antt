-- The loop's invariant: the test of the whole list is `ok` and the test of what is left.
use Rattle.std.specs.Prelude.{◌&&◌}
use Rattle.integers.specs.Scan.{Scanned}
use Rattle.model.specs.Ranges.{all}
use Rattle.model.specs.Setup.{place_ok}
use Rattle.ranges.proofs.places.places_ok.Given as goal

abbrev pub invariant-loop-place : goal.invariant-loop-place
invariant-loop-place l = Scanned ◌&&◌ (all (place_ok l.setup)) l.places l.ok l.place-index
