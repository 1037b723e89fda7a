-- The loop's invariant: the test of the whole slice is `ok` and the test of what is left.
use Rattle.std.specs.Prelude.{◌&&◌}
use Rattle.integers.specs.Scan.{Scanned}
use Rattle.model.specs.Ranges.{all, inside}
use Rattle.ranges.proofs.numbers.all_inside_i32.Given as goal

abbrev pub invariant-loop-x : goal.invariant-loop-x
invariant-loop-x l = Scanned ◌&&◌ (all (λ x. inside l.low x l.high)) l.numbers l.ok l.x-index
