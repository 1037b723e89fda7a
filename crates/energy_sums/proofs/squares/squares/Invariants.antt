-- The total is the sum over the first i numbers.
use Rattle.std.specs.Prelude.{◌≡◌, ◌≤◌}
use Rattle.integers.specs.Sum.{sum}
use Rattle.laws.specs.Strings.{◌·◌}
use Rattle.energy_sums.proofs.squares.squares.Given as goal

abbrev pub invariant-loop-i : goal.invariant-loop-i
invariant-loop-i g l = (l.i ≤ l.count) × (l.total ≡ sum l.i (g.L.Line.numbers l.line · g.L.Line.numbers l.line))
