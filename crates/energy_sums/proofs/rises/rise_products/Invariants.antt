-- The total is the sum over the first i segments.
use Rattle.std.specs.Prelude.{◌≡◌, ◌≤◌}
use Rattle.integers.specs.Sum.{sum}
use Rattle.model.specs.Differences.{at}
use Rattle.laws.specs.Strings.{rise}
use Rattle.energy_sums.specs.Raised.{raised}
use Rattle.energy_sums.proofs.rises.rise_products.Given as goal

abbrev pub invariant-loop-i : goal.invariant-loop-i
invariant-loop-i g l = (1 ≤ l.i) × (l.i ≤ l.points) × (l.total ≡ sum l.i (λ k. raised (rise (at (g.A.Line.numbers l.a)) k) (rise (at (g.B.Line.numbers l.b)) k)))
