-- The total is the sum over the first i points.
use mathlib.Core.Path.{◌≡◌}
use mathlib.Core.List.{List}
use Prim.Native.Nat.{ℕ, ◌-◌, ◌≤◌}
use lib.IntN.{ℤ}
use lib.ListN.{length}
use Rattle.integers.specs.Sum.{sum, bend}
use Rattle.model.specs.Differences.{at}
use Rattle.energy_sums.specs.Raised.{raised}
use Rattle.energy_sums.proofs.bends.bend_products.Given as goal

abbrev pub term : List ℤ → List ℤ → ℕ → ℤ
term u v k = raised (bend (at u) k) (bend (at v) k)

abbrev pub invariant-loop-i : goal.invariant-loop-i
invariant-loop-i l = (1 ≤ l.i) × (l.i ≤ length l.newer - 1) × (l.total ≡ sum l.i (term l.newer l.older))
