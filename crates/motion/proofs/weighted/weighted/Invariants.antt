-- The loop's invariant: the places up to i are done and the others are 0, and `left` is the displacement at place i.
use mathlib.Core.Path.{◌≡◌}
use Prim.Native.Nat.{◌+◌}
use lib.IntN.{pos}
use Rattle.integers.specs.Filled.{Begun}
use Rattle.model.specs.Differences.{at}
use Rattle.motion.specs.Weighted.{weighted}
use Rattle.motion.proofs.weighted.weighted.Given as goal

abbrev pub invariant-loop-i : goal.invariant-loop-i
invariant-loop-i l = (l.left ≡ at l.newer l.i) × Begun (pos 0) 129 (at (weighted l.setup l.newer l.older)) (l.i + 1) l.out
