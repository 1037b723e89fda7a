-- The loop's invariant: the points below index i are moved, and the moves of the others are there.
use mathlib.Core.List.{List}
use Prim.Native.Nat.{suc}
use lib.IntN.{ℤ, pos}
use lib.ListN.{length, take}
use Rattle.integers.specs.Filled.{Rewritten}
use Rattle.model.specs.Differences.{at, plus}
use Rattle.motion.proofs.next.next_string.Given as goal

abbrev new : List ℤ → List ℤ → List ℤ
new older moves = plus older (take (length older) moves)

abbrev pub invariant-loop-i : goal.invariant-loop-i
invariant-loop-i l = Rewritten (pos 0) 127 l.initial.string (λ k. at (new l.older l.initial.string) (suc k)) l.i l.string
