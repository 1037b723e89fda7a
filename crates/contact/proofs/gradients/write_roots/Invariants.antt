-- The loop's invariant: the first j numbers have become their roots, and the rest are as they were.
use Prim.Native.Nat.{◌-◌}
use lib.ListN.{get_or}
use Rattle.integers.specs.Filled.{Rewritten}
use Rattle.model.specs.Gradient.{root}
use Rattle.contact.proofs.gradients.write_roots.Given as goal

abbrev pub invariant-loop-j : goal.invariant-loop-j
invariant-loop-j l = Rewritten 0 128 l.initial.numbers (λ m. root (get_or l.initial.numbers m 0)) l.j l.numbers

abbrev pub decreases-loop-j : goal.decreases-loop-j
decreases-loop-j l = l.end - l.j
