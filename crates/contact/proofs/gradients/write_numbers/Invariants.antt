-- The loop's invariant: the numbers of the first j listed points are written, and the rest are 0.
use lib.ListN.{get_or}
use Rattle.integers.specs.Filled.{Begun}
use Rattle.contact.specs.Pressed.{number_at}
use Rattle.contact.proofs.gradients.write_numbers.Given as goal

abbrev pub invariant-loop-j : goal.invariant-loop-j
invariant-loop-j l = Begun 0 128 (λ m. number_at l.neck.stiffness.now l.neck.heights.now l.newer (get_or l.list m 0)) l.j l.numbers
