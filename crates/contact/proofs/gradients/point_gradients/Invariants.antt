-- The loop's invariant: the gradients of the first j listed points are put in.
use Rattle.contact.specs.PutIn.{PutIn}
use Rattle.contact.proofs.gradients.point_gradients.Given as goal

abbrev pub invariant-loop-j : goal.invariant-loop-j
invariant-loop-j l = PutIn l.neck.stiffness.now l.neck.heights.now l.newer l.listed l.j l.gradients
