-- The loop's invariant: the pressed points below index i are listed.
use Prim.Native.Nat.{◌≤◌}
use lib.ListN.{length}
use Rattle.contact.specs.Pressed.{Listed}
use Rattle.contact.proofs.pressed.list_pressed.Given as goal

abbrev pub invariant-loop-i : goal.invariant-loop-i
invariant-loop-i l = (l.i ≤ length l.newer) × Listed l.heights l.newer l.i l.list l.count
