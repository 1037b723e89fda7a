-- The loop's invariant: the moves and the contact variables of the points below index i are done.
use Prim.Native.Nat.{suc}
use lib.IntN.{pos}
use Rattle.integers.specs.Filled.{Filled}
use Rattle.laws.specs.LastMoves.{last_move, last_contact}
use Rattle.model.specs.Setup.{points}
use Rattle.contact.specs.Contacts.{kept_contacts, gradients_in}
use Rattle.motion.proofs.points.settle_points.Given as goal

abbrev pub invariant-loop-i : goal.invariant-loop-i
invariant-loop-i l =
    let u = l.state.newer.now in
    let ψ = kept_contacts l.heights u l.state.contact.now in
    let G = gradients_in (points l.setup) l.gradients in
    Filled (pos 0) 127 (λ k. last_move l.setup u l.state.older.now ψ G l.pluck (suc k)) l.i l.moves
    × Filled (pos 0) 127 (λ k. last_contact l.setup u l.state.older.now ψ G l.pluck (suc k)) l.i l.contacts
