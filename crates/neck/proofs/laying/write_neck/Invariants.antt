-- The loop's invariant: the points below index i are laid, in both buffers.
use Rattle.std.specs.Prelude.{cond, suc, pos}
use Rattle.integers.specs.Filled.{Filled}
use Rattle.model.specs.Differences.{at}
use Rattle.model.specs.Neck.{fret_at}
use Rattle.neck.proofs.laying.write_neck.Given as goal

abbrev pub invariant-loop-i : goal.invariant-loop-i
invariant-loop-i l =
    Filled (pos 0) l.points (λ k. cond (fret_at l.plan.frets.now (suc k)) l.plan.tip (at l.plan.board.now (suc k))) l.i l.heights
    × Filled 0 l.points (λ k. cond (fret_at l.plan.frets.now (suc k)) l.plan.fret_stiffness l.plan.board_stiffness) l.i l.stiffness
