-- The loop's invariant: the tip is wrong if `wrong`, or at one of the frets left.
use Rattle.std.specs.Prelude.{◌||◌, pos}
use Rattle.std.specs.Int.Signed.{lt_z}
use Rattle.integers.specs.Scan.{Scanned}
use Rattle.model.specs.Differences.{at}
use Rattle.model.specs.Ranges.{any}
use Rattle.neck.proofs.frets.tip_wrong.Given as goal

abbrev pub invariant-loop-fret : goal.invariant-loop-fret
invariant-loop-fret l = Scanned ◌||◌ (any (λ i. lt_z (pos 0) l.tip || lt_z l.tip (at l.board i))) l.frets l.wrong l.fret-index
