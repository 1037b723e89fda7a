-- The loop's invariant: the test of all depths is the flag and the test of what is left.
use mathlib.Core.Bool.{Bool, ◌&&◌}
use lib.IntN.{ℤ, pos}
use lib.Signed.{le_z}
use Rattle.integers.specs.Scan.{Scanned}
use Rattle.model.specs.Differences.{minus}
use Rattle.model.specs.Ranges.{all}
use Rattle.contact.proofs.pressed.none_pressed.Given as goal

abbrev free : ℤ → Bool
free d = le_z d (pos 0)

abbrev pub invariant-loop-i : goal.invariant-loop-i
invariant-loop-i l = Scanned ◌&&◌ (all free) (minus l.heights l.newer) l.none l.i
