-- The loop's invariant: the tip is wrong if `wrong`, or at one of the frets left.
use Rattle.std.proofs.Common.{rules, ◌≡◌, refl, arith, Bool, List, ℕ, ◌-◌, ◌≤◌, ◌<◌, ℤ, pos, T, length, get_or, to_z, of_z, w32}
use Rattle.std.specs.Prelude.{◌||◌}
use Rattle.std.specs.Int.Signed.{lt_z}
use Rattle.model.specs.Differences.{at}
use Rattle.model.specs.Ranges.{all, between}
use Rattle.laws.specs.Accepted.{between-yes}
use Rattle.laws.specs.Refusals.{all-entry}
use Rattle.laws.specs.Strings.{at-index}
use Rattle.ranges.specs.Scan.{more-any}
use Rattle.neck.proofs.frets.tip_wrong.Goals as goal

-- the tip is wrong at this place
abbrev wrong_at : ℤ → List ℤ → ℕ → Bool
wrong_at tip board i = lt_z (pos 0) tip || lt_z tip (at board i)

-- the fret stands on the board
on-board : (board : List ℤ) (frets : List ℕ) → T (all (λ i. between 1 i (length board)) frets) → (i : ℕ) → i < length frets → (1 ≤ get_or frets i 0) × (get_or frets i 0 ≤ length board)
on-board board frets h i l = between-yes 1 (get_or frets i 0) (length board) (all-entry (λ i. between 1 i (length board)) frets 0 h i l)

pub overflow_sub-wrong : goal.overflow_sub-wrong
overflow_sub-wrong c = (on-board c.args.board.now c.args.frets.now c.requires c.loop-fret.fret-index c.loop-fret-test.true).0

pub bounds-board-fret : goal.bounds-board-fret
bounds-board-fret c = omega (arith, on-board c.args.board.now c.args.frets.now c.requires c.loop-fret.fret-index c.loop-fret-test.true)

pub loop-fret-preserved : goal.loop-fret-preserved
loop-fret-preserved c =
    let place = get_or c.args.frets.now c.loop-fret.fret-index 0 in
    let height = get_or c.args.board.now (place - 1) (pos 0) in
    let held : to_z w32 (of_z w32 height) ≡ height = search rules in
    let read = at-index c.args.board.now place (on-board c.args.board.now c.args.frets.now c.requires c.loop-fret.fret-index c.loop-fret-test.true).0 in
    more-any (wrong_at (to_z w32 (of_z w32 c.args.tip)) c.args.board.now) c.loop-fret.invariant c.loop-fret-test.true 0 _ (rw (read, held) refl)
