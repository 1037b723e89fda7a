-- `list_pressed` meets its contract.
use mathlib.Core.Path.{◌≡◌, sym, subst}
use Prim.Native.Nat.{ℕ, ◌<◌, ◌+◌}
use native.Mathlib.Omega.{arith}
use borrow.Author.Rules.{sfits_of}
use lib.IntN.{ℤ, pos}
use lib.ListN.{length, get_or, set}
use mir.Syntax.{w32}
use mir.Val.{SFits}
use Rattle.integers.specs.Tests.{below_at, below_true, below_false}
use Rattle.contact.specs.Pressed.{Listed, listed_more, listed_same}
use Rattle.contact.proofs.pressed.list_pressed.Goals as goal
use Rattle.contact.proofs.pressed.list_pressed.Goals.{then-newer-i, else-newer-i, In-loop-i, Joined-newer-i, Start}

-- a turn: the point, and where it is written
module _ (c : In-loop-i) where
  abbrev i : ℕ
  i = c.loop-i.i

  abbrev count : ℕ
  count = c.loop-i.count

  listed : Listed c.args.heights.now c.args.newer.now i c.loop-i.list count
  listed = c.loop-i.invariant.1

  point : i < 127
  point = let l = c.loop-i-test.true in let m = c.requires.1 in omega arith

  in_list : count < 128
  in_list = let f = listed.few in let l = point in omega arith

-- what the test says
module _ (c : Joined-newer-i) where
  abbrev turn : In-loop-i
  turn = c.before.before.before.before

  abbrev start : Start
  start = turn.before.before

  abbrev own : ℤ
  own = get_or start.args.newer.now (i turn) (pos 0)

  abbrev height : ℤ
  height = get_or start.args.heights.now (i turn) (pos 0)

  own-fits : SFits w32 own
  own-fits = sfits_of c.t13-1.given

  height-fits : SFits w32 height
  height-fits = sfits_of c.t16-1.given

  abbrev Next : ℕ → Type 0
  Next = Listed start.args.heights.now start.args.newer.now (i turn + 1) (set turn.loop-i.list (count turn) (i turn))

  next : Next c.if-newer-i.count
  next = elim c.if-newer-i.branch [
    | then-newer-i w ↦ subst Next (sym w.count-is) (listed_more (listed turn) (let l = point turn in omega arith) (below_true own height (below_at w32 _ own height w.if-newer-i.true own-fits height-fits)))
    | else-newer-i w ↦ subst Next (sym w.count-is) (listed_same (listed turn) (let l = point turn in omega arith) (below_false own height (below_at w32 _ own height w.if-newer-i.false own-fits height-fits)))
  ]

pub returns : goal.returns
returns c =
    let a = c.before.before in
    let inv = c.loop-i.invariant in
    let l = c.loop-i-test.false in
    let e : c.loop-i.i ≡ length a.args.newer.now = let b = inv.0 in omega arith in
    subst (λ (n : ℕ). Listed a.args.heights.now a.args.newer.now n c.loop-i.list c.loop-i.count) e inv.1

pub bounds-list-count : goal.bounds-list-count
bounds-list-count c = in_list c.before

pub bounds-newer-i : goal.bounds-newer-i
bounds-newer-i c = c.loop-i-test.true

pub loop-i-preserved : goal.loop-i-preserved
loop-i-preserved c = (omega (arith, (turn c).loop-i-test.true), next c)
