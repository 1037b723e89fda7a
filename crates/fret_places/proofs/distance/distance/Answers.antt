-- `distance` meets its contract.
use mathlib.Core.Path.{◌≡◌, sym, ap, ◌∙◌}
use Prim.Native.Nat.{ℕ, ◌+◌, ◌-◌, ◌*◌, ◌/◌, ◌^◌}
use native.Mathlib.Nat.{mul-one}
use native.Mathlib.Omega.{arith}
use borrow.Author.Tests.{leb-true, leb-false}
use lib.Dec.{leb}
use lib.IntN.{pos}
use lib.Signed.{le_z}
use Rattle.laws.specs.Frets.{one-reaches, all_past, distance_is, distance-unique}
use Rattle.fret_places.proofs.distance.distance.Goals as goal
use Rattle.fret_places.proofs.distance.distance.Goals.{After-reaches, In-loop-low}

pub loop-low-init : goal.loop-low-init
loop-low-init c =
    let k = c.before in
    let N = k.args.segments in
    let q = k.args.q in
    record { first = omega arith; ordered = omega arith; last = omega arith; reached = one-reaches N q k.requires.0 k.requires.2; past = all_past N q }

-- what the test of the middle says
module _ (c : After-reaches) where
  abbrev turn : In-loop-low
  turn = c.before

  abbrev N : ℕ
  N = turn.args.segments

  abbrev q : ℕ
  q = turn.args.q

  abbrev middle : ℕ
  middle = (turn.loop-low.low + turn.loop-low.high + 1) / 2

  tested : c.reaches.result ≡ leb ((2 * middle - 1) ^ 12 * 2 ^ q) ((2 * N) ^ 12)
  tested = c.reaches.ensures ∙ ap (le_z (pos ((2 * middle - 1) ^ 12 * 2 ^ q))) (turn.scaled_power-whole.ensures ∙ ap pos (mul-one ((2 * N) ^ 12)))

pub loop-low-preserved-then-reaches : goal.loop-low-preserved-then-reaches
loop-low-preserved-then-reaches c =
    let k = c.before in
    let b = k.loop-low.invariant in
    let f = b.first in
    let o = b.ordered in
    let l = b.last in
    record { first = omega arith; ordered = omega arith; last = b.last; reached = leb-true _ _ (sym (tested k) ∙ c.if-reaches.true); past = b.past }

pub loop-low-preserved : goal.loop-low-preserved
loop-low-preserved c =
    let k = c.before in
    let b = k.loop-low.invariant in
    let f = b.first in
    let o = b.ordered in
    let l = b.last in
    let e : 2 * (middle k - 1) + 1 ≡ 2 * middle k - 1 = omega arith in
    record { first = b.first; ordered = omega arith; last = omega arith; reached = b.reached; past = rw e (leb-false _ _ (sym (tested k) ∙ c.if-reaches.false)) }

pub returns : goal.returns
returns c =
    let k = c.before.before.before in
    let b = c.loop-low.invariant in
    let f = b.first in
    let o = b.ordered in
    let l = b.last in
    let e : c.loop-low.high ≡ c.loop-low.low = omega arith in
    distance-unique k.args.segments k.args.q _ _ record { low = b.reached; high = rw e at b.past } (distance_is k.args.segments k.args.q k.requires.0 k.requires.2)
