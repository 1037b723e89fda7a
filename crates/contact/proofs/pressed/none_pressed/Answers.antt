-- `none_pressed` meets its contract.
use mathlib.Core.Path.{◌≡◌, refl, sym, ◌∙◌, ap, ap₂}
use mathlib.Core.Bool.{Bool, ◌&&◌, and_assoc, and-true}
use mathlib.Core.List.{List}
use Prim.Native.Nat.{ℕ, ◌+◌, ◌≤◌, ◌<◌}
use native.Mathlib.Numerals.{add-one}
use native.Mathlib.Omega.{arith}
use borrow.Author.Rules.{sfits_of}
use lib.IntN.{ℤ, pos}
use lib.ListN.{length, get_or, drop, drop_of_length-le}
use lib.Seq.{drop-cons}
use lib.Signed.{le_z}
use mir.Syntax.{w32}
use mir.Val.{to_z, of_z}
use mir.Facts.{to_z-of_z}
use Rattle.integers.specs.Scan.{more, over}
use Rattle.model.specs.Differences.{minus}
use Rattle.model.specs.Ranges.{all}
use Rattle.contact.specs.Pressed.{depths-span, depth-at, depth-test}
use Rattle.contact.proofs.pressed.none_pressed.Goals as goal
use Rattle.contact.proofs.pressed.none_pressed.Goals.{After-none-in-loop-i-1, Start}

abbrev free : ℤ → Bool
free d = le_z d (pos 0)

module _ (a : Start) where
  abbrev heights : List ℤ
  heights = a.args.heights.now

  abbrev newer : List ℤ
  newer = a.args.newer.now

  depths-long : length (minus heights newer) ≡ length newer
  depths-long = (depths-span heights newer a.requires).long

  -- the test of what is left, by its first point
  next : (i : ℕ) → i < length newer → all free (drop i (minus heights newer)) ≡ (le_z (get_or heights i (pos 0)) (get_or newer i (pos 0)) && all free (drop (i + 1) (minus heights newer)))
  next i h = rw (add-one, drop-cons (minus heights newer) i (pos 0) (let e = depths-long in omega arith), depth-at heights newer a.requires i, depth-test (get_or heights i (pos 0)) (get_or newer i (pos 0)))

-- the numbers at a point, read from their bits
module _ (c : After-none-in-loop-i-1) where
  abbrev at-height : ℤ
  at-height = get_or (heights c.before.before.before.before) c.loop-i.i (pos 0)

  abbrev own : ℤ
  own = get_or (newer c.before.before.before.before) c.loop-i.i (pos 0)

  height_is : to_z w32 (of_z w32 at-height) ≡ at-height
  height_is = to_z-of_z {w = w32} (sfits_of c.none-1.given)

  own_is : to_z w32 (of_z w32 own) ≡ own
  own_is = to_z-of_z {w = w32} (sfits_of c.none-in-loop-i-1.given)

pub loop-i-preserved : goal.loop-i-preserved
loop-i-preserved c =
    let a = c.before.before.before.before in
    let i = c.loop-i.i in
    let read = ap₂ le_z (height_is c) (own_is c) in
    more c.loop-i.invariant and_assoc _ (next a i c.loop-i-test.true ∙ ap (λ t. t && all free (drop (i + 1) (minus (heights a) (newer a)))) (sym read))

pub returns : goal.returns
returns c =
    let a = c.before.before in
    let past : length (minus (heights a) (newer a)) ≤ c.loop-i.i = let e = depths-long a in omega (arith, c.loop-i-test.false) in
    over c.loop-i.invariant (and-true _) (rw (drop_of_length-le (minus (heights a) (newer a)) past))

pub loop-i-init : goal.loop-i-init
loop-i-init c = record { whole = refl }

pub bounds-newer-i : goal.bounds-newer-i
bounds-newer-i c = c.loop-i-test.true
