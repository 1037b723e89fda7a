-- The number that is read at a pickup's place is the string's displacement there, which lies in range.
use mathlib.Core.Path.{◌≡◌, sym, ◌∙◌, ap₂, subst}
use mathlib.Core.List.{List}
use Prim.Native.Nat.{ℕ, ◌-◌}
use native.Mathlib.Omega.{arith}
use borrow.Author.Rules.{sfits_of}
use lib.Dec.{T}
use lib.IntN.{ℤ, pos}
use lib.ListN.{get_or}
use mir.Syntax.{w32}
use mir.Val.{to_z, of_z}
use mir.Facts.{to_z-of_z}
use Rattle.model.specs.Differences.{at}
use Rattle.model.specs.Ranges.{inside, displacement_ok}
use Rattle.model.specs.Step.{frame_of}
use Rattle.laws.specs.Accepted.{SetupFacts, setup-facts}
use Rattle.laws.specs.Refusals.{at_all}
use Rattle.laws.specs.Strings.{at-index}
use Rattle.samples.proofs.frame.pickup_frame.Goals as goal
use Rattle.samples.proofs.frame.pickup_frame.Goals.{After-frame-arg-2-1, Start}

facts : (c : Start) → SetupFacts c.args.setup
facts c = setup-facts c.args.setup c.requires.0

module _ (c : After-frame-arg-2-1) where
  abbrev call : Start
  call = c.before.before.before.before

  abbrev string : List ℤ
  string = call.args.string.now

  -- the two pickups' places
  abbrev bridge : ℕ
  bridge = call.args.setup.bridge_place

  abbrev neck : ℕ
  neck = call.args.setup.neck_place

  -- the element before a place, read back from its bits
  abbrev read : ℕ → ℤ
  read i = to_z w32 (of_z w32 (get_or string (i - 1) (pos 0)))

  bridge-read : read bridge ≡ at string bridge
  bridge-read = to_z-of_z {w = w32} (sfits_of c.frame-arg-1.given) ∙ sym (at-index string bridge (facts call).bridge-first)

  neck-read : read neck ≡ at string neck
  neck-read = to_z-of_z {w = w32} (sfits_of c.frame-arg-2-1.given) ∙ sym (at-index string neck (facts call).neck-first)

  in-range : (i : ℕ) → read i ≡ at string i → T (displacement_ok (read i))
  unfolding displacement_ok inside
  in-range i e = subst (λ x. T (displacement_ok x)) (sym e) (at_all displacement_ok string tt call.requires.2 i)

pub returns : goal.returns
returns c = c.frame.ensures ∙ ap₂ frame_of (bridge-read c.before) (neck-read c.before)

pub overflow_sub-bridge : goal.overflow_sub-bridge
overflow_sub-bridge c = (facts c.before.before).bridge-first

pub bounds-string-bridge : goal.bounds-string-bridge
bounds-string-bridge c = omega (arith, facts c.before.before)

pub overflow_sub-neck : goal.overflow_sub-neck
overflow_sub-neck c = (facts c.before.before.before).neck-first

pub bounds-string-neck : goal.bounds-string-neck
bounds-string-neck c = omega (arith, facts c.before.before.before)

pub frame-requires : goal.frame-requires
frame-requires c = (in-range c (bridge c) (bridge-read c), in-range c (neck c) (neck-read c))
