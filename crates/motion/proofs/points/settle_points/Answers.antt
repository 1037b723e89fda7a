-- `settle_points` meets its contract.
use mathlib.Core.Path.{◌≡◌, refl, ◌∙◌, ap}
use mathlib.Core.List.{List, [], ◌∷◌}
use Prim.Native.Nat.{ℕ, suc, ◌<◌}
use native.Mathlib.Numerals.{add-one}
use native.Mathlib.Omega.{arith}
use borrow.Author.Rules.{rules}
use lib.IntN.{ℤ, pos}
use lib.ListN.{length}
use lib.Signed.{◌≤ℤ◌}
use mir.Syntax.{w32}
use mir.Val.{SFits}
use mir.Facts.{to_z-of_z}
use Rattle.integers.specs.Filled.{filled_more, filled-first}
use Rattle.integers.specs.Machine.{Within, ∅, ◌▹◌}
use Rattle.model.specs.Setup.{points, setup_rules}
use Rattle.model.specs.declared.Setup.{Setup}
use Rattle.promises.specs.Promises.{Passed}
use Rattle.laws.specs.LastMoves.{last_move, last_contact}
use Rattle.contact.specs.Contacts.{kept_contacts, gradients_in}
use Rattle.motion.specs.AtPoint.{force-read, side-read, gradient-read, variable-read}
use Rattle.motion.specs.InRange.{most-points, kept-size, side-within, gradient-low, force-ok}
use Rattle.motion.specs.MoveRanges.{PointRanges, point_sizes}
use Rattle.motion.proofs.points.settle_points.Goals as goal
use Rattle.motion.proofs.points.settle_points.Goals.{After-free_side-side, After-struct_told-in-loop-i-1}

-- a point of the string
module _ {s : Setup} {h u v ψ G : List ℤ} {f : ℤ} (r : PointRanges s h u v ψ G f) {i : ℕ} (l : i < length u) where
  point : i < points s
  point = let e = r.strings.newer-length in omega arith

  in_array : i < 127
  in_array = let m = most-points r.strings in let k = point in omega arith

pub bounds-gradients-i : goal.bounds-gradients-i
bounds-gradients-i c = in_array c.requires.0 c.loop-i-test.true

pub free_side-side-requires : goal.free_side-side-requires
free_side-side-requires c =
    let r = c.requires.0 in
    let l = point r c.loop-i-test.true in
    (r.strings, c.requires.1, rw (force-read r (add-one c.loop-i.i) c.force_at-force.ensures) (force-ok c.args.pluck _ r.force), l)

-- what is asked of the numbers as they are read, by what they are
asked : (s : Setup) {x g y x' g' y' : ℤ} → x ≡ x' → g ≡ g' → y ≡ y' → Passed (setup_rules s) × Within (x' ∷ g' ∷ y' ∷ []) point_sizes × (pos 0 ≤ℤ g')
    → Passed (setup_rules s) × Within (x ∷ g ∷ y ∷ []) point_sizes × (pos 0 ≤ℤ g)
asked s e f q h = rw (e, f, q) h

pub settle_point-point-requires : goal.settle_point-point-requires
settle_point-point-requires c =
    let r = c.requires.0 in
    let l = point r c.loop-i-test.true in
    let k = suc c.loop-i.i in
    let u = c.args.state.newer.now in
    let G = gradients_in (points c.args.setup) c.args.gradients.now in
    asked c.args.setup (side-read r refl (force-read r (add-one c.loop-i.i) c.force_at-force.ensures) c.free_side-side.ensures) (gradient-read c.args.gradients.now refl l (r.gradients k)) (variable-read r refl c.kept_at-kept.ensures) (
      r.strings.setup,
      side-within r.strings c.args.pluck r.force (kept_contacts c.args.heights.now u c.args.state.contact.now) G k ▹ r.gradients k ▹ kept-size r k ▹ ∅,
      gradient-low c.args.gradients.now c.loop-i.i l,
    )

pub bounds-moves-i : goal.bounds-moves-i
bounds-moves-i c = in_array c.requires.0 c.loop-i-test.true

pub bounds-contacts-i : goal.bounds-contacts-i
bounds-contacts-i c = in_array c.requires.0 c.loop-i-test.true

fits : (c : After-struct_told-in-loop-i-1) → SFits w32 c.settle_point-point.result.delta × SFits w32 c.settle_point-point.result.contact
fits c = search rules

pub loop-i-preserved : goal.loop-i-preserved
loop-i-preserved c =
    let r = c.requires.0 in
    let l = point r c.loop-i-test.true in
    let settled = rw (side-read r refl (force-read r (add-one c.loop-i.i) c.force_at-force.ensures) c.free_side-side.ensures, gradient-read c.args.gradients.now refl l (r.gradients (suc c.loop-i.i)), variable-read r refl c.kept_at-kept.ensures) at c.settle_point-point.ensures in
    let fit = fits c in
    let inv = rw (to_z-of_z c.ranges.pluck) at c.loop-i.invariant in
    let k = c.args in
    let ψ = kept_contacts k.heights.now k.state.newer.now k.state.contact.now in
    let G = gradients_in (points k.setup) k.gradients.now in
    rw (to_z-of_z c.ranges.pluck) (
      filled_more {f = λ i. last_move k.setup k.state.newer.now k.state.older.now ψ G k.pluck (suc i)} (in_array r c.loop-i-test.true) inv.0 (to_z-of_z fit.0 ∙ ap (λ r. r.delta) settled),
      filled_more {f = λ i. last_contact k.setup k.state.newer.now k.state.older.now ψ G k.pluck (suc i)} (in_array r c.loop-i-test.true) inv.1 (to_z-of_z fit.1 ∙ ap (λ r. r.contact) settled),
    )

pub returns : goal.returns
returns c =
    let r = c.requires.0 in
    let e = r.strings.newer-length in
    let inv = rw (to_z-of_z c.ranges.pluck) at c.loop-i.invariant in
    let m = most-points r.strings in (
      inv.0.len,
      inv.1.len,
      filled-first {m = points c.args.setup} (omega (arith, c.loop-i-test.false)) m inv.0,
      filled-first {m = points c.args.setup} (omega (arith, c.loop-i-test.false)) m inv.1,
    )
