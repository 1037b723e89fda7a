-- `settle_finger` meets its contract: the point at p lies at index p − 1.
use mathlib.Core.Path.{◌≡◌, refl, sym, ◌∙◌, ap, subst}
use mathlib.Core.Bool.{cond}
use mathlib.Core.List.{List, [], ◌∷◌}
use Prim.Native.Nat.{ℕ, suc, ◌-◌, ◌<◌}
use native.Mathlib.Omega.{arith}
use lib.Dec.{T, eqb, lit<}
use lib.ListN.{get_or}
use lib.Signed.{◌≤ℤ◌}
use lib.IntN.{ℤ, pos, ◌+ℤ◌, ◌-ℤ◌, ◌*ℤ◌}
use mir.Syntax.{w32, w64}
use mir.Val.{to_z, of_z}
use Rattle.integers.specs.Bits.{back}
use Rattle.integers.specs.Machine.{Within}
use Rattle.integers.specs.Size.{◌within◌}
use Rattle.model.specs.Ranges.{displacement_ok, contact_ok, force_ok}
use Rattle.model.specs.Gradient.{gradient}
use Rattle.model.specs.Setup.{K, p, e, points}
use Rattle.model.specs.Differences.{at}
use Rattle.model.specs.State.{State, Forces, PointsAndFinger}
use Rattle.model.specs.Step.{right_side}
use Rattle.model.specs.declared.Finger.{Finger}
use Rattle.model.specs.declared.Setup.{Setup}
use Rattle.laws.specs.Clearing.{kept-ok}
use Rattle.laws.specs.Gradient.{gradient-size, gradient-nonneg}
use Rattle.laws.specs.LastMoves.{free_at, pair_at, last_pair}
use Rattle.laws.specs.MoveSizes.{change_size}
use Rattle.laws.specs.Sizes.{inside-within}
use Rattle.contact.specs.Contacts.{kept_contacts, gradients_in, finger_depth, kept_finger}
use Rattle.contact.specs.declared.finger.Contact.{Contact}
use Rattle.motion.specs.AtPoint.{read, force-read, side-read, gradient-read, variable-read}
use Rattle.motion.specs.InRange.{facts, most-points, finger-place, finger-point, kept-size, gradient-low, force-ok}
use Rattle.motion.specs.Weighted.{weighted, placed}
use Rattle.motion.specs.MoveRanges.{PointRanges, FingerRanges, worked_sizes}
use Rattle.finger_motion.specs.FingerPoint.{at_finger, last_worked, worked-last, worked-sizes, worked-change, StepRanges, pair-ranges}
use Rattle.finger_motion.specs.Pair.{PairRanges, Pair, PairAt}
use Rattle.finger_motion.specs.declared.pair.WorkedPair.{WorkedPair}
use Rattle.finger_motion.specs.declared.point.FingerPoint.{FingerPoint}
use Rattle.finger_motion.proofs.point.settle_finger.Goals as goal

module _ {s : Setup} {h u v ψ weights : List ℤ} (gs : List ℕ) {finger : Finger} {pluck : ℤ} (force : ℤ)
    (given : PointRanges s h u v ψ (gradients_in (points s) gs) pluck × (weights ≡ placed (weighted s u v)) × FingerRanges finger × T (force_ok force))
  where
    r : PointRanges s h u v ψ (gradients_in (points s) gs) pluck
    r = given.0

    abbrev F : Forces
    F = record { pluck = pluck; finger = force }

    -- the state after clearing, and its gradients
    abbrev y : State
    y = record { newer = u; older = v; contact = kept_contacts h u ψ; finger = kept_finger s u finger }

    abbrev G : PointsAndFinger
    G = record { points = gradients_in (points s) gs; finger = gradient (K s) (finger_depth s u finger) }

    held : FingerRanges y.finger
    held = let k = given.2 in record { newer = k.newer; older = k.older; contact = kept-ok (finger_depth s u finger) finger.contact k.contact }

    ranges : StepRanges s y F
    ranges = record { strings = r.strings; contact = kept-size r; finger = held; pluck = r.force; force = given.3 }

    place : suc (p s - 1) ≡ p s
    place = finger-place r.strings

    in_array : p s - 1 < 127
    in_array = let l = finger-point r.strings in let m = most-points r.strings in omega arith

    pair : Pair (pair_at s y F G)
    pair = record { own = (r.gradients (p s), subst (λ (i : ℕ). pos 0 ≤ℤ at G.points i) place (gradient-low gs (p s - 1) (finger-point r.strings))); gradient = (gradient-size _ _, gradient-nonneg _ _) }

    abbrev settled : WorkedPair
    settled = last_worked s (free_at s y F G (p s)) (at y.contact (p s)) y.finger F.finger (pair_at s y F G)

    -- what `settle_pair` is given, read from its bits
    record Read (b' ψ' : ℤ) (finger' : Finger) (f' own' gradient' : ℤ) : Type 0 where
      pub side : b' ≡ free_at s y F G (p s)
      pub variable : ψ' ≡ at y.contact (p s)
      pub held : finger' ≡ y.finger
      pub pushed : f' ≡ F.finger
      pub own : own' ≡ at G.points (p s)
      pub gradient : gradient' ≡ G.finger

    finger-read : {contact : Contact} → contact ≡ (record { gradient = G.finger; variable = y.finger.contact })
        → ◌≡◌ {A = Finger} (record { newer = to_z w32 (of_z w32 finger.newer); older = to_z w32 (of_z w32 finger.older); contact = to_z w32 (of_z w32 contact.variable) }) y.finger
    unfolding displacement_ok contact_ok
    finger-read e = λ i. record {
      newer = back w32 (inside-within 1048576 finger.newer given.2.newer) (lit< tt) i;
      older = back w32 (inside-within 1048576 finger.older given.2.older) (lit< tt) i;
      contact = read w32 (ap (λ c. c.variable) e) (inside-within 67108864 y.finger.contact held.contact) (lit< tt) i;
    }

    reads : {x side variable : ℤ} {contact : Contact} → x ≡ cond (eqb (p s) (e s)) (to_z w32 (of_z w32 F.pluck)) (pos 0)
        → side ≡ right_side s u v (pos 0) (pos 0) (to_z w32 (of_z w32 x)) (suc (p s - 1))
        → variable ≡ at y.contact (suc (p s - 1))
        → contact ≡ (record { gradient = G.finger; variable = y.finger.contact })
        → Read (to_z w64 (of_z w64 side)) (to_z w32 (of_z w32 variable)) (record { newer = to_z w32 (of_z w32 finger.newer); older = to_z w32 (of_z w32 finger.older); contact = to_z w32 (of_z w32 contact.variable) })
        (to_z w32 (of_z w32 F.finger)) (to_z w64 (of_z w64 (pos (get_or gs (p s - 1) 0)))) (to_z w64 (of_z w64 contact.gradient))
    unfolding force_ok
    reads n side variable contact = record {
      side = side-read r place (force-read r refl n) side;
      variable = variable-read r place variable;
      held = finger-read contact;
      pushed = back w32 (inside-within 1073741824 F.finger given.3) (lit< tt);
      own = gradient-read gs place (finger-point r.strings) (r.gradients (p s));
      gradient = read w64 (ap (λ c. c.gradient) contact) (gradient-size _ _) (lit< tt);
    }

    -- and what it comes to
    module _ {b' ψ' : ℤ} {finger' : Finger} {f' own' gradient' : ℤ} (x : Read b' ψ' finger' f' own' gradient') where
      passed : PairRanges s b' ψ' finger' f' × Pair (own', gradient')
      passed = rw (x.side, x.variable, x.held, x.pushed, x.own, x.gradient) (pair-ranges ranges G, pair)

      module _ {w : WorkedPair} (k : PairAt s b' ψ' finger' f' (last_pair s b' ψ' finger' f' (own', gradient')) w) where
        worked_is : w ≡ settled
        worked_is = worked-last s (free_at s y F G (p s)) (at y.contact (p s)) y.finger F.finger (pair_at s y F G) (rw (x.side, x.variable, x.held, x.pushed, x.own, x.gradient) at k)

        sizes : Within (ψ' ∷ w.left.own ∷ w.left.finger ∷ w.moves.delta ∷ w.moves.finger_delta ∷ []) worked_sizes × ((w.left.own *ℤ w.moves.delta) within change_size)
        sizes = rw (worked_is, x.variable) (
          worked-sizes s (free_at s y F G (p s)) (at y.contact (p s)) y.finger F.finger (pair_at s y F G) (pair-ranges ranges G) pair,
          worked-change s (free_at s y F G (p s)) (at y.contact (p s)) y.finger F.finger (pair_at s y F G) (pair-ranges ranges G) pair,
        )

        leads : ◌≡◌ {A = FingerPoint} (record {
          delta = w.moves.delta;
          contact = ψ' -ℤ w.left.own *ℤ w.moves.delta;
          height = finger'.older +ℤ w.moves.finger_delta;
          finger_contact = finger'.contact +ℤ w.left.finger *ℤ (w.moves.delta -ℤ w.moves.finger_delta);
        }) (at_finger s y G F)
        leads = rw (worked_is, x.variable, x.held) refl

pub overflow_sub-own : goal.overflow_sub-own
overflow_sub-own c = (facts c.requires.0.strings).first

pub bounds-gradients-place : goal.bounds-gradients-place
bounds-gradients-place c = in_array c.args.gradients.now c.args.forces.finger c.requires

pub overflow_sub-place : goal.overflow_sub-place
overflow_sub-place c = (facts c.requires.0.strings).first

pub kept_at-variable-requires : goal.kept_at-variable-requires
kept_at-variable-requires c =
    let r = c.requires.0 in
    let n = r.strings.newer-length in
    (r.heights-length ∙ sym n, r.contact-length ∙ sym n, rw n (finger-point r.strings))

pub overflow_sub-place-2 : goal.overflow_sub-place-2
overflow_sub-place-2 c = (facts c.requires.0.strings).first

pub free_side-side-requires : goal.free_side-side-requires
free_side-side-requires c =
    let r = c.requires.0 in
    (r.strings, c.requires.1, rw (force-read r refl c.force_at-pluck_at.ensures) (force-ok c.args.forces.pluck _ r.force), finger-point r.strings)

pub finger_contact-held-requires : goal.finger_contact-held-requires
finger_contact-held-requires c = let r = c.requires.0 in (r.strings.setup, r.strings.newer-length, r.strings.newer, c.requires.2.newer)

pub settle_pair-pair-requires : goal.settle_pair-pair-requires
settle_pair-pair-requires c =
    let gs = c.args.gradients.now in
    let f = c.args.forces.finger in
    passed gs f c.requires (reads gs f c.requires c.force_at-pluck_at.ensures c.free_side-side.ensures c.kept_at-variable.ensures c.finger_contact-held.ensures)

pub next_at_finger-requires : goal.next_at_finger-requires
next_at_finger-requires c =
    let gs = c.args.gradients.now in
    let f = c.args.forces.finger in
    sizes gs f c.requires (reads gs f c.requires c.force_at-pluck_at.ensures c.free_side-side.ensures c.kept_at-variable.ensures c.finger_contact-held.ensures) c.settle_pair-pair.ensures

pub returns : goal.returns
returns c =
    let gs = c.args.gradients.now in
    let f = c.args.forces.finger in
    c.next_at_finger.ensures ∙ leads gs f c.requires (reads gs f c.requires c.force_at-pluck_at.ensures c.free_side-side.ensures c.kept_at-variable.ensures c.finger_contact-held.ensures) c.settle_pair-pair.ensures
