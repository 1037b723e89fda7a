-- The points as if there were no finger, then what the finger and its point come to put in at p.
use Rattle.std.proofs.Common.{◌≡◌, ℕ, suc, ◌-◌, ◌<◌, ◌≤◌, refl, sym, ◌∙◌, ap, subst, arith, rules, take, length, length-set, to_z, of_z, to_z-of_z, SFits, lit<, zero-le}
use Rattle.std.specs.Prelude.{Bool, true, false, cond, List, ℤ, eqb, set, pos}
use Rattle.std.proofs.Math.Path.{transport}
use Rattle.std.specs.Int.{w32, w64}
use Rattle.integers.specs.Bits.{back}
use Rattle.integers.specs.Filled.{tabulate, tabulate-set}
use Rattle.integers.specs.Size as Size
use Rattle.integers.specs.Size.{◌within◌, natural}
use Rattle.model.specs.Gradient.{gradient}
use Rattle.model.specs.Ranges.{displacement_ok, force_ok}
use Rattle.model.specs.Setup.{K, p, points}
use Rattle.model.specs.Differences.{places, plus}
use Rattle.model.specs.State.{State, PointsAndFinger, Neck, Forces}
use Rattle.model.specs.Step.{clear, gradients, next_state, worked_step}
use Rattle.model.specs.declared.Setup.{Setup}
use Rattle.laws.specs.LastMoves.{last_move, last_contact, move_at, contact_at, move_at_finger, next-outright}
use Rattle.laws.specs.MoveSizes.{move_size}
use Rattle.laws.specs.Sizes.{Bounded, bounded, inside-within}
use Rattle.laws.specs.Strings.{places-each}
use Rattle.contact.specs.Contacts.{kept_contacts, gradients_at, gradients_in, finger_depth, kept_finger}
use Rattle.finger_motion.specs.FingerPoint.{at_finger, at-finger-size, away-size}
use Rattle.finger_motion.specs.declared.point.FingerPoint.{FingerPoint}
use Rattle.motion.specs.InRange.{facts, most-points, finger-place, finger-point}
use Rattle.motion.specs.MoveRanges.{PointRanges}
use Rattle.step.proofs.work_out.Called.{Called, called, own-size, pair, point-ranges, step-ranges}
use Rattle.step.proofs.work_out.work_out.Goals as goal

module _ {s : Setup} {neck : Neck} {x : State} {F : Forces} (h : Called s neck x F) where
  abbrev n : ℕ
  n = points s

  abbrev index : ℕ
  index = p s - 1

  -- the state after clearing, and its gradients
  abbrev y : State
  y = clear s neck x

  abbrev G : PointsAndFinger
  G = gradients s neck x

  in_array : p s - 1 < 127
  in_array = let l = finger-point h.strings in let m = most-points h.strings in omega arith

  short : length x.older ≤ 127
  short = rw h.strings.older-length (most-points h.strings)

  -- the pluck force, read from its bits
  pluck_is : to_z w32 (of_z w32 F.pluck) ≡ F.pluck
  unfolding force_ok
  pluck_is = back w32 (inside-within 1073741824 F.pluck h.pluck) (lit< tt)

  -- the gradients of the points, in an array
  module _ (array : List ℕ) (own : gradients_in (length x.newer) array ≡ gradients_at neck.stiffness neck.heights x.newer) where
    gradients-are : gradients_in n array ≡ gradients_at neck.stiffness neck.heights x.newer
    gradients-are = ap (λ (n : ℕ). gradients_in n array) (sym h.strings.newer-length) ∙ own

    ranges : {f : ℤ} → f ≡ F.pluck → PointRanges s neck.heights x.newer x.older x.contact (gradients_in n array) f
    ranges e = transport (λ i. PointRanges s neck.heights x.newer x.older x.contact (sym gradients-are i) (sym e i)) (point-ranges h)

    free-moves : {l : List ℤ} → l ≡ places n (last_move s x.newer x.older (kept_contacts neck.heights x.newer x.contact) (gradients_in n array) (to_z w32 (of_z w32 F.pluck)))
        → l ≡ places n (move_at s y F G)
    unfolding clear gradients
    free-moves e = e ∙ (λ i. places n (last_move s x.newer x.older y.contact (gradients-are i) (pluck_is i)))

    free-contacts : {l : List ℤ} → l ≡ places n (last_contact s x.newer x.older (kept_contacts neck.heights x.newer x.contact) (gradients_in n array) (to_z w32 (of_z w32 F.pluck)))
        → l ≡ places n (contact_at s y F G)
    unfolding clear gradients
    free-contacts e = e ∙ (λ i. places n (last_contact s x.newer x.older y.contact (gradients-are i) (pluck_is i)))

    settled : {r : FingerPoint}
        → r ≡ at_finger s (record { newer = x.newer; older = x.older; contact = kept_contacts neck.heights x.newer x.contact; finger = kept_finger s x.newer x.finger })
        (record { points = gradients_in n array; finger = gradient (K s) (finger_depth s x.newer x.finger) }) F
        → r ≡ at_finger s y G F
    unfolding clear gradients
    settled e = e ∙ (λ i. at_finger s y (record { points = gradients-are i; finger = G.finger }) F)

  -- an array of numbers f with z put in at p
  put_in : (l : List ℤ) (f : ℕ → ℤ) (z : ℤ) → take n l ≡ places n f → take n (set l index z) ≡ places n (λ i. cond (eqb i (p s)) z (f i))
  put_in l f z e =
      tabulate-set (pos 0) n (λ j. f (suc j)) index l z (finger-point h.strings) e ∙ ap (λ (i : ℕ). tabulate n (λ j. cond (eqb (suc j) i) z (f (suc j)))) (finger-place h.strings)

  abbrev move : ℕ → ℤ
  move i = cond (eqb i (p s)) (move_at_finger s y F G) (move_at s y F G i)

  move-size : (i : ℕ) → move i within move_size
  move-size i = either (eqb i (p s))
    where
      either : (t : Bool) → cond t (move_at_finger s y F G) (move_at s y F G i) within move_size
      either true = at-finger-size (step-ranges h) G (pair h)
      either false = away-size (step-ranges h) G i (own-size h i)

  module _ (moves : List ℤ) {r : FingerPoint} (free : take n moves ≡ places n (move_at s y F G)) (put : r ≡ at_finger s y G F) where
    -- the move at p, read from its bits
    abbrev delta : ℤ
    delta = to_z w32 (of_z w32 r.delta)

    delta_is : delta ≡ move_at_finger s y F G
    delta_is = ap (λ r. to_z w32 (of_z w32 r.delta)) put ∙ to_z-of_z {w = w32} (Size.fits (at-finger-size (step-ranges h) G (pair h)) tt)

    -- of the first numbers, as many as the older string has
    moves-are : take (length x.older) (set moves index delta) ≡ places n move
    moves-are =
        ap (λ (n : ℕ). take n (set moves index delta)) h.strings.older-length
        ∙ put_in moves (move_at s y F G) delta free ∙ ap (λ z. places n (λ i. cond (eqb i (p s)) z (move_at s y F G i))) delta_is

    moves-within : Bounded (take (length x.older) (set moves index delta)) move_size
    moves-within = subst (λ l. Bounded l move_size) (sym moves-are) (places-each (λ z. z within move_size) (natural zero-le) n move move-size)

    -- the next state, as it was worked out
    next_is : (string contacts : List ℤ) → take (length x.older) string ≡ plus x.older (take (length x.older) (set moves index delta)) → take n contacts ≡ places n (contact_at s y F G)
        → SFits w32 r.contact → SFits w64 r.height → SFits w64 r.finger_contact → ◌≡◌ {A = State} (record {
          newer = take n string;
          older = x.newer;
          contact = take n (set contacts index (to_z w32 (of_z w32 r.contact)));
          finger = record { newer = to_z w64 (of_z w64 r.height); older = x.finger.newer; contact = to_z w64 (of_z w64 r.finger_contact) };
        }) (next_state (worked_step s neck x F))
    unfolding clear
    next_is string contacts e others contact height finger-contact =
        let string_is : take n string ≡ plus x.older (places n move) = ap (λ (n : ℕ). take n string) (sym h.strings.older-length) ∙ e ∙ ap (plus x.older) moves-are in
        let contact_is = to_z-of_z {w = w32} contact ∙ ap (λ r. r.contact) put in
        let contacts-are = put_in contacts (contact_at s y F G) _ others ∙ ap (λ z. places n (λ i. cond (eqb i (p s)) z (contact_at s y F G i))) contact_is in
        let height_is = to_z-of_z {w = w64} height ∙ ap (λ r. r.height) put in
        let finger-contact_is = to_z-of_z {w = w64} finger-contact ∙ ap (λ r. r.finger_contact) put in
        (λ i. record { newer = string_is i; older = x.newer; contact = contacts-are i; finger = record { newer = height_is i; older = x.finger.newer; contact = finger-contact_is i } })
        ∙ sym (next-outright h.lengths F)

pub point_gradients-gradients-requires : goal.point_gradients-gradients-requires
point_gradients-gradients-requires c =
    let h = called _ _ _ _ c.requires.0 in
    let e = h.strings.newer-length in
    record { heights-length = h.lengths.heights.long ∙ sym e; stiffness-length = h.lengths.stiffness ∙ sym e; most = rw e (most-points h.strings); heights = h.heights; string = h.range.newer }

pub weighted-weights-requires : goal.weighted-weights-requires
weighted-weights-requires c = (called _ _ _ _ c.requires.0).strings

pub settle_points-requires : goal.settle_points-requires
settle_points-requires c = let h = called _ _ _ _ c.requires.0 in (ranges h _ c.point_gradients-gradients.ensures.1 (pluck_is h), c.weighted-weights.ensures, c.requires.1, c.requires.2)

pub settle_finger-pair-requires : goal.settle_finger-pair-requires
settle_finger-pair-requires c =
    let h = called _ _ _ _ c.requires.0 in
    (ranges h _ c.point_gradients-gradients.ensures.1 refl, c.weighted-weights.ensures, record { newer = h.range.height; older = h.range.older-height; contact = h.range.finger }, h.force)

pub overflow_sub-place : goal.overflow_sub-place
overflow_sub-place c = (facts (called _ _ _ _ c.requires.0).strings).first

pub bounds-string-place : goal.bounds-string-place
bounds-string-place c = in_array (called _ _ _ _ c.requires.0)

pub overflow_sub-place-2 : goal.overflow_sub-place-2
overflow_sub-place-2 c = (facts (called _ _ _ _ c.requires.0).strings).first

pub bounds-contacts-place : goal.bounds-contacts-place
bounds-contacts-place c = in_array (called _ _ _ _ c.requires.0)

pub next_string-requires : goal.next_string-requires
unfolding displacement_ok
next_string-requires c =
    let h = called _ _ _ _ c.requires.0 in
    let own = c.point_gradients-gradients.ensures.1 in
    let moved = c.settle_points.ensures in
    (short h, length-set c.settle_points.new.moves _ _ ∙ moved.0, bounded 1048576 c.args.state.older.now h.strings.older, moves-within h _ (free-moves h _ own moved.2) (settled h _ own c.settle_finger-pair.ensures))

pub returns : goal.returns
returns c =
    let h = called _ _ _ _ c.requires.0 in
    let own = c.point_gradients-gradients.ensures.1 in
    let moved = c.settle_points.ensures in (
      c.next_string.ensures.0,
      length-set c.settle_points.new.contacts _ _ ∙ moved.1,
      next_is h _ (free-moves h _ own moved.2) (settled h _ own c.settle_finger-pair.ensures) _ _ c.next_string.ensures.1 (free-contacts h _ own moved.3) (search rules) (search rules) (search rules),
    )
