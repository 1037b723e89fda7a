-- 02, item 3: what a step comes to at p, of the finger and of its point; how the last working gives it; and how large the numbers of a step are.
use Rattle.std.specs.Prelude.{◌≡◌, [], ◌∷◌, ℕ, T, ℤ, ◌+ℤ◌, ◌*ℤ◌}
use Rattle.std.proofs.Common.{◌∙◌, ap, zero-le}
use Rattle.integers.specs.Machine.{Within, ∅, ◌▹◌, entry}
use Rattle.integers.specs.Size.{◌within◌, natural}
use Rattle.model.specs.Ranges.{force_ok}
use Rattle.model.specs.Setup.{p}
use Rattle.model.specs.Differences.{at}
use Rattle.model.specs.State.{State, Forces, PointsAndFinger}
use Rattle.model.specs.declared.Finger.{Finger}
use Rattle.model.specs.declared.Setup.{Setup}
use Rattle.laws.specs.LastMoves.{last_pair, last-pair-stays, point_move, finger_move, free_at, pair_at, move_at, move_at_finger, contact_at_finger, finger_move_at, finger_contact_at}
use Rattle.laws.specs.MoveSizes.{move_size, change_size, away-small}
use Rattle.laws.specs.Pulling.{left-keeps}
use Rattle.laws.specs.Sizes.{side-size}
use Rattle.motion.specs.MoveRanges.{FingerRanges, worked_sizes}
use Rattle.motion.specs.Weighted.{StringRanges}
use Rattle.finger_motion.specs.Pair.{PairRanges, Pair, PairAt, move-small, finger-move-size, Pair-left}
use Rattle.motion.specs.InRange.{side-within}
use Rattle.finger_motion.specs.declared.pair.WorkedPair.{WorkedPair}
use Rattle.finger_motion.specs.declared.point.FingerPoint.{FingerPoint}

-- from the state y after clearing, with the gradients G
abbrev pub at_finger : Setup → State → PointsAndFinger → Forces → FingerPoint
at_finger s y G F = record {
  delta = move_at_finger s y F G;
  contact = contact_at_finger s y F G;
  height = y.finger.older +ℤ finger_move_at s y F G;
  finger_contact = finger_contact_at s y F G;
}

module _ (s : Setup) (b ψ : ℤ) (finger : Finger) (f : ℤ) (q : ℤ × ℤ) where
  -- the last gradients and moves
  abbrev pub last_worked : WorkedPair
  last_worked = let g = last_pair s b ψ finger f q in record { left = record { own = g.0; finger = g.1 }; moves = record { delta = point_move s b ψ finger f q; finger_delta = finger_move s b ψ finger f q } }

  -- the last working comes to them, since it drops nothing
  pub worked-last : {r : WorkedPair} → PairAt s b ψ finger f (last_pair s b ψ finger f q) r → r ≡ last_worked
  worked-last h = λ i. record {
    left = record {
      own = (ap (λ g. g.0) (h.gradients ∙ last-pair-stays s b ψ finger f q)) i;
      finger = (ap (λ g. g.1) (h.gradients ∙ last-pair-stays s b ψ finger f q)) i;
    };
    moves = record { delta = h.delta i; finger_delta = h.finger-delta i };
  }

  module _ (ranges : PairRanges s b ψ finger f) (pair : Pair q) where
    last : Pair (last_pair s b ψ finger f q)
    last = Pair-left s b ψ finger f (Pair-left s b ψ finger f pair)

    pub worked-sizes : Within (ψ ∷ last_worked.left.own ∷ last_worked.left.finger ∷ last_worked.moves.delta ∷ last_worked.moves.finger_delta ∷ []) worked_sizes
    worked-sizes = ranges.contact ▹ last.own.0 ▹ last.gradient.0 ▹ (move-small ranges last).move ▹ finger-move-size ranges last ▹ ∅

    pub worked-change : (last_worked.left.own *ℤ last_worked.moves.delta) within change_size
    worked-change = (move-small ranges last).change

-- ---- what a step gives the workings

-- the state y after clearing and the forces of a step that passes 1 to 12
pub record StepRanges (s : Setup) (y : State) (F : Forces) : Type 0 where
  pub strings : StringRanges s y.newer y.older
  pub contact : (i : ℕ) → at y.contact i within 67108864
  pub finger : FingerRanges y.finger
  pub pluck : T (force_ok F.pluck)
  pub force : T (force_ok F.finger)

-- with gradients G
module _ {s : Setup} {y : State} {F : Forces} (h : StepRanges s y F) (G : PointsAndFinger) where
  -- at p: c without the contact, the contact variable, and both gradients
  abbrev b : ℤ
  b = free_at s y F G (p s)

  abbrev ψ : ℤ
  ψ = at y.contact (p s)

  abbrev q : ℤ × ℤ
  q = pair_at s y F G

  pub pair-ranges : PairRanges s b ψ y.finger F.finger
  pair-ranges = record { setup = h.strings.setup; side = side-within h.strings F.pluck h.pluck y.contact G.points (p s); contact = h.contact (p s); held = h.finger; force = h.force }

  -- the moves are small enough that 32 bits hold a new displacement before it is judged
  pub at-finger-size : Pair q → move_at_finger s y F G within move_size
  at-finger-size pair = entry (worked-sizes s b ψ y.finger F.finger q pair-ranges pair) 3

  pub away-size : (i : ℕ) → at G.points i within 255 → move_at s y F G i within move_size
  away-size i g =
      let last = left-keeps (λ z. z within 255) (natural zero-le) _ _ g in
      (away-small s (side-size (side-within h.strings F.pluck h.pluck y.contact G.points i) (h.contact i) last) last).move
