-- What a call that passes 1 to 12 gives the functions that work it out: lengths and ranges.
use mathlib.Core.List.{List, [], ◌∷◌}
use Prim.Native.Nat.{ℕ, zero-le}
use lib.Dec.{T}
use lib.IntN.{ℤ, pos}
use lib.ListN.{drop}
use lib.Signed.{◌≤ℤ◌}
use mir.Facts.{T_not-not}
use Rattle.integers.specs.Order.{≤-refl}
use Rattle.integers.specs.Size.{◌within◌, natural}
use Rattle.model.specs.Differences.{at, minus}
use Rattle.model.specs.Gradient.{gradient}
use Rattle.model.specs.Ranges.{all, height_ok, force_ok}
use Rattle.model.specs.Setup.{p, setup_rules}
use Rattle.model.specs.State.{State, Neck, Forces}
use Rattle.model.specs.Step.{call_rules, clear, gradients}
use Rattle.model.specs.declared.Setup.{Setup}
use Rattle.promises.specs.Promises.{Passed}
use Rattle.laws.specs.Accepted.{Examined, examined}
use Rattle.laws.specs.Clearing.{in-range-clear}
use Rattle.laws.specs.Gradient.{gradient-size, gradient-nonneg}
use Rattle.laws.specs.InRange.{InRange, in-range}
use Rattle.laws.specs.LastMoves.{pair_at}
use Rattle.laws.specs.Pulling.{zip-each}
use Rattle.laws.specs.Refusals.{fails, passed-append, all_yes}
use Rattle.contact.specs.Contacts.{gradients_at}
use Rattle.finger_motion.specs.FingerPoint.{StepRanges}
use Rattle.motion.specs.InRange.{contact-size}
use Rattle.motion.specs.MoveRanges.{PointRanges}
use Rattle.finger_motion.specs.Pair.{Pair}
use Rattle.motion.specs.Weighted.{StringRanges}

pub record Called (s : Setup) (neck : Neck) (x : State) (F : Forces) : Type 0 where
  pub lengths : Examined s neck x
  pub strings : StringRanges s x.newer x.older
  pub heights : T (all height_ok neck.heights)
  pub range : InRange x
  pub pluck : T (force_ok F.pluck)
  pub force : T (force_ok F.finger)

pub called : (s : Setup) (neck : Neck) (x : State) (F : Forces) → Passed (call_rules s neck x F) → Called s neck x F
unfolding call_rules setup_rules
called s neck x F h =
    let rules = call_rules s neck x F in
    let lengths : Examined s neck x = examined s neck x (drop 6 rules) h in
    let range = in-range x (fails 11 rules h, tt) in
    let forces = all_yes force_ok (F.pluck ∷ F.finger ∷ []) (fails 12 rules h) in
    record {
      lengths = lengths;
      strings = record { setup = (passed-append (setup_rules s) (drop 5 rules) h).0; newer-length = lengths.newer.long; older-length = lengths.older.long; newer = range.newer; older = range.older };
      heights = T_not-not (all height_ok neck.heights) (fails 7 rules h);
      range = range;
      pluck = forces.0;
      force = forces.1.0;
    }

-- the gradients of all points
gradient-within : (k : List ℕ) (h u : List ℤ) (i : ℕ) → at (gradients_at k h u) i within 255
gradient-within k h u = zip-each (λ g. g within 255) (natural zero-le) gradient 0 k (minus h u) (λ j. gradient-size _)

gradient-low : (k : List ℕ) (h u : List ℤ) (i : ℕ) → pos 0 ≤ℤ at (gradients_at k h u) i
gradient-low k h u = zip-each (λ g. pos 0 ≤ℤ g) ≤-refl gradient 0 k (minus h u) (λ j. gradient-nonneg _)

module _ {s : Setup} {neck : Neck} {x : State} {F : Forces} (h : Called s neck x F) where
  pub own-size : (i : ℕ) → at (gradients s neck x).points i within 255
  unfolding gradients
  own-size = gradient-within neck.stiffness neck.heights x.newer

  pub pair : Pair (pair_at s (clear s neck x) F (gradients s neck x))
  unfolding gradients
  pair = record { own = (own-size (p s), gradient-low neck.stiffness neck.heights x.newer (p s)); gradient = (gradient-size _ _, gradient-nonneg _ _) }

  pub point-ranges : PointRanges s neck.heights x.newer x.older x.contact (gradients_at neck.stiffness neck.heights x.newer) F.pluck
  point-ranges = record {
    strings = h.strings;
    heights-length = h.lengths.heights.long;
    contact-length = h.lengths.contact.long;
    heights = h.heights;
    contact = h.range.contact;
    gradients = gradient-within neck.stiffness neck.heights x.newer;
    force = h.pluck;
  }

  -- the state after clearing
  pub step-ranges : StepRanges s (clear s neck x) F
  unfolding clear
  step-ranges =
      let cleared = in-range-clear s neck h.range in
      record {
        strings = h.strings;
        contact = contact-size (clear s neck x).contact cleared.contact;
        finger = record { newer = cleared.height; older = cleared.older-height; contact = cleared.finger };
        pluck = h.pluck;
        force = h.force;
      }
