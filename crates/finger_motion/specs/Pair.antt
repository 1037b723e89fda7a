-- 02, item 3, at p: what a working of the finger's system with two gradients comes to.
use Rattle.std.specs.Prelude.{◌≡◌, ◌^◌, T, ℤ, ◌+ℤ◌, ◌≤ℤ◌}
use Rattle.std.proofs.Common.{sym, ◌∙◌, ap, zero-le, lit<, to_z, of_z}
use Rattle.std.proofs.Math.Path.{ap₂}
use mathlib.Core.List.{[], ◌∷◌}
use Rattle.std.proofs.Math.IntN.{pos}
use Rattle.std.specs.Int.{w32, w64}
use Rattle.integers.specs.Bits.{back}
use Rattle.integers.specs.Solve.{◌⊕◌, ⊝◌, #◌, ◌≐◌}
use Rattle.integers.specs.Derive.{◌≼◌, ◌⊢◌, times, equal, deduce}
use Rattle.integers.specs.Order.{≤-refl, ≤-antisym}
use Rattle.integers.specs.Size.{◌within◌, natural}
use Rattle.model.specs.Ranges.{displacement_ok, contact_ok, force_ok}
use Rattle.model.specs.Setup.{setup_rules}
use Rattle.model.specs.System.{rounded₁, rounded₂}
use Rattle.model.specs.declared.Finger.{Finger}
use Rattle.model.specs.declared.Setup.{Setup}
use Rattle.promises.specs.Promises.{Passed}
use Rattle.laws.specs.Accepted.{setup-facts}
use Rattle.laws.specs.Pulling.{left-keeps, pair_left}
use Rattle.laws.specs.LastMoves.{with_contact, worked_system, left_of_pair}
use Rattle.laws.specs.Sizes.{free_size, side_size, side-size, inside-within}
use Rattle.laws.specs.MoveSizes.{SmallMove, FingerSizes, pair_small, pair_size}
use Rattle.motion.specs.MoveRanges.{FingerRanges}
use Rattle.finger_motion.specs.declared.pair.WorkedPair.{WorkedPair}

-- the finger after clearing, its force f, and its point: c without the contact, b, and the contact variable ψ
pub record PairRanges (s : Setup) (b ψ : ℤ) (finger : Finger) (f : ℤ) : Type 0 where
  pub setup : Passed (setup_rules s)
  pub side : b within free_size
  pub contact : ψ within 67108864
  pub held : FingerRanges finger
  pub force : T (force_ok f)

-- two gradients as they come
pub record Pair (q : ℤ × ℤ) : Type 0 where
  pub own : (q.0 within 255) × (pos 0 ≤ℤ q.0)
  pub gradient : (q.1 within 255) × (pos 0 ≤ℤ q.1)

module _ (s : Setup) (b ψ : ℤ) (finger : Finger) (f : ℤ) where
  -- r is worked out with the gradients q: the gradients that are left, and the moves
  pub record PairAt (q : ℤ × ℤ) (r : WorkedPair) : Type 0 where
    pub gradients : ◌≡◌ {A = ℤ × ℤ} (r.left.own, r.left.finger) (left_of_pair s b ψ finger f q)
    pub delta : r.moves.delta ≡ rounded₁ (worked_system s b ψ finger f q)
    pub finger-delta : r.moves.finger_delta ≡ rounded₂ (worked_system s b ψ finger f q)

-- ---- how large the moves are, and the numbers that the machine passes on

finger-sizes : {finger : Finger} → FingerRanges finger → FingerSizes finger
unfolding displacement_ok contact_ok
finger-sizes h = record { newer = inside-within 1048576 _ h.newer; older = inside-within 1048576 _ h.older; contact = inside-within 67108864 _ h.contact }

module _ {s : Setup} {b ψ : ℤ} {finger : Finger} {f : ℤ} (r : PairRanges s b ψ finger f) {q : ℤ × ℤ} (h : Pair q) where
  force-size : f within 1073741824
  unfolding force_ok
  force-size = inside-within 1073741824 f r.force

  pub whole-size : with_contact b ψ q.0 within side_size
  whole-size = side-size r.side r.contact h.own.0

  pub move-small : SmallMove q.0 (rounded₁ (worked_system s b ψ finger f q))
  move-small = pair_small (setup-facts s r.setup) (finger-sizes r.held) whole-size h.own.0 h.gradient.0 force-size

  pub finger-move-size : rounded₂ (worked_system s b ψ finger f q) within 2 ^ 44
  finger-move-size = pair_size (setup-facts s r.setup) (finger-sizes r.held) whole-size h.own.0 h.gradient.0 force-size

  -- P of the numbers as they are read from their bits
  abbrev Bits : ((b ψ f : ℤ) → ℤ × ℤ → Type 0) → Type 0
  Bits P = P (to_z w64 (of_z w64 b)) (to_z w32 (of_z w32 ψ)) (to_z w32 (of_z w32 f)) (to_z w64 (of_z w64 q.0), to_z w64 (of_z w64 q.1))

  from_bits : (P : (b ψ f : ℤ) → ℤ × ℤ → Type 0) → Bits P → P b ψ f q
  from_bits P x = rw (back w64 r.side (lit< tt), back w32 r.contact (lit< tt), back w32 force-size (lit< tt), back w64 h.own.0 (lit< tt), back w64 h.gradient.0 (lit< tt)) at x

  pub worked_is : {t : WorkedPair} → Bits (λ b ψ f q. PairAt s b ψ finger f q t) → PairAt s b ψ finger f q t
  worked_is {t} = from_bits (λ b ψ f q. PairAt s b ψ finger f q t)

  pub worked-again_is : {t : WorkedPair} → Bits (λ b ψ f q. PairAt s b ψ finger f (left_of_pair s b ψ finger f q) t) → PairAt s b ψ finger f (left_of_pair s b ψ finger f q) t
  worked-again_is {t} = from_bits (λ b ψ f q. PairAt s b ψ finger f (left_of_pair s b ψ finger f q) t)

-- ---- one working after another

module _ (s : Setup) (b ψ : ℤ) (finger : Finger) (f : ℤ) {q : ℤ × ℤ} (h : Pair q) where
  abbrev q' : ℤ × ℤ
  q' = left_of_pair s b ψ finger f q

  pub Pair-left : Pair q'
  unfolding pair_left
  Pair-left = record {
    own = (left-keeps (λ z. z within 255) (natural zero-le) _ _ h.own.0, left-keeps (λ z. pos 0 ≤ℤ z) ≤-refl _ _ h.own.1);
    gradient = (left-keeps (λ z. z within 255) (natural zero-le) _ _ h.gradient.0, left-keeps (λ z. pos 0 ≤ℤ z) ≤-refl _ _ h.gradient.1);
  }

  -- where their sum is what it was, both are
  unchanged : q'.0 +ℤ q'.1 ≡ q.0 +ℤ q.1 → q' ≡ q
  unfolding pair_left
  unchanged e =
      let a = left-keeps (λ z. z ≤ℤ q.0) h.own.1 q.0 _ ≤-refl in
      let g = left-keeps (λ z. z ≤ℤ q.1) h.gradient.1 q.1 _ ≤-refl in
      ap₂ (λ a b. (a, b))
      (≤-antisym a (deduce 4 (λ a g a' g'. times 1 (g' ≼ g) ∷ equal (⊝ # 1) (a' ⊕ g' ≐ a ⊕ g) ∷ [] ⊢ a ≼ a') tt q.0 q.1 _ _ g e))
      (≤-antisym g (deduce 4 (λ a g a' g'. times 1 (a' ≼ a) ∷ equal (⊝ # 1) (a' ⊕ g' ≐ a ⊕ g) ∷ [] ⊢ g ≼ g') tt q.0 q.1 _ _ a e))

module _ {s : Setup} {b ψ : ℤ} {finger : Finger} {f : ℤ} {q : ℤ × ℤ} {r : WorkedPair} (h : Pair q) (k : PairAt s b ψ finger f q r) where
  -- the gradients that are left
  pub left-pair : Pair (r.left.own, r.left.finger)
  left-pair = rw k.gradients (Pair-left s b ψ finger f h)

  -- where their sum is what it was, the working is also that with what is left
  pub stays : r.left.own +ℤ r.left.finger ≡ q.0 +ℤ q.1 → PairAt s b ψ finger f (left_of_pair s b ψ finger f q) r
  stays e = rw (unchanged s b ψ finger f h (sym (ap (λ z. z.0 +ℤ z.1) k.gradients) ∙ e)) k
