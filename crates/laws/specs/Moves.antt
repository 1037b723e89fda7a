-- The moves are 01's, with any gradients: each is the whole number nearest the exact solution, and no other moves are.
use Rattle.std.specs.Prelude.{◌≡◌, refl, Bool, cond, ◌≢◌, [], ◌∷◌, ℕ, suc, ◌≤◌, ◌<◌, ℤ, pos, ◌≤ℤ◌, ◌<ℤ◌, length}
use Rattle.std.proofs.Math.Path.{sym, ap, ap₂}
use Rattle.std.proofs.Common.{◌∙◌, zero-le, suc-le-suc, ext_get_or}
use Rattle.std.proofs.Math.Bool.{true, false}
use Rattle.std.proofs.Math.Dec.{eqb, eqb_refl}
use Rattle.std.proofs.Math.Facts.{eqb_yes, eqb_no, no_eqb}
use Rattle.integers.specs.Solve.{◌⊕◌, ◌⊖◌, ◌⊗◌, ⊝◌, #◌}
use Rattle.integers.specs.Derive.{◌≼◌, ◌≺◌, ◌⊢◌, times, square, deduce}
use Rattle.integers.specs.Order.{nonneg, pos-≤, suc-<, square-nonneg, sum_nonneg, times-nonneg, times-positive, <-≤}
use Rattle.integers.specs.Tests.{is_true, is_false}
use Rattle.integers.specs.Filled.{length-tabulate}
use Rattle.model.specs.Setup.{m, p, Z, points}
use Rattle.model.specs.Differences.{at}
use Rattle.model.specs.Rounding.{nearest}
use Rattle.model.specs.System.{det, rounded₁}
use Rattle.model.specs.State.{State, Forces, PointsAndFinger}
use Rattle.model.specs.Step.{factor, A, c, finger_system, system, moves}
use Rattle.model.specs.declared.Setup.{Setup}
use Rattle.model.specs.declared.Finger.{Finger}
use Rattle.promises.specs.Promises.{IsNearest, IsRounded}
use Rattle.laws.specs.Strings.{◌spans◌, at_places}
use Rattle.laws.specs.Nearest.{nearest_is, unique}
use Rattle.laws.specs.System.{rounded_is, rounded₁-unique, rounded₂-unique}
use Rattle.laws.specs.Accepted.{SetupFacts}

-- 01, 'One step': away from p the move is c / A, rounded; at p string and finger are the system's exact solution, each rounded
pub record NearestMoves (s : Setup) (x : State) (G : PointsAndFinger) (F : Forces) (δ : PointsAndFinger) : Type 0 where
  pub away : (i : ℕ) → 1 ≤ i → i ≤ points s → i ≢ p s → IsNearest (c s x G F i) (A s G i) (at δ.points i)
  pub finger : IsRounded (system s x G F) (at δ.points (p s)) δ.finger

pub factor-low : (s : Setup) (G : ℤ) → pos 4096 ≤ℤ factor s G
factor-low s G = deduce 2 (λ Z G. times 1 (# 0 ≼ Z) ∷ square 1 G ∷ [] ⊢ # 4096 ≼ # 4096 ⊕ Z ⊕ G ⊗ G) tt (pos (Z s)) G (nonneg (Z s))

pub positive : {A : ℤ} → pos 4096 ≤ℤ A → pos 0 <ℤ A
positive {A} = deduce 1 (λ A. times 1 (# 4096 ≼ A) ∷ [] ⊢ # 0 ≺ A) tt A

pub factor-positive : (s : Setup) (G : ℤ) → pos 0 <ℤ factor s G
factor-positive s G = positive (factor-low s G)

pub A-positive : (s : Setup) (G : PointsAndFinger) (i : ℕ) → pos 0 <ℤ A s G i
unfolding A
A-positive s G i = factor-positive s (at G.points i)

-- the determinant is A·m + g²·(A + m)
pub regular-system : (s : Setup) (finger : Finger) {A : ℤ} (c g f : ℤ) → pos 0 <ℤ A → 1 ≤ m s → pos 0 <ℤ det (finger_system s finger A c g f)
regular-system s finger {A} c g f a h = deduce 3 (λ A m g. times 1 (# 0 ≺ A ⊗ m) ∷ times 1 (# 0 ≼ g ⊗ g ⊗ (A ⊕ m)) ∷ [] ⊢ # 0 ≺ (A ⊕ g ⊗ g) ⊗ (m ⊕ g ⊗ g) ⊖ ⊝ (g ⊗ g) ⊗ ⊝ (g ⊗ g)) tt A (pos (m s)) g
    (times-positive a (suc-< (pos-≤ h))) (times-nonneg (square-nonneg g) (sum_nonneg (<-≤ a) (nonneg (m s))))

pub det-positive : (s : Setup) (x : State) (G : PointsAndFinger) (F : Forces) → 1 ≤ m s → pos 0 <ℤ det (system s x G F)
unfolding system
det-positive s x G F h = regular-system s x.finger (c s x G F (p s)) G.finger F.finger (A-positive s G (p s)) h

pub spans-moves : (s : Setup) (x : State) (G : PointsAndFinger) (F : Forces) → (moves s x G F).points spans points s
unfolding moves
spans-moves s x G F = record { long = length-tabulate (points s) _ }

module _ (s : Setup) (x : State) (G : PointsAndFinger) (F : Forces) (ok : SetupFacts s) where
  regular : pos 0 <ℤ det (system s x G F)
  regular = det-positive s x G F ok.mass-low

  move : (b : Bool) → ℕ → ℤ
  move b i = cond b (rounded₁ (system s x G F)) (nearest (c s x G F i) (A s G i))

  at-moves : (i : ℕ) → 1 ≤ i → i ≤ points s → at (moves s x G F).points i ≡ move (eqb i (p s)) i
  unfolding moves move
  at-moves i h l = at_places (points s) (λ i. move (eqb i (p s)) i) i h l

  pub move-away : (i : ℕ) → 1 ≤ i → i ≤ points s → i ≢ p s → at (moves s x G F).points i ≡ nearest (c s x G F i) (A s G i)
  unfolding move
  move-away i h l d = at-moves i h l ∙ ap (λ b. move b i) (is_false (eqb i (p s)) (no_eqb d))

  pub move-finger : at (moves s x G F).points (p s) ≡ rounded₁ (system s x G F)
  unfolding move
  move-finger = at-moves (p s) ok.first ok.last ∙ ap (λ b. move b (p s)) (is_true (eqb (p s) (p s)) (eqb_refl (p s)))

  pub moves-nearest : NearestMoves s x G F (moves s x G F)
  unfolding moves
  moves-nearest = record {
    away = λ i h l d. rw (move-away i h l d) (nearest_is (c s x G F i) (A-positive s G i));
    finger = rw move-finger (rounded_is (system s x G F) regular);
  }

  pub moves-unique : (δ : PointsAndFinger) → δ.points spans points s → NearestMoves s x G F δ → δ ≡ moves s x G F
  unfolding moves move
  moves-unique δ h n = ap₂ (λ a b. record { points = a; finger = b }) (ext_get_or (pos 0) δ.points (moves s x G F).points (h.long ∙ sym (length-tabulate (points s) _)) each) (rounded₂-unique (system s x G F) regular n.finger)
    where
      same : (i : ℕ) → 1 ≤ i → i ≤ points s → (b : Bool) → eqb i (p s) ≡ b → at δ.points i ≡ move b i
      same i k l true e = ap (at δ.points) (eqb_yes {a = i} {b = p s} (rw e tt)) ∙ rounded₁-unique (system s x G F) regular n.finger
      same i k l false e = unique (A-positive s G i) (n.away i k l (eqb_no (rw e tt))) (nearest_is (c s x G F i) (A-positive s G i))

      each : (k : ℕ) → k < length δ.points → at δ.points (suc k) ≡ at (moves s x G F).points (suc k)
      each k l = let i = suc-le-suc zero-le in let j = rw h.long at l in same (suc k) i j (eqb (suc k) (p s)) refl ∙ sym (at-moves (suc k) i j)
