-- Moves nearest the exact solution leave every doubled residual within its limit.
use Rattle.std.specs.Prelude.{◌≡◌, refl, List, [], ◌∷◌, Bool, cond, ℕ, zero, suc, ◌≤◌, ◌<◌, eqb, ℤ, pos, neg_ℤ, ◌+ℤ◌, ◌-ℤ◌, ◌*ℤ◌, ◌≤ℤ◌}
use Rattle.std.proofs.Common.{◌∙◌, ap₂, zero-le, suc-le-suc}
use Rattle.std.proofs.Math.Bool.{true, false}
use Rattle.std.proofs.Math.IntN.{+ℤ_comm}
use Rattle.std.proofs.Math.Facts.{eqb_yes, eqb_no}
use Rattle.integers.specs.Filled.{tabulate}
use Rattle.integers.specs.Solve.{◌⊕◌, ◌⊗◌, #◌, ◌≐◌, solve}
use Rattle.integers.specs.Order.{≤-refl, ≤_trans, ≤-of-eq, nonneg, square-nonneg, sum_nonneg, <-≤}
use Rattle.integers.specs.Size.{size, size-neg, size-nonneg}
use Rattle.model.specs.Setup.{m, p, points}
use Rattle.model.specs.Differences.{at}
use Rattle.model.specs.System.{System, residual₁}
use Rattle.model.specs.State.{PointsAndFinger}
use Rattle.model.specs.Step.{A, c, system, WorkedStep}
use Rattle.model.specs.Energy.{residuals, limits}
use Rattle.model.specs.declared.Setup.{Setup}
use Rattle.promises.specs.Energy.{EachWithin, WithinLimits}
use Rattle.laws.specs.System.{residual₁-≤, residual₂-≤}
use Rattle.laws.specs.Moves.{NearestMoves, A-positive}

-- the sizes of a row b + g², −g²
row : (b g : ℤ) → pos 0 ≤ℤ b → size (b +ℤ g *ℤ g) +ℤ size (neg_ℤ (g *ℤ g)) ≡ b +ℤ pos 2 *ℤ (g *ℤ g)
row b g h = ap₂ (λ x y. x +ℤ y) (size-nonneg (sum_nonneg h (square-nonneg g))) (size-neg (g *ℤ g) ∙ size-nonneg (square-nonneg g)) ∙ solve 2 (λ b q. b ⊕ q ⊕ q ≐ b ⊕ # 2 ⊗ q) tt b (g *ℤ g)

each_within : (n : ℕ) (f g : ℕ → ℤ) → ((k : ℕ) → k < n → size (pos 2 *ℤ f k) ≤ℤ g k) → EachWithin (tabulate n f) (tabulate n g)
each_within zero f g h = tt
each_within (suc n) f g h = (h 0 (suc-le-suc zero-le), each_within n (λ k. f (suc k)) (λ k. g (suc k)) (λ k l. h (suc k) (suc-le-suc l)))

-- at every place: past the points both are 0
pub within-at : (rs ls : List ℤ) → EachWithin rs ls → (i : ℕ) → size (pos 2 *ℤ at rs i) ≤ℤ at ls i
within-at rs ls h zero = ≤-refl
within-at [] [] h (suc k) = ≤-refl
within-at [] (l ∷ ls) h (suc k) = absurd h
within-at (r ∷ rs) [] h (suc k) = absurd h
within-at (r ∷ rs) (l ∷ ls) h (suc zero) = h.0
within-at (r ∷ rs) (l ∷ ls) h (suc (suc k)) = within-at rs ls h.1 (suc k)

module _ (t : WorkedStep) (n : NearestMoves t.setup t.before t.gradients t.forces t.moves) where
  abbrev s : Setup
  s = t.setup

  abbrev G : PointsAndFinger
  G = t.gradients

  abbrev g : ℤ
  g = G.finger

  abbrev pair : System
  pair = system s t.before G t.forces

  abbrev δ : ℕ → ℤ
  δ = at t.moves.points

  -- of a point, at p or away from it
  residual : Bool → ℕ → ℤ
  residual b i = cond b (residual₁ pair (δ i) t.moves.finger) (A s G i *ℤ δ i -ℤ c s t.before G t.forces i)

  limit : Bool → ℕ → ℤ
  limit b i = cond b (A s G i +ℤ pos 2 *ℤ (g *ℤ g)) (A s G i)

  point : (i : ℕ) → 1 ≤ i → i ≤ points s → (b : Bool) → eqb i (p s) ≡ b → size (pos 2 *ℤ residual b i) ≤ℤ limit b i
  unfolding residual limit system
  point i h l true e = let here : i ≡ p s = eqb_yes (rw e tt) in rw here (≤_trans (residual₁-≤ n.finger) (≤-of-eq (row (A s G (p s)) g (<-≤ (A-positive s G (p s))))))
  point i h l false e = (n.away i h l (eqb_no (rw e tt))).near

  pub within-limits : WithinLimits t
  unfolding residuals limits residual limit system
  within-limits = record {
    points = each_within (points s) (λ k. residual (eqb (suc k) (p s)) (suc k)) (λ k. limit (eqb (suc k) (p s)) (suc k)) (λ k l. point (suc k) (suc-le-suc zero-le) l (eqb (suc k) (p s)) refl);
    finger = ≤_trans (residual₂-≤ n.finger) (≤-of-eq (+ℤ_comm (size (neg_ℤ (g *ℤ g))) (size (pos (m s) +ℤ g *ℤ g)) ∙ row (pos (m s)) g (nonneg (m s))));
  }
