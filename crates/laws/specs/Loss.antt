-- The loss of a step is never negative; where it is 0, no variable other than 0 was cleared. A bend and a slide lose nothing.
use Rattle.std.specs.Prelude.{◌≡◌, refl, Bool, true, false, cond, ℕ, zero, suc, ◌<◌, eqb, ltb, ℤ, pos, neg_ℤ, ◌+ℤ◌, ◌*ℤ◌, ◌≤ℤ◌, length, get_or}
use Rattle.std.proofs.Common.{sym, ⊎_elim, ltb→lt, nltb→le}
use mathlib.Core.List.{List, [], ◌∷◌}
use Rattle.std.specs.Int.Signed.{lt_z_yes, clash_ℤ}
use Rattle.std.proofs.Math.ListN.{get_or-eq_default}
use Rattle.integers.specs.Solve.{◌⊕◌, ◌⊗◌, ⊝◌, #◌, ◌≐◌, solve}
use Rattle.integers.specs.Derive.{◌≼◌, ◌≺◌, ◌⊢◌, times, deduce}
use Rattle.integers.specs.Order.{≤-refl, ≤_trans, ≤-antisym, ≤-of-eq, <-or-≤, nonneg, times-nonneg, times-positive, square-nonneg, sum_nonneg, cancel-≤}
use Rattle.integers.specs.Sum as Sum
use Rattle.integers.specs.Sum.{sum, sum_one, sum-≤}
use Rattle.model.specs.Setup.{S, Z}
use Rattle.model.specs.Differences.{at, dot, E}
use Rattle.model.specs.Step.{WorkedStep}
use Rattle.model.specs.Energy as Energy
use Rattle.model.specs.Energy.{dot_all, released}
use Rattle.model.specs.Run.{Entry, stepped, bent, slid, loss, total}
use Rattle.promises.specs.Promises.{Every}
use Rattle.promises.specs.Energy.{ClearsNothing, OfStep}

-- ---- sums of squares

square-zero : (x : ℤ) → (x *ℤ x) ≤ℤ pos 0 → x ≡ pos 0
square-zero x h = ⊎_elim (λ a. clash_ℤ (times-positive a a) h)
    (λ a. ⊎_elim (λ b. let n = deduce 1 (λ x. times 1 (x ≺ # 0) ∷ [] ⊢ # 0 ≺ ⊝ x) tt x b in clash_ℤ (times-positive n n) (≤_trans (≤-of-eq (solve 1 (λ x. ⊝ x ⊗ ⊝ x ≐ x ⊗ x) tt x)) h)) (λ b. ≤-antisym a b) (<-or-≤ x (pos 0)))
    (<-or-≤ (pos 0) x)

dot-nonneg : (u : List ℤ) → pos 0 ≤ℤ dot u u
unfolding dot
dot-nonneg u = Sum.sum_nonneg (length u) (λ k l. square-nonneg (at u (suc k)))

E-nonneg : (u : List ℤ) → pos 0 ≤ℤ E u u
unfolding E
E-nonneg u = Sum.sum_nonneg (suc (length u)) (λ k l. square-nonneg (at u (suc k) +ℤ neg_ℤ (at u k)))

term-≤ : (n : ℕ) (f : ℕ → ℤ) → ((k : ℕ) → pos 0 ≤ℤ f k) → (i : ℕ) → i < n → f i ≤ℤ sum n f
term-≤ n f h i l = ≤_trans (≤-of-eq (sym (sum_one n f i l))) (sum-≤ n (λ k m. go (eqb k i) k))
  where
    go : (b : Bool) (k : ℕ) → cond b (f k) (pos 0) ≤ℤ f k
    go true k = ≤-refl
    go false k = h k

dot-zero : (u : List ℤ) → dot u u ≤ℤ pos 0 → (i : ℕ) → at u i ≡ pos 0
unfolding dot
dot-zero u h zero = refl
dot-zero u h (suc k) = go (ltb k (length u)) refl
  where
    go : (b : Bool) → ltb k (length u) ≡ b → get_or u k (pos 0) ≡ pos 0
    go true e = square-zero (get_or u k (pos 0)) (≤_trans (term-≤ (length u) (λ k. at u (suc k) *ℤ at u (suc k)) (λ k. square-nonneg (at u (suc k))) k (ltb→lt k (length u) (rw e tt))) h)
    go false e = get_or-eq_default u (pos 0) (nltb→le k (length u) (rw e tt))

twice : (x : ℤ) → (pos 2 *ℤ x) ≤ℤ (pos 2 *ℤ pos 0) → x ≤ℤ pos 0
twice x = cancel-≤ {c = pos 2} (lt_z_yes tt)

-- ---- the loss of a step

module _ (t : WorkedStep) where
  moving : ℤ
  moving = pos 2 *ℤ pos (Z t.setup) *ℤ dot t.moves.points t.moves.points +ℤ pos (S t.setup) *ℤ E t.moves.points t.moves.points

  moving-nonneg : pos 0 ≤ℤ moving
  unfolding moving
  moving-nonneg = sum_nonneg (times-nonneg (times-nonneg (nonneg 2) (nonneg (Z t.setup))) (dot-nonneg t.moves.points)) (times-nonneg (nonneg (S t.setup)) (E-nonneg t.moves.points))

  loss-nonneg : pos 0 ≤ℤ Energy.loss t
  unfolding Energy.loss released dot_all moving
  loss-nonneg = sum_nonneg moving-nonneg (times-nonneg (nonneg 2) (sum_nonneg (dot-nonneg t.cleared.points) (square-nonneg t.cleared.finger)))

  -- one that lets energy go is not lossless
  clears-nothing : Energy.loss t ≤ℤ pos 0 → ClearsNothing t
  unfolding Energy.loss released dot_all moving
  clears-nothing h =
      let r = dot t.cleared.points t.cleared.points in
      let q = t.cleared.finger *ℤ t.cleared.finger in
      record {
        point = dot-zero t.cleared.points (twice r (deduce 3 (λ m r q. times 1 (m ⊕ # 2 ⊗ (r ⊕ q) ≼ # 0) ∷ times 1 (# 0 ≼ m) ∷ times 2 (# 0 ≼ q) ∷ [] ⊢ # 2 ⊗ r ≼ # 2 ⊗ # 0) tt moving r q h moving-nonneg (square-nonneg t.cleared.finger)));
        finger = square-zero t.cleared.finger (twice q (deduce 3 (λ m r q. times 1 (m ⊕ # 2 ⊗ (r ⊕ q) ≼ # 0) ∷ times 1 (# 0 ≼ m) ∷ times 2 (# 0 ≼ r) ∷ [] ⊢ # 2 ⊗ q ≼ # 2 ⊗ # 0) tt moving r q h moving-nonneg (dot-nonneg t.cleared.points)));
      }

-- ---- of a run

entry-loss : (e : Entry) → pos 0 ≤ℤ loss e
entry-loss (stepped t) = loss-nonneg t
entry-loss (bent b) = ≤-refl
entry-loss slid = ≤-refl

entry-clears : (e : Entry) → loss e ≤ℤ pos 0 → OfStep ClearsNothing e
entry-clears (stepped t) h = clears-nothing t h
entry-clears (bent b) h = tt
entry-clears slid h = tt

losses-nonneg : (es : List Entry) → pos 0 ≤ℤ total loss es
unfolding total
losses-nonneg [] = ≤-refl
losses-nonneg (e ∷ es) = sum_nonneg (entry-loss e) (losses-nonneg es)

pub lossless-clears : (es : List Entry) → total loss es ≤ℤ pos 0 → Every (OfStep ClearsNothing) es
unfolding total
lossless-clears [] h = tt
lossless-clears (e ∷ es) h = (entry-clears e (first (losses-nonneg es) h), lossless-clears es (second (entry-loss e) h))
  where
    first : {a b : ℤ} → pos 0 ≤ℤ b → (a +ℤ b) ≤ℤ pos 0 → a ≤ℤ pos 0
    first {a} {b} = deduce 2 (λ a b. times 1 (# 0 ≼ b) ∷ times 1 (a ⊕ b ≼ # 0) ∷ [] ⊢ a ≼ # 0) tt a b

    second : {a b : ℤ} → pos 0 ≤ℤ a → (a +ℤ b) ≤ℤ pos 0 → b ≤ℤ pos 0
    second {a} {b} = deduce 2 (λ a b. times 1 (# 0 ≼ a) ∷ times 1 (a ⊕ b ≼ # 0) ∷ [] ⊢ b ≼ # 0) tt a b
