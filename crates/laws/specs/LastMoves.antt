-- 02, item 3, in the form that the code works it out: what is kept of each variable, one working of each point away from p and a second one with gradient 0
-- where it pulled, up to three of the finger's system.
use Rattle.std.specs.Prelude.{◌≡◌, refl, Bool, ◌&&◌, List, [], ◌∷◌, ℕ, suc, ◌≤◌, ℤ, pos, ◌+ℤ◌, ◌-ℤ◌, ◌*ℤ◌, ◌≤ℤ◌, ◌<ℤ◌}
use Rattle.std.proofs.Common.{sym, ◌∙◌, ⊎_elim}
use Rattle.std.proofs.Math.Path.{ap, ap₂}
use Rattle.std.proofs.Math.Bool.{true, false, cond}
use Rattle.std.proofs.Math.Dec.{eqb, eqb_refl}
use Rattle.std.specs.Int.Signed.{lt_z}
use Rattle.std.proofs.Math.Facts.{eqb_yes}
use Rattle.integers.specs.Solve.{◌⊕◌, ◌⊖◌, ◌⊗◌, #◌, ◌≐◌, solve}
use Rattle.integers.specs.Derive.{◌≼◌, ◌≺◌, ◌⊢◌, deduce}
use Rattle.integers.specs.Derive as Derive
use Rattle.integers.specs.Order.{<-or-≤, ≤-antisym}
use Rattle.integers.specs.Tests.{is_true, below, lt-below, le_below, lt-lt_z, le-lt_z, le-le_z, lt-le_z}
use Rattle.model.specs.Setup.{L, M, S, p, e, points}
use Rattle.model.specs.Differences.{at, places, plus, minus, times, D1, D2}
use Rattle.model.specs.Rounding.{nearest}
use Rattle.model.specs.System.{System, rounded₁, rounded₂}
use Rattle.model.specs.State.{State, Neck, Forces, PointsAndFinger}
use Rattle.model.specs.Step.{under_finger, factor, right_side, finger_system, kept, let_go, clear, cleared, gradients, A, c, system, moves, left, pulls, working, worked_step, next_state}
use Rattle.model.specs.declared.Finger.{Finger}
use Rattle.model.specs.declared.Setup.{Setup}
use Rattle.laws.specs.Strings.{◌spans◌, at_places, places_same, minus-tabulate}
use Rattle.laws.specs.Accepted.{SetupFacts, Examined}
use Rattle.laws.specs.Clearing.{examined-clear}
use Rattle.laws.specs.Pulling.{move_by, total_by, system_by, pair_left, pair-stays, side_at, left_at_finger, last_gradients, worked-last}

-- ---- the tests

-- a depth is above 0 where the string u lies below the height h, and elsewhere at most 0
pub depth-above : {h u : ℤ} → u <ℤ h → pos 0 <ℤ (h -ℤ u)
depth-above {h} {u} l = deduce 2 (λ h u. Derive.times 1 (u ≺ h) ∷ [] ⊢ # 0 ≺ h ⊖ u) tt h u l

pub depth_below : {h u : ℤ} → h ≤ℤ u → (h -ℤ u) ≤ℤ pos 0
depth_below {h} {u} l = deduce 2 (λ h u. Derive.times 1 (h ≼ u) ∷ [] ⊢ h ⊖ u ≼ # 0) tt h u l

-- what is kept of a contact variable at height h and displacement u
pub kept_test : (h u ψ : ℤ) → kept (h -ℤ u) ψ ≡ cond (below u h) ψ (pos 0)
unfolding kept
kept_test h u ψ = ⊎_elim
    (λ l. ap (λ b. cond b (pos 0) ψ) (lt-le_z (h -ℤ u) (pos 0) (depth-above l)) ∙ ap (λ b. cond b ψ (pos 0)) (sym (lt-below u h l)))
    (λ l. ap (λ b. cond b (pos 0) ψ) (le-le_z (h -ℤ u) (pos 0) (depth_below l)) ∙ ap (λ b. cond b ψ (pos 0)) (sym (le_below u h l)))
    (<-or-≤ u h)

pub let_go-test : (h u ψ : ℤ) → let_go (h -ℤ u) ψ ≡ cond (below u h) (pos 0) ψ
unfolding let_go
let_go-test h u ψ = ⊎_elim
    (λ l. ap (λ b. cond b ψ (pos 0)) (lt-le_z (h -ℤ u) (pos 0) (depth-above l)) ∙ ap (λ b. cond b (pos 0) ψ) (sym (lt-below u h l)))
    (λ l. ap (λ b. cond b ψ (pos 0)) (le-le_z (h -ℤ u) (pos 0) (depth_below l)) ∙ ap (λ b. cond b (pos 0) ψ) (sym (le_below u h l)))
    (<-or-≤ u h)

-- what is left of a gradient, which is never negative: whether it is above 0 need not be tested
left-test : (g q : ℤ) → pos 0 ≤ℤ g → left g q ≡ cond (below q (pos 0)) (pos 0) g
unfolding left pulls below
left-test g q h = ⊎_elim
    (λ l. ap (λ b. cond (b && lt_z q (pos 0)) (pos 0) g) (lt-lt_z (pos 0) g l))
    (λ l. ap (λ b. cond (b && lt_z q (pos 0)) (pos 0) g) (le-lt_z (pos 0) g l) ∙ rw (≤-antisym l h) (sym (either (below q (pos 0)))))
    (<-or-≤ (pos 0) g)
  where
    either : (b : Bool) → cond b (pos 0) (pos 0) ≡ pos 0
    either true = refl
    either false = refl

-- old + new variable is below 0 just where twice the old one is below what the new one is less by
total-test : (ψ d : ℤ) → below (ψ +ℤ (ψ -ℤ d)) (pos 0) ≡ below (pos 2 *ℤ ψ) d
total-test ψ d = ⊎_elim
    (λ l. lt-below (ψ +ℤ (ψ -ℤ d)) (pos 0) (deduce 2 (λ p d. Derive.times 1 (# 2 ⊗ p ≺ d) ∷ [] ⊢ p ⊕ (p ⊖ d) ≺ # 0) tt ψ d l) ∙ sym (lt-below (pos 2 *ℤ ψ) d l))
    (λ l. le_below (ψ +ℤ (ψ -ℤ d)) (pos 0) (deduce 2 (λ p d. Derive.times 1 (d ≼ # 2 ⊗ p) ∷ [] ⊢ # 0 ≼ p ⊕ (p ⊖ d)) tt ψ d l) ∙ sym (le_below (pos 2 *ℤ ψ) d l))
    (<-or-≤ (pos 2 *ℤ ψ) d)

-- so a contact whose variable falls by d loses its gradient just where twice the variable is below d
pub left-by-test : {g : ℤ} (ψ d : ℤ) → pos 0 ≤ℤ g → (b : Bool) → below (pos 2 *ℤ ψ) d ≡ b → left g (ψ +ℤ (ψ -ℤ d)) ≡ cond b (pos 0) g
left-by-test {g} ψ d h b q = left-test g (ψ +ℤ (ψ -ℤ d)) h ∙ ap (λ b. cond b (pos 0) g) (total-test ψ d ∙ q)

-- ---- c of a point by its part without the contact, b, and what the contact adds

abbrev pub with_contact : (b ψ : ℤ) → ℤ → ℤ
with_contact b ψ g = b +ℤ pos 2 *ℤ g *ℤ ψ

pub side-parts : (s : Setup) (u v : List ℤ) (g ψ f : ℤ) (i : ℕ) → right_side s u v g ψ f i ≡ with_contact (right_side s u v (pos 0) (pos 0) f i) ψ g
side-parts s u v g ψ f i =
    solve 4 (λ a g ψ f. a ⊕ # 2 ⊗ g ⊗ ψ ⊕ f ≐ (a ⊕ # 2 ⊗ # 0 ⊗ # 0 ⊕ f) ⊕ # 2 ⊗ g ⊗ ψ) tt
    (pos 8192 *ℤ at (minus u v) i +ℤ pos (L s) *ℤ at (D1 u) i -ℤ pos (M s) *ℤ at (D2 u) i +ℤ pos (S s) *ℤ at (D1 (minus u v)) i) g ψ f

-- ---- where no finger stands: a point of contact variable ψ and gradient g

module _ (s : Setup) (b ψ g : ℤ) where
  abbrev pub settled_gradient : ℤ
  settled_gradient = left g (total_by s (with_contact b ψ) ψ g)

  abbrev pub settled_move : ℤ
  settled_move = move_by s (with_contact b ψ) ψ settled_gradient

  abbrev pub settled_contact : ℤ
  settled_contact = ψ -ℤ settled_gradient *ℤ settled_move

-- of newer string u, older string v, contact variables ψ after clearing, gradients G of the state and pluck force f, at a place
module _ (s : Setup) (u v ψ G : List ℤ) (f : ℤ) (i : ℕ) where
  -- c without the contact
  abbrev pub free_side : ℤ
  free_side = right_side s u v (pos 0) (pos 0) (cond (eqb i (e s)) f (pos 0)) i

  abbrev pub last_move : ℤ
  last_move = settled_move s free_side (at ψ i) (at G i)

  abbrev pub last_contact : ℤ
  last_contact = settled_contact s free_side (at ψ i) (at G i)

-- ---- the finger after clearing and its point, of contact variable ψ, where c without the contact is b; its force f, and the gradients q of the state

module _ (s : Setup) (b ψ : ℤ) (finger : Finger) (f : ℤ) where
  abbrev pub worked_system : ℤ × ℤ → System
  worked_system q = system_by s (with_contact b ψ) ψ finger f q.0 q.1

  abbrev pub left_of_pair : ℤ × ℤ → ℤ × ℤ
  left_of_pair = pair_left s (with_contact b ψ) ψ finger f

  module _ (q : ℤ × ℤ) where
    abbrev pub last_pair : ℤ × ℤ
    last_pair = left_of_pair (left_of_pair q)

    -- a third drop changes nothing
    pub last-pair-stays : left_of_pair last_pair ≡ last_pair
    last-pair-stays = pair-stays s (with_contact b ψ) ψ finger f q

    -- δ, δw, and the new ψ and φ
    abbrev pub point_move : ℤ
    point_move = rounded₁ (worked_system last_pair)

    abbrev pub finger_move : ℤ
    finger_move = rounded₂ (worked_system last_pair)

    abbrev pub point_contact : ℤ
    point_contact = ψ -ℤ last_pair.0 *ℤ point_move

    abbrev pub finger_contact : ℤ
    finger_contact = finger.contact +ℤ last_pair.1 *ℤ (point_move -ℤ finger_move)

-- ---- the last moves of a state after clearing

module _ (s : Setup) (x : State) (F : Forces) (G : PointsAndFinger) where
  abbrev pub free_at : ℕ → ℤ
  free_at = free_side s x.newer x.older x.contact G.points F.pluck

  abbrev pub move_at : ℕ → ℤ
  move_at = last_move s x.newer x.older x.contact G.points F.pluck

  abbrev pub contact_at : ℕ → ℤ
  contact_at = last_contact s x.newer x.older x.contact G.points F.pluck

  abbrev gradient_at : ℕ → ℤ
  gradient_at i = settled_gradient s (free_at i) (at x.contact i) (at G.points i)

  abbrev pub pair_at : ℤ × ℤ
  pair_at = (at G.points (p s), G.finger)

  abbrev pair : ℤ × ℤ
  pair = last_pair s (free_at (p s)) (at x.contact (p s)) x.finger F.finger pair_at

  -- δ at p, δw, and the new ψ at p and φ
  abbrev pub move_at_finger : ℤ
  move_at_finger = point_move s (free_at (p s)) (at x.contact (p s)) x.finger F.finger pair_at

  abbrev pub finger_move_at : ℤ
  finger_move_at = finger_move s (free_at (p s)) (at x.contact (p s)) x.finger F.finger pair_at

  abbrev pub contact_at_finger : ℤ
  contact_at_finger = point_contact s (free_at (p s)) (at x.contact (p s)) x.finger F.finger pair_at

  abbrev pub finger_contact_at : ℤ
  finger_contact_at = finger_contact s (free_at (p s)) (at x.contact (p s)) x.finger F.finger pair_at

  -- where it leads: what the step writes
  abbrev pub next_last : State
  next_last = record {
    newer = plus x.older (places (points s) (λ i. under_finger s i move_at_finger (move_at i)));
    older = x.newer;
    contact = places (points s) (λ i. under_finger s i contact_at_finger (contact_at i));
    finger = record { newer = x.finger.older +ℤ finger_move_at; older = x.finger.newer; contact = finger_contact_at };
  }

  -- c by its parts, at every gradient
  sides : (i : ℕ) → side_at s x F i ≡ with_contact (free_at i) (at x.contact i)
  sides i = λ j g. side-parts s x.newer x.older g (at x.contact i) (cond (eqb i (e s)) F.pluck (pos 0)) i j

  -- a gradient of the last moves, under the finger or away from it
  gradient_by : Bool → ℕ → ℤ
  gradient_by t i = cond t pair.0 (gradient_at i)

  last-gradients : last_gradients s x F G ≡ record { points = places (points s) (λ i. gradient_by (eqb i (p s)) i); finger = pair.1 }
  unfolding last_gradients gradient_by
  last-gradients = λ j. record {
    points = places (points s) (λ i. under_finger s i (at-finger j).0 (left (at G.points i) (total_by s (sides i j) (at x.contact i) (at G.points i))));
    finger = (at-finger j).1;
  }
    where
      at-finger : left_at_finger s x F (left_at_finger s x F pair_at) ≡ pair
      at-finger = ap (λ c. pair_left s c (at x.contact (p s)) x.finger F.finger (pair_left s c (at x.contact (p s)) x.finger F.finger pair_at)) (sides (p s))

  module _ (ok : SetupFacts s) where
    abbrev last : PointsAndFinger
    last = record { points = places (points s) (λ i. gradient_by (eqb i (p s)) i); finger = pair.1 }

    at_last : (i : ℕ) → 1 ≤ i → i ≤ points s → (t : Bool) → eqb i (p s) ≡ t → at last.points i ≡ gradient_by t i
    at_last i l m t q = at_places (points s) (λ i. gradient_by (eqb i (p s)) i) i l m ∙ ap (λ t. gradient_by t i) q

    here : eqb (p s) (p s) ≡ true
    here = is_true (eqb (p s) (p s)) (eqb_refl (p s))

    last-system : system s x last F ≡ worked_system s (free_at (p s)) (at x.contact (p s)) x.finger F.finger pair
    unfolding system A c gradient_by
    last-system = λ j. finger_system s x.finger (factor s (at_last (p s) ok.first ok.last true here j)) (sides (p s) j (at_last (p s) ok.first ok.last true here j)) pair.1 F.finger

    -- a move of the last moves, under the finger or away from it, and the new contact variable
    move_of : Bool → ℕ → ℤ
    move_of t i = cond t move_at_finger (move_at i)

    contact_of : Bool → ℕ → ℤ
    contact_of t i = cond t contact_at_finger (contact_at i)

    last-moves : moves s x last F ≡ record { points = places (points s) (λ i. move_of (eqb i (p s)) i); finger = finger_move_at }
    unfolding moves A c move_of gradient_by
    last-moves = ap₂ (λ a b. record { points = a; finger = b }) (places_same (points s) _ _ (λ i l m. go i l m (eqb i (p s)) refl)) (ap rounded₂ last-system)
      where
        go : (i : ℕ) → 1 ≤ i → i ≤ points s → (t : Bool) → eqb i (p s) ≡ t → cond t (rounded₁ (system s x last F)) (nearest (c s x last F i) (A s last i)) ≡ move_of t i
        go i l m true q = ap rounded₁ last-system
        go i l m false q = λ j. nearest (sides i j (at_last i l m false q j)) (factor s (at_last i l m false q j))

    next_state-last : (Γ : PointsAndFinger) → x.contact spans points s → next_state (working s x Γ F last) ≡ next_last
    unfolding next_state move_of contact_of gradient_by
    next_state-last Γ h = λ j. record {
      newer = plus x.older (last-moves j).points;
      older = x.newer;
      contact = contacts j;
      finger = record { newer = x.finger.older +ℤ (last-moves j).finger; older = x.finger.newer; contact = x.finger.contact +ℤ pair.1 *ℤ (at-finger j -ℤ (last-moves j).finger) };
    }
      where
        at-finger : at (moves s x last F).points (p s) ≡ move_at_finger
        at-finger = ap (λ δ. at δ.points (p s)) last-moves ∙ at_places (points s) (λ i. move_of (eqb i (p s)) i) (p s) ok.first ok.last ∙ ap (λ t. move_of t (p s)) here

        either : (i : ℕ) (t : Bool) → eqb i (p s) ≡ t → at x.contact i -ℤ gradient_by t i *ℤ move_of t i ≡ contact_of t i
        either i true q = ap (λ (i : ℕ). at x.contact i -ℤ pair.0 *ℤ move_at_finger) (eqb_yes {a = i} {b = p s} (rw q tt))
        either i false q = refl

        contacts : minus x.contact (times last.points (moves s x last F).points) ≡ places (points s) (λ i. contact_of (eqb i (p s)) i)
        contacts = ap (λ δ. minus x.contact (times last.points δ.points)) last-moves
            ∙ minus-tabulate (points s) x.contact (λ k. gradient_by (eqb (suc k) (p s)) (suc k)) (λ k. move_of (eqb (suc k) (p s)) (suc k)) h.long
            ∙ places_same (points s) _ _ (λ i l m. either i (eqb i (p s)) refl)

-- what a step leads to, worked out
pub next-outright : {s : Setup} {neck : Neck} {x : State} (h : Examined s neck x) (F : Forces) → next_state (worked_step s neck x F) ≡ next_last s (clear s neck x) F (gradients s neck x)
next-outright {s} {neck} {x} h F =
    let y = clear s neck x in
    let G = gradients s neck x in
    ap next_state (worked-last h F ∙ ap (λ H. working s y (cleared s neck x) F H) (last-gradients s y F G)) ∙ next_state-last s y F G h.setup (cleared s neck x) (examined-clear h).contact
