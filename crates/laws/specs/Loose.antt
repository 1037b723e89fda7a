-- A step whose last moves have no gradient above zero: each point's move is c / (4096 + Z), rounded, at p too; the finger's is its own; and the contact
-- variables stay as clearing left them.
use Rattle.std.specs.Prelude.{◌≡◌, Bool, ℕ, suc, ◌≤◌, T, ℤ, pos, ◌+ℤ◌, ◌-ℤ◌, ◌*ℤ◌, ◌≤ℤ◌, ◌<ℤ◌, length}
use Rattle.std.proofs.Math.Path.{refl, ap, ap₂}
use Rattle.std.proofs.Common.{sym, ◌∙◌, subst}
use Rattle.std.proofs.Math.Bool.{true, false, cond}
use mathlib.Core.List.{List, [], ◌∷◌, zip_with}
use Rattle.std.proofs.Math.Dec.{eqb}
use Rattle.std.proofs.Math.Facts.{and_yes, yes_and, eqb_yes}
use Rattle.integers.specs.Solve.{◌⊕◌, ◌⊖◌, ◌⊗◌, ⊝◌, #◌, ◌≐◌, solve}
use Rattle.integers.specs.Order.{≤-refl, ≤-antisym, pos-≤, suc-<}
use Rattle.model.specs.Ranges.{all, contact_ok}
use Rattle.model.specs.Setup.{m, p, e, points}
use Rattle.model.specs.Differences.{at, places, minus, times}
use Rattle.model.specs.Rounding.{nearest}
use Rattle.model.specs.System.{rounded₁, rounded₂}
use Rattle.model.specs.State.{State, Lent, Neck, Forces, PointsAndFinger}
use Rattle.model.specs.Step.{factor, right_side, finger_system, clear, A, c, system, moves, worked_step, next_state, step}
use Rattle.model.specs.Steps.{voice, Call, call, history}
use Rattle.model.specs.declared.Setup.{Setup}
use Rattle.promises.specs.Promises.{Every}
use Rattle.laws.specs.Nearest.{nearest-scaled}
use Rattle.laws.specs.Strings.{spans-minus, spans-times}
use Rattle.laws.specs.Moves.{factor-positive}
use Rattle.laws.specs.Refusals.{at_every}
use Rattle.laws.specs.LastMoves.{with_contact, side-parts}
use Rattle.laws.specs.Accepted.{Examined}
use Rattle.laws.specs.Clearing.{contacts-clear}
use Rattle.laws.specs.Pulling.{Each, worked-nonneg}
use Rattle.laws.specs.Balance.{fit}

-- ---- the gradients

-- all are 0
abbrev pub Zero : PointsAndFinger → Type 0
Zero G = Each (λ g. g ≡ pos 0) G

-- those of the last moves are, where none is above zero
pub zero-gradients : (s : Setup) (neck : Neck) (x : State) (F : Forces) → let G = (worked_step s neck x F).gradients in Every (λ g. g ≤ℤ pos 0) G.points → G.finger ≤ℤ pos 0 → Zero G
zero-gradients s neck x F h k =
    let up = worked-nonneg s neck x F in
    record { point = λ i. ≤-antisym (at_every (λ g. g ≤ℤ pos 0) (worked_step s neck x F).gradients.points ≤-refl h i) (up.point i); finger = ≤-antisym k up.finger }

-- ---- the moves

-- c where there is no gradient, by newer and older string and the point's pluck force
unfoldable pub side : Setup → List ℤ → List ℤ → ℤ → ℕ → ℤ
side s u v f i = right_side s u v (pos 0) (pos 0) f i

-- the right side of the finger's own equation
unfoldable pub push : Setup → (w w' f : ℤ) → ℤ
push s w w' f = pos 2 *ℤ pos (m s) *ℤ (w -ℤ w') +ℤ f

abbrev pub pluck_at : Setup → Forces → ℕ → ℤ
pluck_at s F i = cond (eqb i (e s)) F.pluck (pos 0)

abbrev pub loose_moves : Setup → State → Forces → PointsAndFinger
loose_moves s x F = record {
  points = places (points s) (λ i. nearest (side s x.newer x.older (pluck_at s F i) i) (factor s (pos 0)));
  finger = nearest (push s x.finger.newer x.finger.older F.finger) (pos (m s));
}

module _ (s : Setup) (x : State) (G : PointsAndFinger) (F : Forces) (z : Zero G) (mass : 1 ≤ m s) where
  own : ℕ → ℤ
  own i = side s x.newer x.older (pluck_at s F i) i

  c-loose : (i : ℕ) → c s x G F i ≡ own i
  unfolding c own side
  c-loose i = side-parts s x.newer x.older (at G.points i) (at x.contact i) (pluck_at s F i) i
      ∙ ap (with_contact (own i) (at x.contact i)) (z.point i)
      ∙ solve 2 (λ b ψ. b ⊕ # 2 ⊗ # 0 ⊗ ψ ≐ b) tt (own i) (at x.contact i)

  A-loose : (i : ℕ) → A s G i ≡ factor s (pos 0)
  unfolding A
  A-loose i = ap (factor s) (z.point i)

  positive-mass : pos 0 <ℤ pos (m s)
  positive-mass = suc-< (pos-≤ mass)

  abbrev A₀ : ℤ
  A₀ = factor s (pos 0)

  abbrev c₀ : ℤ
  c₀ = own (p s)

  push₀ : ℤ
  push₀ = push s x.finger.newer x.finger.older F.finger

  -- the system, with its parts
  system-loose : system s x G F ≡ finger_system s x.finger A₀ c₀ (pos 0) F.finger
  unfolding system
  system-loose = ap (λ a. finger_system s x.finger a (c s x G F (p s)) G.finger F.finger) (A-loose (p s))
      ∙ ap₂ (λ b g. finger_system s x.finger A₀ b g F.finger) (c-loose (p s)) z.finger

  point-loose : rounded₁ (system s x G F) ≡ nearest c₀ A₀
  unfolding rounded₁ push₀ push
  point-loose = ap rounded₁ system-loose
      ∙ ap₂ nearest
      (solve 4 (λ c m φ b. (c ⊖ # 2 ⊗ # 0 ⊗ φ) ⊗ (m ⊕ # 0 ⊗ # 0) ⊖ ⊝ (# 0 ⊗ # 0) ⊗ (b ⊕ # 2 ⊗ # 0 ⊗ φ) ≐ m ⊗ c) tt c₀ (pos (m s)) x.finger.contact push₀)
      (solve 2 (λ a m. (a ⊕ # 0 ⊗ # 0) ⊗ (m ⊕ # 0 ⊗ # 0) ⊖ ⊝ (# 0 ⊗ # 0) ⊗ ⊝ (# 0 ⊗ # 0) ≐ m ⊗ a) tt A₀ (pos (m s)))
      ∙ nearest-scaled (pos (m s)) c₀ positive-mass (factor-positive s (pos 0))

  finger-loose : rounded₂ (system s x G F) ≡ nearest push₀ (pos (m s))
  unfolding rounded₂ push₀ push
  finger-loose = ap rounded₂ system-loose
      ∙ ap₂ nearest
      (solve 4 (λ a c φ b. (a ⊕ # 0 ⊗ # 0) ⊗ (b ⊕ # 2 ⊗ # 0 ⊗ φ) ⊖ (c ⊖ # 2 ⊗ # 0 ⊗ φ) ⊗ ⊝ (# 0 ⊗ # 0) ≐ a ⊗ b) tt A₀ c₀ x.finger.contact push₀)
      (solve 2 (λ a m. (a ⊕ # 0 ⊗ # 0) ⊗ (m ⊕ # 0 ⊗ # 0) ⊖ ⊝ (# 0 ⊗ # 0) ⊗ ⊝ (# 0 ⊗ # 0) ≐ a ⊗ m) tt A₀ (pos (m s)))
      ∙ nearest-scaled A₀ push₀ (factor-positive s (pos 0)) positive-mass

  moves-loose : moves s x G F ≡ loose_moves s x F
  unfolding moves push₀ own
  moves-loose = ap₂ (λ a b. record { points = a; finger = b }) (λ j. places (points s) (λ i. each (eqb i (p s)) i refl j)) finger-loose
    where
      each : (b : Bool) (i : ℕ) → eqb i (p s) ≡ b → cond b (rounded₁ (system s x G F)) (nearest (c s x G F i) (A s G i)) ≡ nearest (own i) A₀
      each true i q = point-loose ∙ ap (λ (i : ℕ). nearest (own i) A₀) (sym (eqb_yes {a = i} {b = p s} (rw q tt)))
      each false i q = ap₂ nearest (c-loose i) (A-loose i)

pub worked-loose : (s : Setup) (neck : Neck) (x : State) (F : Forces) → Zero (worked_step s neck x F).gradients → 1 ≤ m s → (worked_step s neck x F).moves ≡ loose_moves s x F
unfolding worked_step clear
worked-loose s neck x F = moves-loose s (clear s neck x) (worked_step s neck x F).gradients F

-- ---- the contact variables

minus-none : (ψ : ℤ) {g : ℤ} (d : ℤ) → g ≡ pos 0 → ψ -ℤ g *ℤ d ≡ ψ
minus-none ψ d q = ap (λ g. ψ -ℤ g *ℤ d) q ∙ solve 2 (λ ψ d. ψ ⊖ # 0 ⊗ d ≐ ψ) tt ψ d

pub plus_none : (φ : ℤ) {g : ℤ} (d : ℤ) → g ≡ pos 0 → φ +ℤ g *ℤ d ≡ φ
plus_none φ d q = ap (λ g. φ +ℤ g *ℤ d) q ∙ solve 2 (λ φ d. φ ⊕ # 0 ⊗ d ≐ φ) tt φ d

points_kept : (ψ G δ : List ℤ) → ((k : ℕ) → at G (suc k) ≡ pos 0) → T (all contact_ok ψ) → T (all contact_ok (minus ψ (times G δ)))
unfolding minus times zip_with
points_kept [] G δ h t = tt
points_kept (a ∷ ψ) [] δ h t = tt
points_kept (a ∷ ψ) (g ∷ G) [] h t = tt
points_kept (a ∷ ψ) (g ∷ G) (d ∷ δ) h t =
    let k = and_yes (contact_ok a) (all contact_ok ψ) t in
    yes_and (contact_ok (a -ℤ g *ℤ d)) (all contact_ok (minus ψ (times G δ))) (rw (minus-none a d (h 0)) k.0) (points_kept ψ G δ (λ k. h (suc k)) k.1)

-- in range before, in range after
pub contacts-kept : (s : Setup) (neck : Neck) (x : State) (F : Forces) → Zero (worked_step s neck x F).gradients → T (all contact_ok (x.finger.contact ∷ x.contact))
    → let y = next_state (worked_step s neck x F) in T (all contact_ok (y.finger.contact ∷ y.contact))
unfolding next_state worked_step
contacts-kept s neck x F z t =
    let y = clear s neck x in
    let G = (worked_step s neck x F).gradients in
    let δ = (worked_step s neck x F).moves in
    let φ = y.finger.contact in
    let k = and_yes (contact_ok φ) (all contact_ok y.contact) (contacts-clear s neck x t) in
    yes_and (contact_ok (φ +ℤ G.finger *ℤ (at δ.points (p s) -ℤ δ.finger))) (all contact_ok (minus y.contact (times G.points δ.points)))
    (rw (plus_none φ (at δ.points (p s) -ℤ δ.finger) z.finger) k.0)
    (points_kept y.contact G.points δ.points (λ k. z.point (suc k)) k.1)

-- the contact variables stay as many
pub contact-length : (s : Setup) (neck : Neck) (x : State) (F : Forces) → Examined s neck x → length (next_state (worked_step s neck x F)).contact ≡ points s
unfolding next_state worked_step
contact-length s neck x F h = let f = fit F h in (spans-minus f.contact (spans-times f.gradients f.moves)).long

-- ---- the calls of a run

-- what holds of the first call, which left v', and of those after it, holds of every call
pub every_call : (s : Setup) (neck : Neck) (P : Call → Type 0) (v : Lent) (F : Forces) (Fs : List Forces) {v' : Lent} → (step s neck v F).lent ≡ v' → P (call neck (voice s v) F) → Every P (history neck (voice s v') Fs)
    → Every P (history neck (voice s v) (F ∷ Fs))
unfolding history
every_call s neck P v F Fs q p h = (p, subst (λ (x : Lent). Every P (history neck (voice s x) Fs)) (sym q) h)
