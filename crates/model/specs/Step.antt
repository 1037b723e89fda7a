-- 01, 'One step', and 02, item 3, in parts: the state after clearing; the gradients; the moves, with any gradients; the next state, with any moves;
-- contacts that pull are dropped, and the moves worked out again; the refusals; the call.
use Rattle.std.specs.Prelude.{Bool, true, false, ◌&&◌, ◌||◌, not, cond, ℕ, zero, suc, eqb, ℤ, pos, neg_ℤ, ◌+ℤ◌, ◌-ℤ◌, ◌*ℤ◌, length}
use mathlib.Core.List.{List, [], ◌∷◌, ◌++◌, zip_with}
use Rattle.std.specs.Int.Signed.{le_z, lt_z}
use Rattle.std.specs.Float.{binary32}
use Rattle.model.specs.Ranges.{all, any, displacement_ok, contact_ok, force_ok}
use Rattle.model.specs.Refusal.{Rule, ◌when◌, first_of, Answer, accepted, refused, unless}
use Rattle.model.specs.Setup.{N, L, M, S, Z, K, m, p, e, points, lengths_rule, setup_rules}
use Rattle.model.specs.Differences.{at, places, plus, minus, times, D1, D2}
use Rattle.model.specs.Gradient.{gradient}
use Rattle.model.specs.Rounding.{nearest}
use Rattle.model.specs.System.{System, rounded₁, rounded₂}
use Rattle.model.specs.State.{State, Lent, state_of, put, Neck, Forces, PointsAndFinger}
use Rattle.model.specs.Neck.{heights_rule}
use Rattle.model.specs.Fraction.{fraction}
use Rattle.model.specs.declared.Setup.{Setup}
use Rattle.model.specs.declared.Finger.{Finger}
use Rattle.model.specs.declared.Frame.{Frame}

-- ---- depths and gradients, from the newer values

-- height − u at each point, u(p) − w of the finger
abbrev pub depths : Setup → Neck → State → PointsAndFinger
depths s neck x = record { points = minus neck.heights x.newer; finger = at x.newer (p s) -ℤ x.finger.newer }

-- G of each point, g of the finger
unfoldable pub gradients : Setup → Neck → State → PointsAndFinger
gradients s neck x = let d = depths s neck x in record { points = zip_with gradient neck.stiffness d.points; finger = gradient (K s) d.finger }

-- ---- before the step: ψ becomes 0 wherever the depth is at most 0, and φ likewise

-- what is kept of a contact variable at the depth d, and what is let go
unfoldable pub kept : ℤ → ℤ → ℤ
kept d ψ = cond (le_z d (pos 0)) (pos 0) ψ

unfoldable pub let_go : ℤ → ℤ → ℤ
let_go d ψ = cond (le_z d (pos 0)) ψ (pos 0)

-- the state after clearing
unfoldable pub clear : Setup → Neck → State → State
clear s neck x =
    let d = depths s neck x in
    record {
      newer = x.newer;
      older = x.older;
      contact = zip_with kept d.points x.contact;
      finger = record { newer = x.finger.newer; older = x.finger.older; contact = kept d.finger x.finger.contact };
    }

-- the variables that are cleared, 0 for each other one
unfoldable pub cleared : Setup → Neck → State → PointsAndFinger
cleared s neck x = let d = depths s neck x in record { points = zip_with let_go d.points x.contact; finger = let_go d.finger x.finger.contact }

-- ---- the moves, with any gradients

-- a at the finger's place p, b away from it
abbrev pub under_finger {ℓ} : {B : Type ℓ} → Setup → ℕ → B → B → B
under_finger s i a b = cond (eqb i (p s)) a b

-- A, what a move is multiplied by in a point's equation, where the point's gradient is G; 4096 is a string point's mass
abbrev pub factor : Setup → ℤ → ℤ
factor s G = pos 4096 +ℤ pos (Z s) +ℤ G *ℤ G

-- c, the right side of a point's equation, where newer and older string are u and v and the point's gradient, contact variable and pluck force are G, ψ and f
abbrev pub right_side : Setup → List ℤ → List ℤ → (G ψ f : ℤ) → ℕ → ℤ
right_side s u v G ψ f i =
    let a = minus u v in
    pos 8192 *ℤ at a i +ℤ pos (L s) *ℤ at (D1 u) i -ℤ pos (M s) *ℤ at (D2 u) i +ℤ pos (S s) *ℤ at (D1 a) i +ℤ pos 2 *ℤ G *ℤ ψ +ℤ f

-- the finger's two-by-two system, where A and c are those at p, g is the finger's gradient and f the finger force
abbrev pub finger_system : Setup → Finger → (A c g f : ℤ) → System
finger_system s finger A c g f =
    let φ = finger.contact in
    let w = finger.newer in
    let w' = finger.older in
    record {
      a₁₁ = A +ℤ g *ℤ g;
      a₁₂ = neg_ℤ (g *ℤ g);
      b₁ = c -ℤ pos 2 *ℤ g *ℤ φ;
      a₂₁ = neg_ℤ (g *ℤ g);
      a₂₂ = pos (m s) +ℤ g *ℤ g;
      b₂ = pos 2 *ℤ pos (m s) *ℤ (w -ℤ w') +ℤ f +ℤ pos 2 *ℤ g *ℤ φ;
    }

-- A of each point
unfoldable pub A : Setup → PointsAndFinger → ℕ → ℤ
A s G i = factor s (at G.points i)

module _ (s : Setup) (x : State) (G : PointsAndFinger) (F : Forces) where
  -- c of each point; the pluck force acts at e
  unfoldable pub c : ℕ → ℤ
  c i = right_side s x.newer x.older (at G.points i) (at x.contact i) (cond (eqb i (e s)) F.pluck (pos 0)) i

  -- for δ at p and δw
  unfoldable pub system : System
  system = finger_system s x.finger (A s G (p s)) (c (p s)) G.finger F.finger

  -- δ at each point, and δw
  unfoldable pub moves : PointsAndFinger
  moves = record {
    points = places (points s) (λ i. under_finger s i (rounded₁ system) (nearest (c i) (A s G i)));
    finger = rounded₂ system;
  }

-- ---- a step worked out, and the next state

-- the setup, the state that the moves start from, what was cleared before it, the gradients, the forces and the moves: loss, work, residuals and limits
-- are functions of these
pub record WorkedStep : Type 0 where
  pub setup : Setup
  pub before : State
  pub cleared : PointsAndFinger
  pub gradients : PointsAndFinger
  pub forces : Forces
  pub moves : PointsAndFinger

-- the moves worked out with the gradients G
abbrev pub working : Setup → State → PointsAndFinger → Forces → PointsAndFinger → WorkedStep
working s x Γ F G = record { setup = s; before = x; cleared = Γ; gradients = G; forces = F; moves = moves s x G F }

-- new string v + δ, new finger height w' + δw, new ψ = ψ − G·δ, new φ = φ + g·(δ − δw)
unfoldable pub next_state : WorkedStep → State
next_state t =
    let x = t.before in
    let G = t.gradients in
    let δ = t.moves in
    record {
      newer = plus x.older δ.points;
      older = x.newer;
      contact = minus x.contact (times G.points δ.points);
      finger = record {
        newer = x.finger.older +ℤ δ.finger;
        older = x.finger.newer;
        contact = x.finger.contact +ℤ G.finger *ℤ (at δ.points (p t.setup) -ℤ δ.finger);
      };
    }

-- ---- contacts that pull

-- a contact of gradient above zero whose old and new variable sum below zero
unfoldable pub pulls : ℤ → ℤ → Bool
pulls g total = lt_z (pos 0) g && lt_z total (pos 0)

-- its gradient is replaced by 0
unfoldable pub left : ℤ → ℤ → ℤ
left g total = cond (pulls g total) (pos 0) g

-- old + new variable of each contact
unfoldable pub totals : WorkedStep → PointsAndFinger
totals t =
    let x = t.before in
    let y = next_state t in
    record { points = plus x.contact y.contact; finger = x.finger.contact +ℤ y.finger.contact }

unfoldable pub some_pull : WorkedStep → Bool
some_pull t = let G = t.gradients in let q = totals t in any (λ b. b) (zip_with pulls G.points q.points) || pulls G.finger q.finger

-- the gradients without those that pull, all dropped together
unfoldable pub dropped : WorkedStep → PointsAndFinger
dropped t = let G = t.gradients in let q = totals t in record { points = zip_with left G.points q.points; finger = left G.finger q.finger }

-- the moves are worked out, with what pulls dropped again and again, until none pulls: the gradients of the last moves. Each time one contact more has
-- gradient 0, so that n times are enough for n contacts.
unfoldable pub settled : Setup → State → PointsAndFinger → Forces → ℕ → PointsAndFinger → PointsAndFinger
settled s x Γ F zero G = G
settled s x Γ F (suc n) G = let t = working s x Γ F G in elim (some_pull t) [ true ↦ settled s x Γ F n (dropped t) | false ↦ G ]

-- the last working, from the state after clearing; the contacts are the N − 1 points and the finger
unfoldable pub worked_step : Setup → Neck → State → Forces → WorkedStep
worked_step s neck x F =
    let y = clear s neck x in
    let Γ = cleared s neck x in
    working s y Γ F (settled s y Γ F (N s) (gradients s neck x))

-- ---- the refusals

-- 6: every neck, string and contact buffer
abbrev pub buffers_rule : Setup → Neck → State → Rule
buffers_rule s neck x = lengths_rule s (length neck.heights ∷ length neck.stiffness ∷ length x.newer ∷ length x.older ∷ length x.contact ∷ [])

-- 11: a displacement, finger height or contact variable passed in
abbrev pub state_ok : State → Bool
state_ok x = all displacement_ok (x.finger.newer ∷ x.finger.older ∷ x.newer ++ x.older) && all contact_ok (x.finger.contact ∷ x.contact)

abbrev pub state_rule : State → Rule
state_rule x = 11 when not (state_ok x)

-- 12: a force
abbrev pub forces_rule : Forces → Rule
forces_rule F = 12 when not (all force_ok (F.pluck ∷ F.finger ∷ []))

-- what a call is refused for
unfoldable pub call_rules : Setup → Neck → State → Forces → List Rule
call_rules s neck x F = setup_rules s
    ++ buffers_rule s neck x
    ∷ heights_rule neck.heights
    ∷ state_rule x
    ∷ forces_rule F
    ∷ []

-- what its result is refused for
unfoldable pub result_rules : State → List Rule
result_rules y =
    13 when not (all displacement_ok (y.finger.newer ∷ y.newer))
    ∷ 14 when not (all contact_ok (y.finger.contact ∷ y.contact))
    ∷ []

unfoldable pub step_rules : Setup → Neck → State → Forces → List Rule
step_rules s neck x F = call_rules s neck x F ++ result_rules (next_state (worked_step s neck x F))

-- ---- the call

-- a pickup frame, of the displacements at bridge and neck
abbrev pub frame_of : ℤ → ℤ → Frame
frame_of bridge neck = record { bridge = fraction binary32 bridge; neck = fraction binary32 neck }

-- the pickup frame of a step that led to the state x
unfoldable pub frame : Setup → State → Frame
frame s x = frame_of (at x.newer s.bridge_place) (at x.newer s.neck_place)

-- the frame or the number, and the lent buffers, turn and finger after the call
pub record StepResult : Type 0 where
  pub answer : Answer Frame
  pub lent : Lent

unfoldable pub step : Setup → Neck → Lent → Forces → StepResult
step s neck v F =
    let x = state_of v in
    let y = next_state (worked_step s neck x F) in
    unless (first_of (step_rules s neck x F)) (record { answer = accepted (frame s y); lent = put v y }) (λ n. record { answer = refused n; lent = v })
