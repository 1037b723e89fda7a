-- 01, 'Energy', and 02, item 3: the stored energy of a state; loss, work, residuals, limits and rounding work of a step that was worked out.
use Rattle.std.specs.Prelude.{map, ℤ, pos, ◌+ℤ◌, ◌-ℤ◌, ◌*ℤ◌}
use Rattle.integers.specs.Size.{size}
use Rattle.model.specs.Setup.{L, M, S, Z, m, p, e, points}
use Rattle.model.specs.Differences.{at, places, minus, D1, dot, E}
use Rattle.model.specs.State.{State, PointsAndFinger}
use Rattle.model.specs.System.{residual₁, residual₂}
use Rattle.model.specs.Step.{under_finger, A, c, system, WorkedStep}
use Rattle.model.specs.declared.Setup.{Setup}

-- of string, contact variables and finger
unfoldable pub stored_energy : Setup → State → ℤ
stored_energy s x =
    let u = x.newer in
    let v = x.older in
    let a = minus u v in
    let ψ = x.contact in
    let w = x.finger.newer in
    let w' = x.finger.older in
    let φ = x.finger.contact in
    pos 8192 *ℤ dot a a +ℤ pos 2 *ℤ pos (L s) *ℤ E u v +ℤ pos 2 *ℤ pos (M s) *ℤ dot (D1 u) (D1 v) -ℤ pos (S s) *ℤ E a a
    +ℤ pos 2 *ℤ dot ψ ψ +ℤ pos 2 *ℤ pos (m s) *ℤ ((w -ℤ w') *ℤ (w -ℤ w')) +ℤ pos 2 *ℤ (φ *ℤ φ)

-- Σ of a·b over all points and the finger
unfoldable pub dot_all : PointsAndFinger → PointsAndFinger → ℤ
dot_all a b = dot a.points b.points +ℤ a.finger *ℤ b.finger

abbrev pub sizes : PointsAndFinger → PointsAndFinger
sizes a = record { points = map size a.points; finger = size a.finger }

module _ (t : WorkedStep) where
  -- the energy let go before the step: twice the square of each cleared variable
  unfoldable pub released : ℤ
  released = pos 2 *ℤ dot_all t.cleared t.cleared

  -- by plain and by viscous loss, and what was let go
  unfoldable pub loss : ℤ
  loss =
      let s = t.setup in
      let δ = t.moves.points in
      pos 2 *ℤ pos (Z s) *ℤ dot δ δ +ℤ pos (S s) *ℤ E δ δ +ℤ released

  -- of the pluck force at e, and of the finger force
  unfoldable pub work : ℤ
  work = pos 2 *ℤ t.forces.pluck *ℤ at t.moves.points (e t.setup) +ℤ pos 2 *ℤ t.forces.finger *ℤ t.moves.finger

  -- left side minus right side of each point's equation and of the finger's, at the rounded moves
  unfoldable pub residuals : PointsAndFinger
  residuals =
      let s = t.setup in
      let G = t.gradients in
      let δ = at t.moves.points in
      let δw = t.moves.finger in
      let pair = system s t.before G t.forces in
      record {
        points = places (points s) (λ i. under_finger s i (residual₁ pair (δ i) δw) (A s G i *ℤ δ i -ℤ c s t.before G t.forces i));
        finger = residual₂ pair (δ (p s)) δw;
      }

  -- each on the size of twice the residual: A away from p, A + 2g² at p, m + 2g² for the finger
  unfoldable pub limits : PointsAndFinger
  limits =
      let s = t.setup in
      let G = t.gradients in
      let g² = G.finger *ℤ G.finger in
      record {
        points = places (points s) (λ i. under_finger s i (A s G i +ℤ pos 2 *ℤ g²) (A s G i));
        finger = pos (m s) +ℤ pos 2 *ℤ g²;
      }

  -- twice Σ of residual × move
  unfoldable pub rounding_work : ℤ
  rounding_work = pos 2 *ℤ dot_all residuals t.moves

  -- Σ of limit × size of move
  unfoldable pub rounding_limit : ℤ
  rounding_limit = dot_all limits (sizes t.moves)
