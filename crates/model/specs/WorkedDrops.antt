-- 02, item 3, at one point under the finger, in numbers: contacts that pull are dropped together, in up to three workings. The numbers are from an
-- implementation in exact fractions that was written from 01 and 02.
use Rattle.std.specs.Prelude.{◌≡◌, refl, true, false, ℕ, ℤ, pos, neg_ℤ}
use mathlib.Core.List.{List, [], ◌∷◌, zip_with}
use Rattle.integers.specs.Sum.{sum}
use Rattle.model.specs.Ranges.{between, inside, displacement_ok, contact_ok, force_ok, height_ok}
use Rattle.model.specs.Refusal.{refused}
use Rattle.model.specs.Setup.{setup_rules, place_ok, length_ok}
use Rattle.model.specs.Differences.{plus, minus, times, D1, dot, E}
use Rattle.model.specs.Gradient.{gradient, root, greatest}
use Rattle.model.specs.Rounding.{nearest, floor}
use Rattle.model.specs.System.{rounded₁, rounded₂}
use Rattle.model.specs.State.{State, Neck, PointsAndFinger, state_of}
use Rattle.model.specs.Step.{gradients, kept, let_go, clear, cleared, moves, WorkedStep, working, next_state, pulls, left, totals, some_pull, dropped, settled, worked_step, call_rules, result_rules, step_rules, step, A, c, system}
use Rattle.model.specs.Energy.{loss, released, dot_all}
use Rattle.model.specs.Bench.{bench_setup, flat_neck, finger, resting_finger, one_point, forces}
use Rattle.model.specs.Worked.{flat}
use Rattle.model.specs.declared.Setup.{Setup}

-- N = 2, all places 1, no losses
pub record Case : Type 0 where
  pub setup : Setup
  pub neck : Neck
  pub before : State

case : (height u v w w' ψ φ : ℤ) (stiffness K m L : ℕ) → Case
case height u v w w' ψ φ stiffness K m L = record {
  setup = record {
    segments = 2;
    tension = L;
    stiffness = 0;
    viscous = 0;
    plain = 0;
    finger = record { place = 1; stiffness = K; mass = m };
    pluck_place = 1;
    bridge_place = 1;
    neck_place = 1;
  };
  neck = record { heights = height ∷ []; stiffness = stiffness ∷ [] };
  before = record { newer = u ∷ []; older = v ∷ []; contact = ψ ∷ []; finger = finger w w' φ };
}

module _ (k : Case) where
  -- a working with these gradients
  with-gradients : PointsAndFinger → WorkedStep
  with-gradients G = working k.setup (clear k.setup k.neck k.before) (cleared k.setup k.neck k.before) (forces (pos 0) (pos 0)) G

  -- G and g of the state, after one drop, after two, and of the last moves; its moves, old + new variables
  workings : List (List ℤ)
  workings =
      let G = gradients k.setup k.neck k.before in
      let H = dropped (with-gradients G) in
      let t = worked_step k.setup k.neck k.before (forces (pos 0) (pos 0)) in
      flat G ∷ flat H ∷ flat (dropped (with-gradients H)) ∷ flat t.gradients ∷ flat t.moves ∷ flat (totals t) ∷ []

-- three workings: at first the point's contact pulls, without it the finger's
three : Case
three = case (neg_ℤ (pos 17)) (neg_ℤ (pos 29)) (neg_ℤ (pos 52)) (neg_ℤ (pos 88)) (neg_ℤ (pos 69)) (pos 311) (neg_ℤ (pos 341)) 500 500 1 100

three-are : workings three ≡ (pos 17 ∷ pos 42 ∷ []) ∷ (pos 0 ∷ pos 42 ∷ []) ∷ (pos 0 ∷ pos 0 ∷ []) ∷ (pos 0 ∷ pos 0 ∷ []) ∷ (pos 47 ∷ neg_ℤ (pos 38) ∷ []) ∷ (pos 622 ∷ neg_ℤ (pos 682) ∷ []) ∷ []
unfolding case with-gradients worked_step three workings clear cleared kept let_go settled some_pull dropped totals pulls left next_state gradients
    gradient root greatest moves A c system rounded₁ rounded₂ nearest floor plus minus times zip_with D1
three-are = refl

-- both pull at first, and are dropped together; with the point's alone dropped, the finger's would not pull
together : Case
together = case (neg_ℤ (pos 4)) (neg_ℤ (pos 26)) (neg_ℤ (pos 58)) (neg_ℤ (pos 46)) (neg_ℤ (pos 67)) (pos 127) (pos 26) 65535 64 4096 4000

together-are : workings together ≡ (pos 255 ∷ pos 8 ∷ []) ∷ (pos 0 ∷ pos 0 ∷ []) ∷ (pos 0 ∷ pos 0 ∷ []) ∷ (pos 0 ∷ pos 0 ∷ []) ∷ (pos 115 ∷ pos 42 ∷ []) ∷ (pos 254 ∷ pos 52 ∷ []) ∷ []
unfolding case with-gradients worked_step together workings clear cleared kept let_go settled some_pull dropped totals pulls left next_state gradients
    gradient root greatest moves A c system rounded₁ rounded₂ nearest floor plus minus times zip_with D1
together-are = refl

point-alone : some_pull (with-gradients together (record { points = pos 0 ∷ []; finger = pos 8 })) ≡ false
unfolding case with-gradients worked_step together clear cleared kept let_go settled some_pull dropped totals pulls left next_state gradients gradient
    root greatest moves A c system rounded₁ rounded₂ nearest floor plus minus times zip_with D1
point-alone = refl

-- the same, with the finger's alone dropped
together' : Case
together' = case (neg_ℤ (pos 16)) (neg_ℤ (pos 21)) (pos 5) (neg_ℤ (pos 57)) (neg_ℤ (pos 100)) (neg_ℤ (pos 120)) (pos 160) 65535 3000 4096 1

together'-are : workings together' ≡ (pos 142 ∷ pos 81 ∷ []) ∷ (pos 0 ∷ pos 0 ∷ []) ∷ (pos 0 ∷ pos 0 ∷ []) ∷ (pos 0 ∷ pos 0 ∷ []) ∷ (neg_ℤ (pos 52) ∷ pos 86 ∷ []) ∷ (neg_ℤ (pos 240) ∷ pos 320 ∷ []) ∷ []
unfolding case with-gradients worked_step together' workings clear cleared kept let_go settled some_pull dropped totals pulls left next_state gradients
    gradient root greatest moves A c system rounded₁ rounded₂ nearest floor plus minus times zip_with D1
together'-are = refl

finger-alone : some_pull (with-gradients together' (record { points = pos 142 ∷ []; finger = pos 0 })) ≡ false
unfolding case with-gradients worked_step together' clear cleared kept let_go settled some_pull dropped totals pulls left next_state gradients gradient
    root greatest moves A c system rounded₁ rounded₂ nearest floor plus minus times zip_with D1
finger-alone = refl

-- ---- the boundaries

-- depth 0 is cleared, depth 1 is not, whatever its gradient; a gradient above 0 and a sum below 0
boundaries-are : (kept (pos 0) (pos 5) ∷ let_go (pos 0) (pos 5) ∷ kept (pos 1) (pos 5) ∷ let_go (pos 1) (pos 5) ∷ [] ≡ pos 0 ∷ pos 5 ∷ pos 5 ∷ pos 0 ∷ [])
    × (pulls (pos 1) (neg_ℤ (pos 1)) ∷ pulls (pos 1) (pos 0) ∷ pulls (pos 0) (neg_ℤ (pos 1)) ∷ [] ≡ true ∷ false ∷ false ∷ [])
unfolding kept let_go pulls
boundaries-are = (refl, refl)

-- ψ = 5 and φ = 7 at depth 0: a step clears both, its loss is 50 + 98; one refused with 13 clears nothing
clears-are : let v = one_point (pos 0) (pos 0) (pos 5) 0 (finger (pos 0) (pos 0) (pos 7)) in
    (loss (worked_step (bench_setup 1 0 0 0 0) (flat_neck 0) (state_of v) (forces (pos 0) (pos 0))) ≡ pos 148)
    × (step (bench_setup 1 0 0 0 0) (flat_neck 0) (one_point (pos 1048576) (pos 0) (pos 5) 0 resting_finger) (forces (pos 0) (pos 0))
    ≡ record { answer = refused 13; lent = one_point (pos 1048576) (pos 0) (pos 5) 0 resting_finger })
    -- and at depth 1 it is not cleared, though the gradient is 0
    × (loss (worked_step (bench_setup 1 0 0 0 0) (flat_neck 63) (state_of (one_point (neg_ℤ (pos 1)) (neg_ℤ (pos 1)) (pos 5) 0 (finger (pos 0) (pos 0) (pos 0)))) (forces (pos 0) (pos 0))) ≡ pos 0)
unfolding loss released dot_all dot E sum step step_rules call_rules result_rules setup_rules place_ok length_ok between inside height_ok displacement_ok
    contact_ok force_ok state_of worked_step clear cleared kept let_go settled some_pull dropped totals pulls left next_state gradients gradient root
    greatest moves A c system rounded₁ rounded₂ nearest floor plus minus times zip_with D1
clears-are = (refl, refl, refl)
