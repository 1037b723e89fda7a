-- A worked step with M, S and Z above 0, newer and older string apart, contact on the neck and under the finger, contact variables of both signs, two of them
-- cleared, one contact dropped.
-- The numbers are from an implementation in exact fractions that was written from 01.
use Rattle.std.specs.Prelude.{◌≡◌, refl, ℤ, pos, neg_ℤ}
use mathlib.Core.List.{List, [], ◌∷◌, ◌++◌, zip_with}
use Rattle.integers.specs.Sum.{sum}
use Rattle.model.specs.Differences.{plus, minus, times, D1, dot, E}
use Rattle.model.specs.Gradient.{gradient, root, greatest}
use Rattle.model.specs.Rounding.{nearest, floor}
use Rattle.model.specs.System.{rounded₁, rounded₂}
use Rattle.model.specs.State.{State, Neck, PointsAndFinger}
use Rattle.model.specs.Step.{gradients, moves, worked_step, next_state, WorkedStep, A, c, system, clear, cleared, kept, let_go, settled, some_pull, dropped, totals, pulls, left}
use Rattle.model.specs.Energy.{stored_energy, loss, released, work, residuals, limits, dot_all, rounding_work, rounding_limit}
use Rattle.model.specs.Bench.{finger, forces}
use Rattle.model.specs.declared.Setup.{Setup}

abbrev pub worked_setup : Setup
worked_setup = record {
  segments = 5;
  tension = 1500;
  stiffness = 300;
  viscous = 250;
  plain = 70;
  finger = record { place = 2; stiffness = 40000; mass = 3000 };
  pluck_place = 3;
  bridge_place = 1;
  neck_place = 4;
}

abbrev pub worked_neck : Neck
worked_neck = record { heights = neg_ℤ (pos 5) ∷ neg_ℤ (pos 1) ∷ pos 0 ∷ neg_ℤ (pos 3) ∷ []; stiffness = 30000 ∷ 20000 ∷ 65535 ∷ 9000 ∷ [] }

abbrev pub before : State
before = record {
  newer = neg_ℤ (pos 37) ∷ pos 22 ∷ neg_ℤ (pos 9) ∷ pos 41 ∷ [];
  older = neg_ℤ (pos 30) ∷ pos 15 ∷ neg_ℤ (pos 2) ∷ pos 50 ∷ [];
  contact = pos 21500 ∷ neg_ℤ (pos 300) ∷ pos 170 ∷ neg_ℤ (pos 90) ∷ [];
  finger = finger (pos 5) (pos 100) (pos 418);
}

t : WorkedStep
t = worked_step worked_setup worked_neck before (forces (pos 12345) (neg_ℤ (pos 6789)))

-- the points' numbers, then the finger's
abbrev pub flat : PointsAndFinger → List ℤ
flat a = a.points ++ a.finger ∷ []

abbrev pub state_after : State
state_after = record {
  newer = pos 137 ∷ neg_ℤ (pos 91) ∷ pos 42 ∷ neg_ℤ (pos 19) ∷ [];
  older = neg_ℤ (pos 37) ∷ pos 22 ∷ neg_ℤ (pos 9) ∷ pos 41 ∷ [];
  contact = neg_ℤ (pos 19248) ∷ pos 0 ∷ pos 170 ∷ pos 0 ∷ [];
  finger = finger (neg_ℤ (pos 8)) (pos 5) (pos 830);
}

-- the variables at places 2 and 4 are cleared
cleared-are : flat t.cleared ≡ pos 0 ∷ neg_ℤ (pos 300) ∷ pos 0 ∷ neg_ℤ (pos 90) ∷ pos 0 ∷ []
unfolding t worked_step clear cleared kept let_go settled some_pull dropped totals pulls left next_state moves A c system rounded₁ rounded₂ nearest floor
    plus times D1 gradients gradient root greatest minus zip_with
cleared-are = refl

-- place 3 pulls at first
gradients-are : flat (gradients worked_setup worked_neck before) ++ flat t.gradients ≡ pos 244 ∷ pos 0 ∷ pos 191 ∷ pos 0 ∷ pos 206 ∷ pos 244 ∷ pos 0 ∷ pos 0 ∷ pos 0 ∷ pos 206 ∷ []
unfolding t worked_step clear cleared kept let_go settled some_pull dropped totals pulls left next_state moves A c system rounded₁ rounded₂ nearest floor
    plus times D1 gradients gradient root greatest minus zip_with
gradients-are = refl

moves-are : flat t.moves ≡ pos 167 ∷ neg_ℤ (pos 106) ∷ pos 44 ∷ neg_ℤ (pos 69) ∷ neg_ℤ (pos 108) ∷ []
unfolding t worked_step clear cleared kept let_go settled some_pull dropped totals pulls left next_state plus times gradients gradient root greatest
    moves A c system rounded₁ rounded₂ nearest floor minus zip_with D1
moves-are = refl

next-state_is : next_state t ≡ state_after
unfolding t worked_step clear cleared kept let_go settled some_pull dropped totals pulls left next_state gradients gradient root greatest moves A c
    system rounded₁ rounded₂ nearest floor plus minus times zip_with D1
next-state_is = refl

residuals-are : flat (residuals t) ≡ neg_ℤ (pos 30272) ∷ pos 7248 ∷ pos 903 ∷ neg_ℤ (pos 1076) ∷ neg_ℤ (pos 4299) ∷ []
unfolding t worked_step clear cleared kept let_go settled some_pull dropped totals pulls left next_state plus times residuals gradients gradient root
    greatest moves A c system rounded₁ rounded₂ nearest floor minus zip_with D1
residuals-are = refl

limits-are : flat (limits t) ≡ pos 63702 ∷ pos 89038 ∷ pos 4166 ∷ pos 4166 ∷ pos 87872 ∷ []
unfolding t worked_step clear cleared kept let_go settled some_pull dropped totals pulls left next_state moves c system rounded₁ rounded₂ nearest floor
    plus times D1 limits gradients gradient root greatest A minus zip_with
limits-are = refl

-- loss, work, rounding work, its bound
sums-are : loss t ∷ work t ∷ rounding_work t ∷ rounding_limit t ∷ [] ≡ pos 42223280 ∷ pos 2552784 ∷ neg_ℤ (pos 10490888) ∷ pos 30037196 ∷ []
unfolding t worked_step clear cleared kept let_go settled some_pull dropped totals pulls left next_state plus times loss released work rounding_work
    rounding_limit residuals limits dot_all gradients gradient root greatest moves A c system rounded₁ rounded₂ nearest floor minus zip_with D1 dot E
    sum
sums-are = refl

-- stored energy before and after: the second is the first + work − loss + rounding work
energies-are : stored_energy worked_setup before ∷ stored_energy worked_setup state_after ∷ [] ≡ pos 1024406324 ∷ pos 974244940 ∷ []
unfolding stored_energy minus zip_with D1 dot E sum
energies-are = refl

-- ---- the roots: those that 01 gives, one below a square and at it, and the cap

roots-are : root 0 ∷ root 1 ∷ root 2 ∷ root 1016 ∷ root 1017 ∷ root 1023 ∷ [] ≡ 0 ∷ 8 ∷ 11 ∷ 254 ∷ 255 ∷ 255 ∷ []
unfolding root greatest
roots-are = refl

-- 64·15 is 31² − 1, and 64·16 is 32²
roots-at-squares : root 15 ∷ root 16 ∷ [] ≡ 30 ∷ 32 ∷ []
unfolding root greatest
roots-at-squares = refl

gradients-at : gradient 65535 (pos 1048576) ∷ gradient 1 (pos 1023) ∷ gradient 1 (pos 1024) ∷ gradient 65535 (pos 1) ∷ gradient 65535 (pos 0) ∷ gradient 65535 (neg_ℤ (pos 1)) ∷ [] ≡ pos 255 ∷ pos 0 ∷ pos 8 ∷ pos 63 ∷ pos 0 ∷ pos 0 ∷ []
unfolding gradient root greatest
gradients-at = refl
