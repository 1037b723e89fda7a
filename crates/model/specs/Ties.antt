-- 02, item 2, at ties of both signs and both parities: a tie goes to the even neighbour of the move, away from p, at p and of the finger.
use Rattle.std.specs.Prelude.{◌≡◌, refl, ℕ, ℤ, pos, neg_ℤ}
use mathlib.Core.List.{List, [], ◌∷◌, zip_with}
use Rattle.model.specs.Differences.{plus, minus, times, D1}
use Rattle.model.specs.Gradient.{gradient, root, greatest}
use Rattle.model.specs.Rounding.{nearest, floor}
use Rattle.model.specs.System.{rounded₁, rounded₂}
use Rattle.model.specs.State.{Lent, state_of, Neck}
use Rattle.model.specs.Step.{gradients, clear, kept, moves, next_state, totals, pulls, some_pull, settled, worked_step, A, c, system}
use Rattle.model.specs.Bench.{bench_setup, flat_neck, finger, one_point, forces}
use Rattle.model.specs.Worked.{flat}
use Rattle.model.specs.declared.Setup.{Setup}

-- 1/2, 3/2, 5/2 and their negatives; then what lies next to 1/2 and 3/2
ties-are : nearest (pos 1) (pos 2) ∷ nearest (pos 3) (pos 2) ∷ nearest (pos 5) (pos 2) ∷ nearest (neg_ℤ (pos 1)) (pos 2) ∷ nearest (neg_ℤ (pos 3)) (pos 2) ∷ nearest (neg_ℤ (pos 5)) (pos 2)
    ∷ nearest (pos 2047) (pos 4096) ∷ nearest (pos 2049) (pos 4096) ∷ nearest (pos 6143) (pos 4096) ∷ nearest (pos 6145) (pos 4096) ∷ []
    ≡ pos 0 ∷ pos 2 ∷ pos 2 ∷ pos 0 ∷ neg_ℤ (pos 2) ∷ neg_ℤ (pos 2) ∷ pos 0 ∷ pos 1 ∷ pos 1 ∷ pos 2 ∷ []
unfolding nearest floor
ties-are = refl

-- the moves of string and finger, of the bench voice with L = 1 and this K
moves_of : ℕ → Lent → (pluck push : ℤ) → List ℤ
moves_of K v f g = flat (worked_step (bench_setup 1 0 0 0 K) (flat_neck 0) (state_of v) (forces f g)).moves

-- string and finger at 1, so that an even move is an odd new displacement: 1/2 and −1/2 to 0, 3/2 to 2
odd-displacements-are : let v = one_point (pos 1) (pos 1) (pos 0) 0 (finger (pos 1) (pos 1) (pos 0)) in
    moves_of 0 v (pos 2050) (pos 2048) ∷ moves_of 0 v (neg_ℤ (pos 2046)) (neg_ℤ (pos 2048)) ∷ moves_of 0 v (pos 6146) (pos 6144) ∷ []
    ≡ (pos 0 ∷ pos 0 ∷ []) ∷ (pos 0 ∷ pos 0 ∷ []) ∷ (pos 2 ∷ pos 2 ∷ []) ∷ []
unfolding moves_of state_of worked_step clear kept settled some_pull totals pulls next_state gradients gradient root greatest moves A c system rounded₁ rounded₂ nearest floor
    plus minus times zip_with D1
odd-displacements-are = refl

-- in contact with the finger, g = 8: both solutions 1/2, 3/2, 5/2 and −1/2, −3/2
in-contact-are : let v = one_point (pos 16) (pos 16) (pos 0) 0 (finger (pos 0) (pos 0) (pos 0)) in
    moves_of 64 v (pos 2080) (pos 2048) ∷ moves_of 64 v (pos 6176) (pos 6144) ∷ moves_of 64 v (pos 10272) (pos 10240) ∷ moves_of 64 v (neg_ℤ (pos 2016)) (neg_ℤ (pos 2048))
    ∷ moves_of 64 v (neg_ℤ (pos 6112)) (neg_ℤ (pos 6144)) ∷ []
    ≡ (pos 0 ∷ pos 0 ∷ []) ∷ (pos 2 ∷ pos 2 ∷ []) ∷ (pos 2 ∷ pos 2 ∷ []) ∷ (pos 0 ∷ pos 0 ∷ []) ∷ (neg_ℤ (pos 2) ∷ neg_ℤ (pos 2) ∷ []) ∷ []
unfolding moves_of state_of worked_step clear kept settled some_pull totals pulls next_state gradients gradient root greatest moves A c system rounded₁ rounded₂ nearest floor
    plus minus times zip_with D1
in-contact-are = refl

-- away from p: N = 3, the finger at place 2, the string at 1 at place 1 and 0 at place 2; 1/2, −1/2, 3/2
three_segments : Setup
three_segments = record {
  segments = 3;
  tension = 1;
  stiffness = 0;
  viscous = 0;
  plain = 0;
  finger = record { place = 2; stiffness = 0; mass = 4096 };
  pluck_place = 1;
  bridge_place = 1;
  neck_place = 1;
}

level : Neck
level = record { heights = neg_ℤ (pos 9) ∷ neg_ℤ (pos 9) ∷ []; stiffness = 0 ∷ 0 ∷ [] }

away_of : ℤ → List ℤ
away_of f = flat (worked_step three_segments level (record { newer = pos 1 ∷ pos 0 ∷ []; older = pos 1 ∷ pos 0 ∷ []; contact = pos 0 ∷ pos 0 ∷ []; finger = finger (pos 0) (pos 0) (pos 0) }) (forces f (pos 0))).moves

away-are : away_of (pos 2050) ∷ away_of (neg_ℤ (pos 2046)) ∷ away_of (pos 6146) ∷ [] ≡ (pos 0 ∷ pos 0 ∷ pos 0 ∷ []) ∷ (pos 0 ∷ pos 0 ∷ pos 0 ∷ []) ∷ (pos 2 ∷ pos 0 ∷ pos 0 ∷ []) ∷ []
unfolding away_of three_segments level worked_step clear kept settled some_pull totals pulls next_state gradients gradient root greatest moves A c system rounded₁ rounded₂ nearest floor
    plus minus times zip_with D1
away-are = refl
