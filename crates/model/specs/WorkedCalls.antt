-- Worked calls of every operation on the setup, neck and state of `Worked`: laying, fresh start, block and reading, accepted and refused, and what
-- the answers come to. The numbers are from an implementation in exact fractions that was written from 01.
use Rattle.std.specs.Prelude.{◌≡◌, refl, Bool, true, false, ℕ, ℤ, pos, negsuc, neg_ℤ, Float, replicate, Ok, Err, Some}
use mathlib.Core.List.{List, [], ◌∷◌, zip_with}
use Rattle.std.specs.Float.{nan, fin}
use Rattle.std.specs.Float.Ieee.{round}
use Rattle.integers.specs.Sum.{sum}
use Rattle.model.specs.Ranges.{between, inside, displacement_ok, contact_ok, force_ok, height_ok}
use Rattle.model.specs.Refusal.{accepted, refused, first_of, number, answer_of}
use Rattle.model.specs.Setup.{setup_rules, place_ok, length_ok}
use Rattle.model.specs.Differences.{plus, minus, times, D1, dot, E}
use Rattle.model.specs.Gradient.{gradient, root, greatest}
use Rattle.model.specs.Rounding.{nearest, floor}
use Rattle.model.specs.System.{rounded₁, rounded₂}
use Rattle.model.specs.State.{Lent, state_of, put}
use Rattle.model.specs.Neck.{neck_rules, laid, lay}
use Rattle.model.specs.Start.{start_rules, fresh, start}
use Rattle.model.specs.Step.{gradients, moves, worked_step, next_state, A, c, system, call_rules, result_rules, step_rules, frame, step, clear, cleared, kept, let_go, settled, some_pull, dropped, totals, pulls, left}
use Rattle.model.specs.Energy.{stored_energy, limits}
use Rattle.model.specs.Fraction.{fraction}
use Rattle.model.specs.Block.{block, block_rules, play}
use Rattle.model.specs.Reading.{reading, reading_rules}
use Rattle.model.specs.Answers.{neck_result, start_result, step_result, block_result, reading_result}
use Rattle.model.specs.Bench.{finger, resting_finger, one_point, forces}
use Rattle.model.specs.declared.Setup.{Setup}
use Rattle.model.specs.declared.Reading.TheVariants.{Free, Pressed, Refused}
use Rattle.model.specs.declared.refusal.Refusal.TheVariants as Refusal
use Rattle.model.specs.Worked.{worked_setup, worked_neck, before, state_after, flat}

-- floats ±m / 1,048,576, m odd, and 32 / 1,048,576
over : Bool → ℕ → Float
over sign m = fin sign m (negsuc 19)

-- frets at places 2 and 4
laid_is : lay worked_setup (record { board = neg_ℤ (pos 10) ∷ neg_ℤ (pos 20) ∷ neg_ℤ (pos 30) ∷ neg_ℤ (pos 40) ∷ []; board_stiffness = 100; frets = 2 ∷ 4 ∷ []; tip = neg_ℤ (pos 5); fret_stiffness = 900 }) (replicate 4 (pos 7)) (replicate 4 7)
    ≡ record { answer = accepted tt; heights = neg_ℤ (pos 10) ∷ neg_ℤ (pos 5) ∷ neg_ℤ (pos 30) ∷ neg_ℤ (pos 5) ∷ []; stiffness = 100 ∷ 900 ∷ 100 ∷ 900 ∷ [] }
unfolding lay neck_rules laid setup_rules place_ok length_ok between inside height_ok
laid_is = refl

-- a tip below the board at the second fret only: no buffer changes
not-laid_is : lay worked_setup (record { board = neg_ℤ (pos 10) ∷ neg_ℤ (pos 20) ∷ neg_ℤ (pos 30) ∷ neg_ℤ (pos 1) ∷ []; board_stiffness = 100; frets = 2 ∷ 4 ∷ []; tip = neg_ℤ (pos 5); fret_stiffness = 900 }) (replicate 4 (pos 7)) (replicate 4 7)
    ≡ record { answer = refused 9; heights = replicate 4 (pos 7); stiffness = replicate 4 7 }
unfolding lay neck_rules laid setup_rules place_ok length_ok between inside height_ok
not-laid_is = refl

-- a fresh start over buffers that hold anything
started_is : start worked_setup (replicate 4 (pos 7)) (replicate 4 (pos 8)) (replicate 4 (pos 9)) (pos 5) (neg_ℤ (pos 6))
    ≡ record { answer = accepted record { turn = 0; finger = finger (pos 5) (neg_ℤ (pos 6)) (pos 0); book = record { stored = pos 726000; work = pos 0; loss = pos 0; rounding = pos 0; count = 0 } }; first = replicate 4 (pos 0); second = replicate 4 (pos 0); contact = replicate 4 (pos 0) }
unfolding start start_rules fresh setup_rules place_ok length_ok between inside displacement_ok state_of stored_energy minus zip_with D1 dot E sum
started_is = refl

-- a finger below 0: no buffer changes
not-started_is : start worked_setup (replicate 4 (pos 7)) (replicate 4 (pos 8)) (replicate 4 (pos 9)) (neg_ℤ (pos 1)) (neg_ℤ (pos 6)) ≡ record { answer = refused 10; first = replicate 4 (pos 7); second = replicate 4 (pos 8); contact = replicate 4 (pos 9) }
unfolding start start_rules fresh setup_rules place_ok length_ok between inside displacement_ok
not-started_is = refl

-- the voice before the worked step, at turn 7: the second buffer is newer
lent : Lent
lent = record { first = before.older; second = before.newer; contact = before.contact; turn = 7; finger = before.finger }

-- after a second step, in which the finger's point lies on the neck and pulls
lent₂ : Lent
lent₂ = record {
  first = state_after.newer;
  second = pos 68 ∷ pos 49 ∷ neg_ℤ (pos 55) ∷ pos 24 ∷ [];
  contact = pos 0 ∷ pos 0 ∷ pos 0 ∷ pos 1598 ∷ [];
  turn = 1;
  finger = finger (neg_ℤ (pos 20)) (neg_ℤ (pos 8)) (pos 0);
}

-- its limits: only place 4 keeps its gradient, 94
limits-on-neck-are : flat (limits (worked_step worked_setup worked_neck state_after (forces (neg_ℤ (pos 2500)) (pos 4000)))) ≡ pos 4166 ∷ pos 4166 ∷ pos 4166 ∷ pos 13002 ∷ pos 3000 ∷ []
unfolding worked_step clear cleared kept let_go settled some_pull dropped totals pulls left next_state moves c system rounded₁ rounded₂ nearest floor
    plus times D1 limits gradients gradient root greatest A minus zip_with
limits-on-neck-are = refl

-- a block of four steps, the third with a force out of range
played_is : block worked_setup worked_neck lent (pos 12345 ∷ neg_ℤ (pos 6789) ∷ neg_ℤ (pos 2500) ∷ pos 4000 ∷ pos 0 ∷ pos 1073741825 ∷ pos 5 ∷ pos 5 ∷ []) (replicate 8 nan)
    ≡ record { count = 2; refusal = 12; lent = lent₂; samples = over false 137 ∷ over true 19 ∷ fin false 17 (negsuc 17) ∷ fin false 3 (negsuc 16) ∷ replicate 4 nan }
unfolding lent lent₂ over block block_rules play step step_rules call_rules result_rules setup_rules place_ok length_ok between inside height_ok
    displacement_ok contact_ok force_ok state_of put worked_step clear cleared kept let_go settled some_pull dropped totals pulls left next_state frame
    fraction round gradients gradient root greatest moves A c system rounded₁ rounded₂ nearest floor plus minus times zip_with D1
played_is = refl

-- a block whose forces end, in a longer sample buffer
ended_is : block worked_setup worked_neck lent (pos 12345 ∷ neg_ℤ (pos 6789) ∷ []) (replicate 5 nan)
    ≡ record {
      count = 1;
      refusal = 0;
      lent = record { first = state_after.newer; second = before.newer; contact = state_after.contact; turn = 0; finger = state_after.finger };
      samples = over false 137 ∷ over true 19 ∷ replicate 3 nan;
    }
unfolding lent lent₂ over block block_rules play step step_rules call_rules result_rules setup_rules place_ok length_ok between inside height_ok
    displacement_ok contact_ok force_ok state_of put worked_step clear cleared kept let_go settled some_pull dropped totals pulls left next_state frame
    fraction round gradients gradient root greatest moves A c system rounded₁ rounded₂ nearest floor plus minus times zip_with D1
ended_is = refl

-- blocks turned down with 15, 6 for the contact variables and 11 for the older string: nothing is written
not-played-are : block worked_setup worked_neck lent (pos 5 ∷ []) (replicate 3 nan) ∷ block worked_setup worked_neck (record { first = before.older; second = before.newer; contact = []; turn = 7; finger = before.finger }) [] []
    ∷ block worked_setup worked_neck (record { first = before.newer; second = replicate 4 (pos 1048577); contact = before.contact; turn = 0; finger = before.finger }) [] [] ∷ []
    ≡ record { count = 0; refusal = 15; lent = lent; samples = replicate 3 nan }
    ∷ record { count = 0; refusal = 6; lent = record { first = before.older; second = before.newer; contact = []; turn = 7; finger = before.finger }; samples = [] }
    ∷ record { count = 0; refusal = 11; lent = record { first = before.newer; second = replicate 4 (pos 1048577); contact = before.contact; turn = 0; finger = before.finger }; samples = [] } ∷ []
unfolding lent block block_rules play setup_rules place_ok length_ok between inside height_ok displacement_ok contact_ok state_of
not-played-are = refl

-- place 1 is pressed to the depth −5 + 37, place 2 is free, and so is a string that just touches
readings-are : reading worked_setup worked_neck.heights lent.first lent.second 7 1 ∷ reading worked_setup worked_neck.heights lent.first lent.second 7 2 ∷ reading worked_setup (replicate 4 (neg_ℤ (pos 37))) lent.first lent.second 7 1 ∷ []
    ≡ Pressed (over true 37) (fin false 1 (negsuc 14)) ∷ Free (fin false 11 (negsuc 18)) ∷ Free (over true 37) ∷ []
unfolding lent over reading reading_rules setup_rules place_ok length_ok between inside height_ok displacement_ok fraction round
readings-are = refl

-- refused: a place past the string; a height and a newest displacement out of range elsewhere than at the place read
not-read-are : reading worked_setup worked_neck.heights lent.first lent.second 7 5 ∷ reading worked_setup (neg_ℤ (pos 5) ∷ pos 0 ∷ pos 0 ∷ pos 1 ∷ []) lent.first lent.second 7 1
    ∷ reading worked_setup worked_neck.heights lent.first (pos 0 ∷ pos 0 ∷ pos 0 ∷ pos 1048577 ∷ []) 7 1 ∷ [] ≡ Refused 4 ∷ Refused 7 ∷ Refused 11 ∷ []
unfolding lent reading reading_rules setup_rules place_ok length_ok between inside height_ok displacement_ok
not-read-are = refl

-- a step refused for the last of several points: 7; 11 in the newer string, the older one and the contact variables; 13; 14; the last is accepted,
-- since its contact pulls: by the first moves it would be 14
last : ℤ → List ℤ
last z = pos 0 ∷ pos 0 ∷ pos 0 ∷ z ∷ []

refusal_of : (heights u v ψ : List ℤ) → ℕ
refusal_of hs u v ψ = first_of (step_rules worked_setup (record { heights = hs; stiffness = replicate 4 30000 }) (record { newer = u; older = v; contact = ψ; finger = resting_finger }) (forces (pos 0) (pos 0)))

last-points-are : let rest = replicate 4 (pos 0) in refusal_of (last (pos 1)) rest rest rest ∷ refusal_of rest (last (pos 1048577)) rest rest ∷ refusal_of rest rest (last (neg_ℤ (pos 1048577))) rest ∷ refusal_of rest rest rest (last (pos 67108865))
    ∷ refusal_of rest (last (pos 1048576)) (last (neg_ℤ (pos 1048576))) rest ∷ refusal_of rest (last (neg_ℤ (pos 17))) (last (pos 1048576)) (last (neg_ℤ (pos 40000000)))
    ∷ refusal_of rest (last (neg_ℤ (pos 17))) (last (neg_ℤ (pos 1048576))) (last (pos 40000000)) ∷ [] ≡ 7 ∷ 11 ∷ 11 ∷ 11 ∷ 13 ∷ 14 ∷ 0 ∷ []
unfolding last refusal_of step_rules call_rules result_rules setup_rules place_ok length_ok between inside height_ok displacement_ok contact_ok force_ok
    gradients gradient root greatest moves worked_step clear cleared kept let_go settled some_pull dropped totals pulls left next_state A c system
    rounded₁ rounded₂ nearest floor plus minus times zip_with D1
last-points-are = refl

-- ---- what the answers come to

answers-are :
    (answer_of (Ok worked_setup) ≡ accepted worked_setup) × (answer_of {A = Setup} (Err Refusal.CoefficientSum) ≡ refused 3)
    × ((neck_result (Ok tt) [] []).answer ≡ accepted tt) × (neck_result (Err Refusal.Tip) (pos 1 ∷ []) (2 ∷ []) ≡ record { answer = refused 9; heights = pos 1 ∷ []; stiffness = 2 ∷ [] })
    × (start_result (Err Refusal.StartHeight) (pos 1 ∷ []) (pos 2 ∷ []) (pos 3 ∷ []) ≡ record { answer = refused 10; first = pos 1 ∷ []; second = pos 2 ∷ []; contact = pos 3 ∷ [] })
    -- after a refused step turn and finger are those passed in, after an accepted one those of the answer
    × (step_result 7 resting_finger (refused 14) (pos 1 ∷ []) (pos 2 ∷ []) (pos 3 ∷ []) ≡ record { answer = refused 14; lent = one_point (pos 1) (pos 2) (pos 3) 7 resting_finger })
    × (step_result 7 resting_finger (accepted record { turn = 0; finger = finger (pos 4) (pos 5) (pos 6); frame = record { bridge = nan; neck = nan } }) (pos 1 ∷ []) (pos 2 ∷ []) (pos 3 ∷ [])
    ≡ record { answer = accepted record { bridge = nan; neck = nan }; lent = one_point (pos 1) (pos 2) (pos 3) 0 (finger (pos 4) (pos 5) (pos 6)) })
    × (block_result record { count = 5; stopped = Some Refusal.NewDisplacement } (one_point (pos 1) (pos 2) (pos 3) 1 resting_finger) (nan ∷ []) ≡ record { count = 5; refusal = 13; lent = one_point (pos 1) (pos 2) (pos 3) 1 resting_finger; samples = nan ∷ [] })
    × (reading_result (Free nan) ≡ accepted (nan ∷ [])) × (reading_result (Pressed nan (over false 1)) ≡ accepted (nan ∷ over false 1 ∷ [])) × (reading_result (Refused 7) ≡ refused 7)
    × (reading_result (Refused (number Refusal.Height)) ≡ refused 7) × (answer_of {A = Setup} (Err Refusal.Height) ≡ refused 7)
answers-are = (refl, refl, refl, refl, refl, refl, refl, refl, refl, refl, refl, refl, refl)
