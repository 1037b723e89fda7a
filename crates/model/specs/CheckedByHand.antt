-- 01, 'Checked by hand': the starred lines, in their order, as one theorem by table. Answers are whole results of setup, fresh start and step, as
-- the public contracts equate them; gradients, moves, work and energies are by their definitions. The lines on a pluck of 2048 are as 02, item 2, reads them.
use Rattle.std.specs.Prelude.{refl, true, false, ℤ, pos, negsuc, neg_ℤ, Float}
use mathlib.Core.List.{List, [], ◌∷◌, map, zip_with}
use Rattle.std.specs.Float.{fin}
use Rattle.std.specs.Float.Ieee.{round}
use Rattle.integers.specs.Sum.{sum}
use Rattle.model.specs.Ranges.{between, inside, displacement_ok, contact_ok, force_ok, height_ok}
use Rattle.model.specs.Refusal.{Answer, accepted, refused}
use Rattle.model.specs.Setup.{setup, setup_rules, place_ok, length_ok}
use Rattle.model.specs.Differences.{at, plus, minus, times, D1, dot, E}
use Rattle.model.specs.Gradient.{gradient, root, greatest}
use Rattle.model.specs.Rounding.{nearest, floor}
use Rattle.model.specs.System.{rounded₁, rounded₂}
use Rattle.model.specs.State.{Lent, state_of, put, Forces, Neck}
use Rattle.model.specs.Step.{StepResult, step, step_rules, call_rules, result_rules, gradients, moves, worked_step, next_state, frame, A, c, system, clear, cleared, kept, let_go, settled, some_pull, dropped, totals, pulls, left}
use Rattle.model.specs.Start.{StartResult, start, start_rules, fresh}
use Rattle.model.specs.Fraction.{fraction}
use Rattle.model.specs.Energy.{stored_energy, work, residuals, dot_all, rounding_work}
use Rattle.model.specs.Table.{Line, ◌gives◌, Right}
use Rattle.model.specs.Bench.{bench_setup, bench, flat_neck, finger, resting_finger, one_point, forces}
use Rattle.model.specs.declared.Setup.{Setup}

-- ---- what a line shows

pub data Shown : Type 0 where
  is_setup : Answer Setup → Shown
  is_start : StartResult → Shown
  are_steps : List StepResult → Shown
  are_numbers : List ℤ → Shown

-- each step is given what the step before it returned or left
in_turn : Setup → Neck → Lent → List Forces → List StepResult
in_turn s neck v [] = []
in_turn s neck v (F ∷ Fs) = let r = step s neck v F in r ∷ in_turn s neck r.lent Fs

-- plucks of the bench voice from a fresh start
plucks : List ℤ → Shown
plucks fs = are_steps (in_turn bench (flat_neck 0) (one_point (pos 0) (pos 0) (pos 0) 0 resting_finger) (map (λ f. forces f (pos 0)) fs))

-- an accepted step: both pickups show d
after : Float → Lent → StepResult
after d v = record { answer = accepted record { bridge = d; neck = d }; lent = v }

-- the floats z / 1,048,576 for z = 1, −1, 0, −12 and 16
one : Float
one = fin false 1 (negsuc 19)

minus_one : Float
minus_one = fin true 1 (negsuc 19)

zero-float : Float
zero-float = fin false 0 (pos 0)

minus-twelve : Float
minus-twelve = fin true 3 (negsuc 17)

sixteen : Float
sixteen = fin false 1 (negsuc 15)

stored : Setup → Lent → ℤ
stored s v = stored_energy s (state_of v)

-- the gradients and the moves of a step with no force: G, g, δ, δw
unforced : Setup → Neck → Lent → List ℤ
unforced s neck v = let t = worked_step s neck (state_of v) (forces (pos 0) (pos 0)) in at t.gradients.points 1 ∷ t.gradients.finger ∷ at t.moves.points 1 ∷ t.moves.finger ∷ []

-- ---- the lines

-- N = 2, L = 1, stiffness 64, u = v = −16, ψ = 1000, and what follows it
on_neck : Lent
on_neck = one_point (neg_ℤ (pos 16)) (neg_ℤ (pos 16)) (pos 1000) 0 resting_finger

on_neck' : Lent
on_neck' = one_point (neg_ℤ (pos 16)) (neg_ℤ (pos 12)) (pos 968) 1 resting_finger

-- N = 2, L = 1, K = 64, u = v = 16, w = 0, w' = 8, φ = 0, and what follows it
pressing : Lent
pressing = one_point (pos 16) (pos 16) (pos 0) 0 (finger (pos 0) (pos 8) (pos 0))

pressing' : Lent
pressing' = one_point (pos 16) (pos 16) (pos 0) 1 (finger (neg_ℤ (pos 8)) (pos 0) (pos 128))

pub lines : List (Line Shown)
lines =
    -- a fresh start with both finger heights 0, over buffers that hold anything
    is_start (start bench (pos 7 ∷ []) (pos 8 ∷ []) (pos 9 ∷ []) (pos 0) (pos 0))
    gives is_start record { answer = accepted record { turn = 0; finger = resting_finger; book = record { stored = pos 0; work = pos 0; loss = pos 0; rounding = pos 0; count = 0 } }; first = pos 0 ∷ []; second = pos 0 ∷ []; contact = pos 0 ∷ [] }
    -- pluck 4096, then no force: 1, 0, −1, 0
    ∷ plucks (pos 4096 ∷ pos 0 ∷ pos 0 ∷ pos 0 ∷ [])
    gives are_steps (after one (one_point (pos 0) (pos 1) (pos 0) 1 resting_finger) ∷ after zero-float (one_point (pos 0) (pos 1) (pos 0) 0 resting_finger)
    ∷ after minus_one (one_point (pos 0) (neg_ℤ (pos 1)) (pos 0) 1 resting_finger) ∷ after zero-float (one_point (pos 0) (neg_ℤ (pos 1)) (pos 0) 0 resting_finger) ∷ [])
    -- stored energy after the first step
    ∷ are_numbers (stored bench (one_point (pos 0) (pos 1) (pos 0) 1 resting_finger) ∷ []) gives are_numbers (pos 8192 ∷ [])
    -- first plucks
    ∷ plucks (pos 2048 ∷ []) gives are_steps (after zero-float (one_point (pos 0) (pos 0) (pos 0) 1 resting_finger) ∷ [])
    ∷ plucks (pos 2047 ∷ []) gives are_steps (after zero-float (one_point (pos 0) (pos 0) (pos 0) 1 resting_finger) ∷ [])
    ∷ plucks (neg_ℤ (pos 2048) ∷ []) gives are_steps (after zero-float (one_point (pos 0) (pos 0) (pos 0) 1 resting_finger) ∷ [])
    ∷ plucks (neg_ℤ (pos 2049) ∷ []) gives are_steps (after minus_one (one_point (pos 0) (neg_ℤ (pos 1)) (pos 0) 1 resting_finger) ∷ [])
    -- with 2048: work, rounding work, stored
    ∷ (let t = worked_step bench (flat_neck 0) (state_of (one_point (pos 0) (pos 0) (pos 0) 0 resting_finger)) (forces (pos 2048) (pos 0)) in
    are_numbers (work t ∷ rounding_work t ∷ stored_energy bench (next_state t) ∷ [])) gives are_numbers (pos 0 ∷ pos 0 ∷ pos 0 ∷ [])
    -- on the neck: the step, its gradients and moves, the stored energies; at stiffness 63 no gradient
    ∷ are_steps (in_turn (bench_setup 1 0 0 0 0) (flat_neck 64) on_neck (forces (pos 0) (pos 0) ∷ [])) gives are_steps (after minus-twelve on_neck' ∷ [])
    ∷ are_numbers (unforced (bench_setup 1 0 0 0 0) (flat_neck 64) on_neck) gives are_numbers (pos 8 ∷ pos 0 ∷ pos 4 ∷ pos 0 ∷ [])
    ∷ are_numbers (stored (bench_setup 1 0 0 0 0) on_neck ∷ stored (bench_setup 1 0 0 0 0) on_neck' ∷ []) gives are_numbers (pos 2001024 ∷ pos 2005888 ∷ [])
    ∷ are_numbers (at (gradients (bench_setup 1 0 0 0 0) (flat_neck 63) (state_of on_neck)).points 1 ∷ []) gives are_numbers (pos 0 ∷ [])
    -- under the finger: the same
    ∷ are_steps (in_turn (bench_setup 1 0 0 0 64) (flat_neck 0) pressing (forces (pos 0) (pos 0) ∷ [])) gives are_steps (after sixteen pressing' ∷ [])
    ∷ are_numbers (unforced (bench_setup 1 0 0 0 64) (flat_neck 0) pressing) gives are_numbers (pos 0 ∷ pos 8 ∷ pos 0 ∷ neg_ℤ (pos 16) ∷ [])
    ∷ are_numbers (stored (bench_setup 1 0 0 0 64) pressing ∷ stored (bench_setup 1 0 0 0 64) pressing' ∷ []) gives are_numbers (pos 525312 ∷ pos 558080 ∷ [])
    -- setups
    ∷ is_setup (setup (bench_setup 4092 1 0 0 0)) gives is_setup (accepted (bench_setup 4092 1 0 0 0))
    ∷ is_setup (setup (bench_setup 4093 1 0 0 0)) gives is_setup (refused 3)
    ∷ []

pub checked-by-hand : Right lines
unfolding lines in_turn plucks after one minus_one zero-float minus-twelve sixteen stored unforced on_neck on_neck' pressing pressing' setup start
    start_rules fresh state_of put step step_rules call_rules result_rules setup_rules place_ok length_ok between inside height_ok displacement_ok contact_ok
    force_ok gradients gradient root greatest moves worked_step clear cleared kept let_go settled some_pull dropped totals pulls left next_state A c
    system rounded₁ rounded₂ nearest floor plus minus times zip_with D1 dot E sum stored_energy work residuals dot_all rounding_work fraction frame
    round
checked-by-hand = refl
