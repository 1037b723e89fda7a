-- The hypotheses of the promises can be met.
use Rattle.std.specs.Prelude.{◌≡◌, refl, pos, neg_ℤ, replicate}
use Rattle.std.proofs.Common.{ap, lit≤}
use mathlib.Core.List.{[], ◌∷◌, zip_with}
use Rattle.std.specs.Float.{nan}
use Rattle.std.specs.Float.Ieee.{round}
use Rattle.model.specs.Ranges.{between, inside, displacement_ok, contact_ok, force_ok, height_ok}
use Rattle.integers.specs.Sum.{sum}
use Rattle.model.specs.Refusal.{accepted}
use Rattle.model.specs.Setup.{setup, setup_rules, place_ok, length_ok}
use Rattle.model.specs.Changes.{bend}
use Rattle.model.specs.Neck.{Plan, neck_rules, laid, lay}
use Rattle.model.specs.Differences.{plus, minus, times, D1, dot, E}
use Rattle.model.specs.Gradient.{gradient, root, greatest}
use Rattle.model.specs.Rounding.{nearest, floor}
use Rattle.model.specs.System.{rounded₁, rounded₂}
use Rattle.model.specs.Fraction.{fraction}
use Rattle.model.specs.State.{Lent, state_of, put, Neck}
use Rattle.model.specs.Step.{gradients, clear, cleared, kept, let_go, moves, A, c, system, next_state, pulls, left, totals, some_pull, dropped, settled, worked_step, call_rules, result_rules, step_rules, frame, step}
use Rattle.model.specs.Start.{fresh, start_rules, start}
use Rattle.model.specs.Steps.{voice}
use Rattle.model.specs.Energy.{stored_energy}
use Rattle.model.specs.Run.{to_step, to_bend, to_slide}
use Rattle.model.specs.Book.{Columns, new_book, column_ok}
use Rattle.model.specs.Booking.{booked_rules, booked_step, bent_rules, booked_bend}
use Rattle.model.specs.BookedRun.{keeping, last_kept}
use Rattle.model.specs.Frets.{is_distance, distance, fret_place, fret_places, fret_rules, frets}
use Rattle.model.specs.Bench.{bench_setup, bench, flat_neck, finger, resting_finger, one_point, forces}
use Rattle.promises.specs.Promises.{PlaysNoPart, NonePulls}
use Rattle.promises.specs.Energy.{Run}
use Rattle.promises.specs.Book.{BookedRun, NeverFull}
use Rattle.promises.specs.Frets.{IsFret, IsFretList}
use Rattle.laws.proofs.Demands.{no-contact-pulls, demand3, energy-book, booked-calls, fret-rule, fret-lists, longer-samples}

-- ---- demand 3, all at once: the neck is laid with another setup than the one that plays; the second step, the first bend and the first slide are refused

plan : Plan
plan = record { board = pos 0 ∷ []; board_stiffness = 7; frets = 1 ∷ []; tip = pos 0; fret_stiffness = 64 }

witness : Run (flat_neck 64) (voice bench (one_point (pos 0) (pos 0) (pos 0) 0 resting_finger)) (to_step (forces (pos 2048) (pos 0)) ∷ to_step (forces (pos 2000000000) (pos 0)) ∷ to_bend 0 ∷ to_bend 100 ∷ to_slide 2 ∷ to_slide 1 ∷ to_step (forces (pos 0) (pos 0)) ∷ [])
unfolding plan setup setup_rules place_ok length_ok between inside displacement_ok height_ok lay neck_rules laid start start_rules fresh
witness = demand3 bench refl (bench_setup 1 0 0 0 9) refl refl plan (pos 3 ∷ []) (5 ∷ []) (flat_neck 64) refl (pos 7 ∷ []) (pos 8 ∷ []) (pos 9 ∷ []) (pos 0) (pos 0) (one_point (pos 0) (pos 0) (pos 0) 0 resting_finger) refl _

-- ---- 02, item 6: a book over the same calls, and a booked step and a booked bend that are accepted

book : let v = one_point (pos 0) (pos 0) (pos 0) 0 resting_finger in let k = keeping (voice bench v) (new_book bench (state_of v)) in
    let qs = to_step (forces (pos 2048) (pos 0)) ∷ to_step (forces (pos 2000000000) (pos 0)) ∷ to_bend 0 ∷ to_bend 100 ∷ to_slide 2 ∷ to_slide 1 ∷ to_step (forces (pos 0) (pos 0)) ∷ [] in
    BookedRun (flat_neck 64) k qs × NeverFull (flat_neck 64) (last_kept (flat_neck 64) k qs)
unfolding setup setup_rules place_ok length_ok between inside displacement_ok start start_rules fresh
book = energy-book bench (pos 7 ∷ []) (pos 8 ∷ []) (pos 9 ∷ []) (pos 0) (pos 0) (one_point (pos 0) (pos 0) (pos 0) 0 resting_finger) refl (flat_neck 64) _

abbrev empty : Columns
empty = new_book bench (state_of (one_point (pos 0) (pos 0) (pos 0) 0 resting_finger))

step-booked : let v = one_point (pos 0) (pos 0) (pos 0) 0 resting_finger in let F = forces (pos 4096) (pos 0) in (step bench (flat_neck 0) v F).lent ≡ (booked_step bench (flat_neck 0) v empty F).lent
unfolding setup_rules place_ok length_ok between inside displacement_ok contact_ok force_ok height_ok column_ok booked_step booked_rules call_rules result_rules state_of put frame fraction round worked_step clear
    cleared kept let_go settled some_pull dropped totals pulls left next_state gradients gradient root greatest moves A c system rounded₁ rounded₂ nearest floor plus minus times zip_with D1 stored_energy
    dot E sum
step-booked = ap (λ r. r.lent) (booked-calls.steps bench (flat_neck 0) (one_point (pos 0) (pos 0) (pos 0) 0 resting_finger) empty (forces (pos 4096) (pos 0)) _ refl).0

bend-booked : bend bench 100 ≡ accepted (bench_setup 100 0 0 0 0)
unfolding setup_rules place_ok length_ok between inside displacement_ok contact_ok column_ok booked_bend bent_rules state_of stored_energy minus zip_with D1 dot E sum
bend-booked = (booked-calls.bends bench (bench_setup 100 0 0 0 0) (one_point (pos 0) (pos 0) (pos 0) 0 resting_finger) empty 100 refl).0

-- ---- 02, item 1: two frames, the second refused, and three samples more

surplus : PlaysNoPart bench (flat_neck 64) (one_point (pos 0) (pos 0) (pos 0) 0 resting_finger) (pos 2048 ∷ pos 0 ∷ pos 2000000000 ∷ pos 0 ∷ []) (replicate 4 nan) (replicate 3 nan)
surplus = longer-samples.surplus _ _ _ _ (replicate 4 nan) (replicate 3 nan) refl

-- ---- 02, item 3: a step in which both contacts pull at first is accepted
abbrev neck : Neck
neck = record { heights = neg_ℤ (pos 4) ∷ []; stiffness = 65535 ∷ [] }

abbrev lent : Lent
lent = one_point (neg_ℤ (pos 26)) (neg_ℤ (pos 58)) (pos 127) 0 (finger (neg_ℤ (pos 46)) (neg_ℤ (pos 67)) (pos 26))

together : let s = bench_setup 4000 0 0 0 64 in let F = forces (pos 0) (pos 0) in NonePulls (worked_step s neck (state_of lent) F) (state_of (step s neck lent F).lent)
unfolding setup_rules place_ok length_ok between inside displacement_ok contact_ok force_ok height_ok step step_rules call_rules result_rules state_of put frame fraction round worked_step clear
    cleared kept let_go settled some_pull dropped totals pulls left next_state gradients gradient root greatest moves A c system rounded₁ rounded₂ nearest floor plus minus times zip_with D1
together = no-contact-pulls (bench_setup 4000 0 0 0 64) neck lent (forces (pos 0) (pos 0)) _ refl

-- ---- 02, item 7: the last fret of 90 segments, a tie, and the only fret that 9 segments can have

fret : IsFret 90 24 (fret_place 90 24)
fret = fret-rule.placed 90 24 (lit≤ tt) (lit≤ tt) (lit≤ tt) (lit≤ tt)

fret-list : IsFretList 9 1 (frets 9 1 (7 ∷ [])).places
unfolding frets fret_rules fret_places fret_place distance is_distance greatest between
fret-list = fret-lists 9 1 (7 ∷ []) refl
