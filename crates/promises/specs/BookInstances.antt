-- Closed instances of the book's claims over lists, by computation alone, with numbers that a wrong claim would fail.
use Rattle.std.specs.Prelude.{refl, pos, neg_ℤ}
use mathlib.Core.List.{List, [], ◌∷◌, zip_with}
use Rattle.std.specs.Float.Ieee.{round}
use Rattle.integers.specs.Sum.{sum}
use Rattle.model.specs.Ranges.{between, inside, displacement_ok, contact_ok, force_ok, height_ok}
use Rattle.model.specs.Setup.{setup, setup_rules, place_ok, length_ok}
use Rattle.model.specs.Changes.{bend, slide}
use Rattle.model.specs.Differences.{plus, minus, times, D1, dot, E}
use Rattle.model.specs.Gradient.{gradient, root, greatest}
use Rattle.model.specs.Rounding.{nearest, floor}
use Rattle.model.specs.System.{rounded₁, rounded₂}
use Rattle.model.specs.State.{state_of, put}
use Rattle.model.specs.Step.{gradients, A, c, system, moves, worked_step, next_state, call_rules, result_rules, step_rules, frame_of, frame, step, clear, cleared, kept, let_go, settled, some_pull, dropped, totals, pulls, left}
use Rattle.model.specs.Energy as Energy
use Rattle.model.specs.Energy.{stored_energy, dot_all, released, residuals}
use Rattle.model.specs.Steps.{Voice, voice, accepted_steps}
use Rattle.model.specs.Run.{Request, to_step, to_bend, to_slide, taken, entries, last_voice, bend_work, total}
use Rattle.model.specs.Fraction.{fraction}
use Rattle.model.specs.Book.{Columns, new_book, column_ok}
use Rattle.model.specs.Booking.{booked_rules, booked_step, bent_rules, booked_bend}
use Rattle.model.specs.BookedRun.{Kept, keeping, booked, last_kept, accepted_requests, steps}
use Rattle.model.specs.Bench.{bench_setup, flat_neck, finger, one_point, forces}
use Rattle.promises.specs.Book.{StepBooked, BendBooked, Books, BookedRun}
use Rattle.promises.specs.Instances.{equal}

-- with losses, the string at 3 and before at 5, and a variable that is cleared: its loss is 50
unfoldable start : Voice
start = voice (bench_setup 100 10 50 100 0) (one_point (pos 3) (pos 5) (pos 5) 0 (finger (pos 0) (pos 8) (pos 0)))

-- a bend with the work 12,000, a step that is refused and one that is not, a slide, and a bend that is refused
unfoldable calls : List Request
calls = to_bend 300 ∷ to_step (forces (pos 2000000000) (pos 0)) ∷ to_step (forces (pos 409600) (pos 777)) ∷ to_slide 1 ∷ to_bend 0 ∷ []

abbrev other : Columns
other = record { stored = pos 1; work = pos 2; loss = pos 3; rounding = pos 4; count = 5 }

abbrev opened : Kept
opened = keeping start (new_book start.setup (state_of start.lent))

books : let k = last_kept (flat_neck 0) opened calls in Books start k.voice k.book (entries (flat_neck 0) start (accepted_requests (flat_neck 0) opened calls))
unfolding start calls last_kept accepted_requests booked steps entries last_voice taken bend slide setup accepted_steps total bend_work booked_step booked_bend booked_rules bent_rules state_of put stored_energy
    Energy.loss released Energy.work residuals Energy.rounding_work dot_all step step_rules call_rules result_rules setup_rules place_ok length_ok between inside height_ok displacement_ok
    contact_ok force_ok column_ok worked_step clear cleared kept let_go settled some_pull dropped totals pulls left gradients gradient root greatest moves A c system rounded₁ rounded₂
    nearest floor next_state frame plus minus times zip_with D1 dot E sum
books = record {
  stored = equal (pos 73930908) refl refl;
  work = equal (pos 76172736) refl refl;
  loss = equal (pos 2594750) refl refl;
  rounding = equal (neg_ℤ (pos 210984)) refl refl;
  count = equal 1 refl refl;
  balance = equal (pos 73930908) refl refl;
}

-- of the bend and the step that is refused
kept-book : BookedRun (flat_neck 0) opened (to_bend 300 ∷ to_step (forces (pos 2000000000) (pos 0)) ∷ [])
unfolding start last_kept accepted_requests booked steps entries last_voice taken bend slide setup accepted_steps total bend_work booked_step booked_bend booked_rules bent_rules state_of put stored_energy
    Energy.loss released Energy.work residuals Energy.rounding_work dot_all step step_rules call_rules result_rules setup_rules place_ok length_ok between inside height_ok displacement_ok
    contact_ok force_ok column_ok worked_step clear cleared kept let_go settled some_pull dropped totals pulls left gradients gradient root greatest moves A c system rounded₁ rounded₂
    nearest floor next_state frame plus minus times zip_with D1 dot E sum
kept-book = record {
  same = equal (voice (bench_setup 300 10 50 100 0) (one_point (pos 3) (pos 5) (pos 5) 0 (finger (pos 0) (pos 8) (pos 0)))) refl refl;
  books = record { stored = equal (pos 575906) refl refl; work = equal (pos 12000) refl refl; loss = refl; rounding = refl; count = refl; balance = equal (pos 575906) refl refl };
  whole = λ l. (refl, refl);
}

-- a pluck of 4096 on the bench voice, entered in a book that began elsewhere
step-booked : StepBooked (bench_setup 4096 0 0 0 0) (flat_neck 0) (one_point (pos 0) (pos 0) (pos 0) 0 (finger (pos 0) (pos 0) (pos 0))) other (forces (pos 4096) (pos 0)) (frame_of (pos 1) (pos 1))
unfolding fraction round last_kept accepted_requests booked steps entries last_voice taken bend slide setup accepted_steps total bend_work booked_step booked_bend booked_rules bent_rules state_of put stored_energy
    Energy.loss released Energy.work residuals Energy.rounding_work dot_all step step_rules call_rules result_rules setup_rules place_ok length_ok between inside height_ok displacement_ok
    contact_ok force_ok column_ok worked_step clear cleared kept let_go settled some_pull dropped totals pulls left gradients gradient root greatest moves A c system rounded₁ rounded₂
    nearest floor next_state frame plus minus times zip_with D1 dot E sum
step-booked = (refl, equal (record { stored = pos 8192; work = pos 8194; loss = pos 3; rounding = pos 4; count = 6 }) refl refl)

-- the bend above, in that book
bend-booked : BendBooked start.setup start.lent other 300 (bench_setup 300 10 50 100 0)
unfolding start last_kept accepted_requests booked steps entries last_voice taken bend slide setup accepted_steps total bend_work booked_step booked_bend booked_rules bent_rules state_of put stored_energy
    Energy.loss released Energy.work residuals Energy.rounding_work dot_all step step_rules call_rules result_rules setup_rules place_ok length_ok between inside height_ok displacement_ok
    contact_ok force_ok column_ok worked_step clear cleared kept let_go settled some_pull dropped totals pulls left gradients gradient root greatest moves A c system rounded₁ rounded₂
    nearest floor next_state frame plus minus times zip_with D1 dot E sum
bend-booked = (refl, equal (record { stored = pos 575906; work = pos 12002; loss = pos 3; rounding = pos 4; count = 5 }) refl refl)
