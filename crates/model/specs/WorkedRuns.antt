-- Worked bends, slides and runs: one of steps alone, one with bends and slides between steps, accepted and refused. The numbers are from an
-- implementation in exact fractions that was written from 01 and 02.
use Rattle.std.specs.Prelude.{◌≡◌, refl, ℕ, ℤ, pos, neg_ℤ}
use mathlib.Core.List.{List, [], ◌∷◌, map, zip_with}
use Rattle.integers.specs.Sum.{sum}
use Rattle.model.specs.Ranges.{between, inside, displacement_ok, contact_ok, force_ok, height_ok}
use Rattle.model.specs.Refusal.{accepted, refused}
use Rattle.model.specs.Setup.{setup, setup_rules, place_ok, length_ok}
use Rattle.model.specs.Changes.{bend, slide}
use Rattle.model.specs.Differences.{plus, minus, times, D1, dot, E}
use Rattle.model.specs.Gradient.{gradient, root, greatest}
use Rattle.model.specs.Rounding.{nearest, floor}
use Rattle.model.specs.System.{rounded₁, rounded₂}
use Rattle.model.specs.State.{state_of, put, Neck}
use Rattle.model.specs.Step.{gradients, moves, worked_step, next_state, A, c, system, call_rules, result_rules, step_rules, step, clear, cleared, kept, let_go, settled, some_pull, dropped, totals, pulls, left}
use Rattle.model.specs.Energy as Energy
use Rattle.model.specs.Energy.{stored_energy, released, residuals, limits, dot_all}
use Rattle.model.specs.Steps.{Voice, voice, accepted_steps}
use Rattle.model.specs.Run.{energy_of, Request, to_step, to_bend, to_slide, taken, entries, last_voice, bend_work, work, loss, rounding_work, rounding_limit, total}
use Rattle.model.specs.Bench.{bench_setup, flat_neck, finger, resting_finger, one_point, forces}
use Rattle.model.specs.declared.Setup.{Setup}
use Rattle.model.specs.Worked.{worked_setup, worked_neck, before}

-- ---- a bend and a slide of the worked setup

-- with its L = 1500 and p = 2 replaced
abbrev changed_setup : (L p : ℕ) → Setup
changed_setup L p = record {
  segments = 5;
  tension = L;
  stiffness = 300;
  viscous = 250;
  plain = 70;
  finger = record { place = p; stiffness = 40000; mass = 3000 };
  pluck_place = 3;
  bridge_place = 1;
  neck_place = 4;
}

-- the sum rule leaves room up to 2396
changes-are : bend worked_setup 2396 ∷ bend worked_setup 2397 ∷ slide worked_setup 4 ∷ slide worked_setup 5 ∷ []
    ≡ accepted (changed_setup 2396 2) ∷ refused 3 ∷ accepted (changed_setup 1500 4) ∷ refused 4 ∷ []
unfolding bend slide setup setup_rules place_ok between
changes-are = refl

-- ---- runs

-- work, loss, rounding work and its bound, stored energy after it
sums : Neck → Voice → List Request → List ℤ
sums neck v qs = let es = entries neck v qs in total work es ∷ total loss es ∷ total rounding_work es ∷ total rounding_limit es ∷ energy_of (last_voice neck v qs) ∷ []

-- of the bench voice with L = 100, M = 10, S = 50 and Z = 100, its second step refused
steps-are : sums (flat_neck 0) (voice (bench_setup 100 10 50 100 0) (one_point (pos 0) (pos 0) (pos 0) 0 resting_finger)) (to_step (forces (pos 409600) (pos 777)) ∷ to_step (forces (pos 2000000000) (pos 0)) ∷ to_step (forces (pos 0) (pos 0)) ∷ [])
    ≡ pos 80281600 ∷ pos 12927900 ∷ neg_ℤ (pos 280680) ∷ pos 1179076 ∷ pos 67073020 ∷ []
unfolding sums entries last_voice taken bend slide setup accepted_steps total bend_work step step_rules call_rules result_rules setup_rules place_ok length_ok between inside height_ok
    displacement_ok contact_ok force_ok state_of put worked_step clear cleared kept let_go settled some_pull dropped totals pulls left next_state gradients
    gradient root greatest moves A c system rounded₁ rounded₂ nearest floor plus minus times zip_with D1 dot E sum Energy.loss released Energy.work
    residuals limits dot_all Energy.rounding_work Energy.rounding_limit stored_energy
steps-are = refl

-- of one point at 3, before at 5, a bend from L = 100 to 300: E(u, v) is 30, so the work 12,000, from a stored energy of 38,768
bend_is : sums (flat_neck 0) (voice (bench_setup 100 0 0 0 0) (one_point (pos 3) (pos 5) (pos 0) 0 resting_finger)) (to_bend 300 ∷ []) ≡ pos 12000 ∷ pos 0 ∷ pos 0 ∷ pos 0 ∷ pos 50768 ∷ []
unfolding sums entries last_voice taken bend slide setup accepted_steps total bend_work step step_rules call_rules result_rules setup_rules place_ok length_ok between inside height_ok
    displacement_ok contact_ok force_ok state_of put worked_step clear cleared kept let_go settled some_pull dropped totals pulls left next_state gradients
    gradient root greatest moves A c system rounded₁ rounded₂ nearest floor plus minus times zip_with D1 dot E sum Energy.loss released Energy.work
    residuals limits dot_all Energy.rounding_work Energy.rounding_limit stored_energy
bend_is = refl

-- the worked voice at turn 7: the second buffer is newer
mixed-voice : Voice
mixed-voice = voice worked_setup record { first = before.older; second = before.newer; contact = before.contact; turn = 7; finger = before.finger }

-- steps, bends and slides under the finger and on the neck; the bend to 2397 and the slide to 5 are refused, with 3 and 4
mixed : List Request
mixed =
    to_step (forces (pos 12345) (neg_ℤ (pos 6789))) ∷ to_bend 1800 ∷ to_step (forces (neg_ℤ (pos 2500)) (pos 4000)) ∷ to_slide 3 ∷ to_step (forces (pos 0) (pos 0))
    ∷ to_bend 2397 ∷ to_slide 5 ∷ to_bend 700 ∷ to_step (forces (pos 7) (neg_ℤ (pos 9))) ∷ []

-- the work of each accepted call
works-are : map work (entries worked_neck mixed-voice mixed) ≡ pos 2552784 ∷ neg_ℤ (pos 15883800) ∷ pos 100000 ∷ pos 0 ∷ pos 0 ∷ neg_ℤ (pos 3803800) ∷ neg_ℤ (pos 330) ∷ []
unfolding mixed-voice mixed sums entries last_voice taken bend slide setup accepted_steps total bend_work step step_rules call_rules result_rules setup_rules place_ok length_ok between inside height_ok
    displacement_ok contact_ok force_ok state_of put worked_step clear cleared kept let_go settled some_pull dropped totals pulls left next_state gradients
    gradient root greatest moves A c system rounded₁ rounded₂ nearest floor plus minus times zip_with D1 dot E sum Energy.loss released Energy.work
    residuals limits dot_all Energy.rounding_work Energy.rounding_limit stored_energy
works-are = refl

mixed_is : sums worked_neck mixed-voice mixed ≡ neg_ℤ (pos 17035146) ∷ pos 856701608 ∷ neg_ℤ (pos 10345832) ∷ pos 60836632 ∷ pos 140323738 ∷ []
unfolding mixed-voice mixed sums entries last_voice taken bend slide setup accepted_steps total bend_work step step_rules call_rules result_rules setup_rules place_ok length_ok between inside height_ok
    displacement_ok contact_ok force_ok state_of put worked_step clear cleared kept let_go settled some_pull dropped totals pulls left next_state gradients
    gradient root greatest moves A c system rounded₁ rounded₂ nearest floor plus minus times zip_with D1 dot E sum Energy.loss released Energy.work
    residuals limits dot_all Energy.rounding_work Energy.rounding_limit stored_energy
mixed_is = refl

-- the voice after it
last_is : last_voice worked_neck mixed-voice mixed ≡ voice (changed_setup 700 3) record {
  first = neg_ℤ (pos 22) ∷ pos 84 ∷ pos 40 ∷ neg_ℤ (pos 29) ∷ [];
  second = pos 33 ∷ pos 40 ∷ pos 36 ∷ pos 12 ∷ [];
  contact = pos 1424 ∷ pos 0 ∷ pos 0 ∷ pos 1680 ∷ [];
  turn = 1;
  finger = finger (pos 80) (neg_ℤ (pos 32)) (pos 1275);
}
unfolding mixed-voice mixed sums entries last_voice taken bend slide setup accepted_steps total bend_work step step_rules call_rules result_rules setup_rules place_ok length_ok between inside height_ok
    displacement_ok contact_ok force_ok state_of put worked_step clear cleared kept let_go settled some_pull dropped totals pulls left next_state gradients
    gradient root greatest moves A c system rounded₁ rounded₂ nearest floor plus minus times zip_with D1 dot E sum Energy.loss released Energy.work
    residuals limits dot_all Energy.rounding_work Energy.rounding_limit stored_energy
last_is = refl
