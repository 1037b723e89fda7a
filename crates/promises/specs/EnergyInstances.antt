-- Closed instances of demand 3, by computation alone, with numbers that a wrong claim would fail.
use Rattle.std.specs.Prelude.{◌≡◌, refl, ℕ, zero, suc, T, ltb, ℤ, pos, neg_ℤ, nat_abs, replicate}
use mathlib.Core.List.{[], ◌∷◌, zip_with}
use Rattle.std.specs.Int.Signed.{le_z_yes}
use Rattle.integers.specs.Filled.{get_d_replicate}
use Rattle.integers.specs.Sum.{sum}
use Rattle.model.specs.Ranges.{between, inside, displacement_ok, contact_ok, force_ok, height_ok}
use Rattle.model.specs.Setup.{setup, setup_rules, place_ok, length_ok}
use Rattle.model.specs.Differences.{at, plus, minus, times, D1, dot, E}
use Rattle.model.specs.Gradient.{gradient, root, greatest}
use Rattle.model.specs.Rounding.{nearest, floor}
use Rattle.model.specs.System.{rounded₁, rounded₂}
use Rattle.model.specs.State.{state_of, put, Neck}
use Rattle.model.specs.Step.{WorkedStep, gradients, A, c, system, moves, worked_step, next_state, call_rules, result_rules, step_rules, frame, step, clear, cleared, kept, let_go, settled, some_pull, dropped, totals, pulls, left}
use Rattle.model.specs.Energy as Energy
use Rattle.model.specs.Energy.{stored_energy, dot_all, released, residuals, limits}
use Rattle.model.specs.Steps.{Voice, voice, accepted_steps}
use Rattle.model.specs.Bench.{bench_setup, flat_neck, finger, resting_finger, one_point, forces}
use Rattle.model.specs.Changes.{bend, slide}
use Rattle.model.specs.Run.{to_step, to_bend, to_slide, taken, entries, last_voice, bend_work, total}
use Rattle.promises.specs.Energy.{ClearsNothing, Unforced, Run}
use Rattle.promises.specs.Instances.{none, stiff_neck, clinging, equal}
use Rattle.promises.specs.Promises.{Every}

abbrev bench_voice : (L M S Z K : ℕ) (w' : ℤ) → Voice
bench_voice L M S Z K w' = record { setup = bench_setup L M S Z K; lent = one_point (pos 0) (pos 0) (pos 0) 0 (finger (pos 0) w' (pos 0)) }

-- one point at 3, before at 5, without loss and force
unfoldable bendable : Voice
bendable = voice (bench_setup 100 0 0 0 0) (one_point (pos 3) (pos 5) (pos 0) 0 resting_finger)

-- out of reach of the string
unfoldable far_neck : Neck
far_neck = record { heights = neg_ℤ (pos 1000) ∷ neg_ℤ (pos 1000) ∷ []; stiffness = 0 ∷ 0 ∷ [] }

-- N = 3 without loss, the string under the finger at place 1
unfoldable pressing : Voice
pressing = voice record {
  segments = 3;
  tension = 1000;
  stiffness = 0;
  viscous = 0;
  plain = 0;
  finger = record { place = 1; stiffness = 300; mass = 500 };
  pluck_place = 1;
  bridge_place = 1;
  neck_place = 2;
} record { first = pos 37 ∷ pos 28 ∷ []; second = pos 36 ∷ pos 22 ∷ []; contact = pos 0 ∷ pos 0 ∷ []; turn = 0; finger = finger (neg_ℤ (pos 29)) (neg_ℤ (pos 25)) (pos 493) }

-- a force or a loss that is not 0
forced : {f : ℤ} {C : Type 0} → f ≡ pos 0 → T (ltb 0 (nat_abs f)) → C
forced {f} q t = absurd (rw q at t)

-- of n points
nothing : {t : WorkedStep} (n : ℕ) → t.cleared ≡ record { points = replicate n (pos 0); finger = pos 0 } → ClearsNothing t
nothing n q = rw q record { point = go; finger = refl }
  where
    go : (i : ℕ) → at (replicate n (pos 0)) i ≡ pos 0
    go zero = refl
    go (suc k) = get_d_replicate n (pos 0) k

runs :
    -- at rest the energy is 0
    Run (flat_neck 0) (bench_voice 4096 0 0 0 0 (pos 0)) []
    -- a pluck of 6144 is a tie, and moves by 2: its doubled residual and its rounding work reach their limits
    × Run (flat_neck 0) (bench_voice 4096 0 0 0 0 (pos 0)) (to_step (forces (pos 6144) (pos 0)) ∷ [])
    -- with losses, and a refused step in between
    × Run (flat_neck 0) (bench_voice 100 10 50 100 0 (pos 0)) (to_step (forces (pos 409600) (pos 777)) ∷ to_step (forces (pos 2000000000) (pos 0)) ∷ to_step none ∷ [])
    -- lossless and unforced: the finger strikes the string, and rounding changes the stored energy, 524,288, by 512
    × Run (flat_neck 0) (bench_voice 1 0 0 0 65535 (pos 8)) (to_step none ∷ to_step none ∷ to_step none ∷ [])
    -- lossless and unforced, and a tie: the stored energy rises from 37,748,736 by 8192, which is its bound
    × Run (flat_neck 0) (voice (bench_setup 1 0 0 0 0) (one_point (neg_ℤ (pos 3072)) (neg_ℤ (pos 3072)) (pos 0) 0 resting_finger)) (to_step none ∷ [])
    -- ψ = 5 is cleared at depth 0: the loss is 50
    × Run (flat_neck 0) (voice (bench_setup 1 0 0 0 0) (one_point (pos 0) (pos 0) (pos 5) 0 resting_finger)) (to_step none ∷ [])
    -- both contacts pull, and are dropped: the residuals are read without them
    × Run stiff_neck clinging (to_step none ∷ [])
    -- a bend from L = 100 to 300 at E(u, v) = 30: its work is 12,000, and the run is not an unforced one, though no force acts
    × Run (flat_neck 0) bendable (to_bend 300 ∷ [])
    -- with losses: a bend to 3000, and a step and a bend that are refused
    × Run (flat_neck 0) (bench_voice 100 10 50 100 0 (pos 0)) (to_step (forces (pos 409600) (pos 777)) ∷ to_step none ∷ to_bend 3000 ∷ to_step (forces (pos 2000000000) (pos 0)) ∷ to_bend 0 ∷ to_step none ∷ [])
    -- lossless and unforced: the finger slides from place 1 to place 2 in contact, and a bend is refused
    × Run far_neck pressing (to_step none ∷ to_slide 2 ∷ to_bend 4097 ∷ to_step none ∷ [])
unfolding none stiff_neck clinging bendable far_neck pressing entries last_voice taken bend slide setup accepted_steps total bend_work state_of put stored_energy Energy.loss released Energy.work residuals limits Energy.rounding_work Energy.rounding_limit
    dot_all step step_rules call_rules result_rules setup_rules place_ok length_ok between inside height_ok displacement_ok contact_ok force_ok worked_step
    clear cleared kept let_go settled some_pull dropped totals pulls left gradients gradient root greatest moves A c system rounded₁ rounded₂ nearest
    floor next_state frame plus minus times zip_with D1 dot E sum
runs = (
  record { never-negative = le_z_yes tt; exact = refl; limited = tt; bounded = le_z_yes tt; conserved = λ l u. le_z_yes tt; lossless = λ l. tt },
  record { never-negative = le_z_yes tt; exact = equal (pos 32768) refl refl; limited = (record { points = (le_z_yes tt, tt); finger = le_z_yes tt }, tt); bounded = le_z_yes tt; conserved = λ l u. forced u.0.pluck tt; lossless = λ l. (nothing 1 refl, tt) },
  record {
    never-negative = le_z_yes tt;
    exact = equal (pos 67073020) refl refl;
    limited = (record { points = (le_z_yes tt, tt); finger = le_z_yes tt }, (record { points = (le_z_yes tt, tt); finger = le_z_yes tt }, tt));
    bounded = le_z_yes tt;
    conserved = λ l u. forced u.0.pluck tt;
    lossless = λ l. (nothing 1 refl, (nothing 1 refl, tt));
  },
  record {
    never-negative = le_z_yes tt;
    exact = equal (pos 524800) refl refl;
    limited = (record { points = (le_z_yes tt, tt); finger = le_z_yes tt }, (record { points = (le_z_yes tt, tt); finger = le_z_yes tt }, (record { points = (le_z_yes tt, tt); finger = le_z_yes tt }, tt)));
    bounded = le_z_yes tt;
    conserved = λ l u. le_z_yes tt;
    lossless = λ l. (nothing 1 refl, (nothing 1 refl, (nothing 1 refl, tt)));
  },
  record { never-negative = le_z_yes tt; exact = equal (pos 37756928) refl refl; limited = (record { points = (le_z_yes tt, tt); finger = le_z_yes tt }, tt); bounded = le_z_yes tt; conserved = λ l u. le_z_yes tt; lossless = λ l. (nothing 1 refl, tt) },
  record { never-negative = le_z_yes tt; exact = equal (pos 0) refl refl; limited = (record { points = (le_z_yes tt, tt); finger = le_z_yes tt }, tt); bounded = le_z_yes tt; conserved = λ l u. forced l tt; lossless = λ l. forced l tt },
  record { never-negative = le_z_yes tt; exact = equal (pos 36368970) refl refl; limited = (record { points = (le_z_yes tt, tt); finger = le_z_yes tt }, tt); bounded = le_z_yes tt; conserved = λ l u. le_z_yes tt; lossless = λ l. (nothing 1 refl, tt) },
  record { never-negative = le_z_yes tt; exact = equal (pos 50768) refl refl; limited = (tt, tt); bounded = le_z_yes tt; conserved = λ l u. absurd u.0; lossless = λ l. (tt, tt) },
  record {
    never-negative = le_z_yes tt;
    exact = equal (pos 271752112) refl refl;
    limited = (record { points = (le_z_yes tt, tt); finger = le_z_yes tt }, (record { points = (le_z_yes tt, tt); finger = le_z_yes tt }, (tt, (record { points = (le_z_yes tt, tt); finger = le_z_yes tt }, tt))));
    bounded = le_z_yes tt;
    conserved = λ l u. absurd u.1.1.0;
    lossless = λ l. (nothing 1 refl, (nothing 1 refl, (tt, (nothing 1 refl, tt))));
  },
  record {
    never-negative = le_z_yes tt;
    exact = equal (pos 4850578) refl refl;
    limited = (record { points = (le_z_yes tt, (le_z_yes tt, tt)); finger = le_z_yes tt }, (tt, (record { points = (le_z_yes tt, (le_z_yes tt, tt)); finger = le_z_yes tt }, tt)));
    bounded = le_z_yes tt;
    conserved = λ l u. le_z_yes tt;
    lossless = λ l. (nothing 2 refl, (tt, (nothing 2 refl, tt)));
  },
)

-- a slide leaves a run unforced, a bend does not, even one to the same L
unforced : Every Unforced (entries far_neck pressing (to_step none ∷ to_slide 2 ∷ [])) × (Every Unforced (entries (flat_neck 0) bendable (to_bend 100 ∷ [])) → ⊥)
unfolding none bendable far_neck pressing entries last_voice taken bend slide setup accepted_steps total bend_work state_of put stored_energy Energy.loss released Energy.work residuals limits Energy.rounding_work Energy.rounding_limit
    dot_all step step_rules call_rules result_rules setup_rules place_ok length_ok between inside height_ok displacement_ok contact_ok force_ok worked_step
    clear cleared kept let_go settled some_pull dropped totals pulls left gradients gradient root greatest moves A c system rounded₁ rounded₂ nearest
    floor next_state frame plus minus times zip_with D1 dot E sum
unforced = ((record { pluck = refl; finger = refl }, (tt, tt)), λ u. u.0)
