-- 01, 'What each operation turns down', at its boundaries: the order of each entry's numbers, for all arguments, and the last number inside and
-- the first outside of each range, computed.
use Rattle.std.specs.Prelude.{◌≡◌, ℕ, ◌+◌, ℤ, pos, neg_ℤ, Float, replicate, false}
use Rattle.std.proofs.Math.Path.{refl}
use mathlib.Core.List.{List, [], ◌∷◌, ◌++◌, zip_with}
use Rattle.std.specs.Float.{fin}
use Rattle.integers.specs.Filled.{tabulate}
use Rattle.model.specs.Ranges.{between, inside, displacement_ok, contact_ok, force_ok, height_ok}
use Rattle.model.specs.Refusal.{first_of, numbers, Answer, accepted, refused}
use Rattle.model.specs.Setup.{setup, setup_rules, place_ok, length_ok}
use Rattle.model.specs.Changes.{with_place, bend, slide}
use Rattle.model.specs.Differences.{plus, minus, times, D1}
use Rattle.model.specs.Gradient.{gradient, root, greatest}
use Rattle.model.specs.Rounding.{nearest, floor}
use Rattle.model.specs.System.{rounded₁, rounded₂}
use Rattle.model.specs.State.{State, Lent, state_of, Forces, Neck}
use Rattle.model.specs.Neck.{Plan, neck_rules}
use Rattle.model.specs.Frets.{fret_rules}
use Rattle.model.specs.Start.{start_rules}
use Rattle.model.specs.Step.{step_rules, call_rules, result_rules, gradients, moves, worked_step, next_state, A, c, system, clear, cleared, kept, let_go, settled, some_pull, dropped, totals, pulls, left}
use Rattle.model.specs.Book.{Columns}
use Rattle.model.specs.Booking.{booked_rules, bent_rules}
use Rattle.model.specs.Block.{block_rules}
use Rattle.model.specs.Reading.{reading_rules}
use Rattle.model.specs.Table.{Line, ◌gives◌, Right}
use Rattle.model.specs.Bench.{bench_setup, bench, finger, resting_finger, one_point, forces}
use Rattle.model.specs.declared.Setup.{Setup}

-- ---- the order, for all arguments

module _ (s : Setup) where
  pub setup-order : numbers (setup_rules s) ≡ 1 ∷ 2 ∷ 3 ∷ 4 ∷ 5 ∷ []
  unfolding setup_rules
  setup-order = refl

  pub neck-order : (plan : Plan) (heights : List ℤ) (stiffness : List ℕ) → numbers (neck_rules s plan heights stiffness) ≡ 1 ∷ 2 ∷ 3 ∷ 4 ∷ 5 ∷ 6 ∷ 7 ∷ 8 ∷ 9 ∷ []
  unfolding setup_rules neck_rules
  neck-order plan heights stiffness = refl

  pub start-order : (first second contact : List ℤ) (w w' : ℤ) → numbers (start_rules s first second contact w w') ≡ 1 ∷ 2 ∷ 3 ∷ 4 ∷ 5 ∷ 6 ∷ 10 ∷ []
  unfolding setup_rules start_rules
  start-order first second contact w w' = refl

  pub step-order : (neck : Neck) (x : State) (F : Forces) → numbers (step_rules s neck x F) ≡ 1 ∷ 2 ∷ 3 ∷ 4 ∷ 5 ∷ 6 ∷ 7 ∷ 11 ∷ 12 ∷ 13 ∷ 14 ∷ []
  unfolding setup_rules step_rules call_rules result_rules
  step-order neck x F = refl

  pub booked-order : (neck : Neck) (x : State) (b : Columns) (F : Forces)
      → numbers (booked_rules s neck x b F) ≡ 1 ∷ 2 ∷ 3 ∷ 4 ∷ 5 ∷ 6 ∷ 7 ∷ 11 ∷ 12 ∷ 16 ∷ 17 ∷ 13 ∷ 14 ∷ []
  unfolding setup_rules booked_rules call_rules result_rules
  booked-order neck x b F = refl

  pub bent-order : (x : State) (b : Columns) (L' : ℕ) → numbers (bent_rules s x b L') ≡ 1 ∷ 2 ∷ 3 ∷ 4 ∷ 5 ∷ 6 ∷ 11 ∷ 17 ∷ []
  unfolding setup_rules bent_rules
  bent-order x b L' = refl

  pub block-order : (neck : Neck) (v : Lent) (fs : List ℤ) (samples : List Float) → numbers (block_rules s neck v fs samples) ≡ 1 ∷ 2 ∷ 3 ∷ 4 ∷ 5 ∷ 6 ∷ 15 ∷ 7 ∷ 11 ∷ []
  unfolding setup_rules block_rules
  block-order neck v fs samples = refl

  pub reading-order : (heights first second : List ℤ) (turn i : ℕ) → numbers (reading_rules s heights first second turn i) ≡ 1 ∷ 2 ∷ 3 ∷ 4 ∷ 5 ∷ 4 ∷ 6 ∷ 7 ∷ 11 ∷ []
  unfolding setup_rules reading_rules
  reading-order heights first second turn i = refl

pub frets-order : (N n long : ℕ) → numbers (fret_rules N n long) ≡ 1 ∷ 18 ∷ 6 ∷ 19 ∷ []
unfolding fret_rules
frets-order N n long = refl

-- ---- the boundaries

setup_of : (N L M S Z m p e bridge neck : ℕ) → ℕ
setup_of N L M S Z m p e bridge neck = first_of (setup_rules record {
  segments = N;
  tension = L;
  stiffness = M;
  viscous = S;
  plain = Z;
  finger = record { place = p; stiffness = 0; mass = m };
  pluck_place = e;
  bridge_place = bridge;
  neck_place = neck;
})

setup_rows : List (Line ℕ)
setup_rows =
    -- N
    setup_of 1 4096 0 0 0 4096 1 1 1 1 gives 1 ∷ setup_of 2 4096 0 0 0 4096 1 1 1 1 gives 0 ∷ setup_of 128 4096 0 0 0 4096 1 1 1 1 gives 0
    ∷ setup_of 129 4096 0 0 0 4096 1 1 1 1 gives 1
    -- L, M, S, Z
    ∷ setup_of 2 0 0 0 0 4096 1 1 1 1 gives 2 ∷ setup_of 2 1 0 0 0 4096 1 1 1 1 gives 0 ∷ setup_of 2 4097 0 0 0 4096 1 1 1 1 gives 2
    ∷ setup_of 2 1 4097 0 0 4096 1 1 1 1 gives 2 ∷ setup_of 2 1 0 4097 0 4096 1 1 1 1 gives 2 ∷ setup_of 2 1 0 0 4096 4096 1 1 1 1 gives 0
    ∷ setup_of 2 1 0 0 4097 4096 1 1 1 1 gives 2
    -- the sum
    ∷ setup_of 2 1 4096 0 0 4096 1 1 1 1 gives 3 ∷ setup_of 2 1 0 4096 0 4096 1 1 1 1 gives 3 ∷ setup_of 2 4 1021 4 0 4096 1 1 1 1 gives 0
    ∷ setup_of 2 5 1021 4 0 4096 1 1 1 1 gives 3
    -- the places
    ∷ setup_of 9 1 0 0 0 4096 8 8 8 8 gives 0 ∷ setup_of 9 1 0 0 0 4096 0 1 1 1 gives 4 ∷ setup_of 9 1 0 0 0 4096 9 1 1 1 gives 4
    ∷ setup_of 9 1 0 0 0 4096 1 0 1 1 gives 4 ∷ setup_of 9 1 0 0 0 4096 1 9 1 1 gives 4
    ∷ setup_of 9 1 0 0 0 4096 1 1 0 1 gives 4 ∷ setup_of 9 1 0 0 0 4096 1 1 9 1 gives 4 ∷ setup_of 9 1 0 0 0 4096 1 1 1 0 gives 4
    ∷ setup_of 9 1 0 0 0 4096 1 1 1 9 gives 4
    -- the mass
    ∷ setup_of 2 1 0 0 0 0 1 1 1 1 gives 5 ∷ setup_of 2 1 0 0 0 1 1 1 1 1 gives 0 ∷ setup_of 2 1 0 0 0 1048576 1 1 1 1 gives 0
    ∷ setup_of 2 1 0 0 0 1048577 1 1 1 1 gives 5
    -- each number gives way to the one before it
    ∷ setup_of 0 0 4097 4097 4097 0 0 0 0 0 gives 1 ∷ setup_of 2 0 4096 4096 4096 0 0 0 0 0 gives 2 ∷ setup_of 2 1 4096 4096 4096 0 0 0 0 0 gives 3
    ∷ setup_of 2 1 0 0 0 0 0 0 0 0 gives 4
    ∷ []

-- N = 128: buffers of these lengths, every board height h, frets and tip
neck_of : (board heights stiffness : ℕ) (h : ℤ) (frets : List ℕ) (tip : ℤ) → ℕ
neck_of b hs ks h frets tip =
    first_of (neck_rules (record { segments = 128; tension = 1; stiffness = 0; viscous = 0; plain = 0; finger = record { place = 1; stiffness = 0; mass = 1 }; pluck_place = 1; bridge_place = 1; neck_place = 1 })
    (record { board = replicate b h; board_stiffness = 0; frets = frets; tip = tip; fret_stiffness = 0 }) (replicate hs (pos 0)) (replicate ks 0))

-- the places from i on, n of them
from : ℕ → ℕ → List ℕ
from i n = tabulate n (λ k. i + k)

neck_rows : List (Line ℕ)
neck_rows =
    neck_of 126 127 127 (pos 0) [] (pos 0) gives 6 ∷ neck_of 127 128 127 (pos 0) [] (pos 0) gives 6 ∷ neck_of 127 127 0 (pos 0) [] (pos 0) gives 6
    ∷ neck_of 127 127 127 (pos 0) [] (pos 0) gives 0
    ∷ neck_of 127 127 127 (pos 1) [] (pos 0) gives 7 ∷ neck_of 127 127 127 (neg_ℤ (pos 1048576)) [] (pos 0) gives 0
    ∷ neck_of 127 127 127 (neg_ℤ (pos 1048577)) [] (pos 0) gives 7
    -- frets
    ∷ neck_of 127 127 127 (pos 0) (from 1 24) (pos 0) gives 0 ∷ neck_of 127 127 127 (pos 0) (from 104 24) (pos 0) gives 0
    ∷ neck_of 127 127 127 (pos 0) (from 1 25) (pos 0) gives 8
    ∷ neck_of 127 127 127 (pos 0) (0 ∷ []) (pos 0) gives 8 ∷ neck_of 127 127 127 (pos 0) (128 ∷ []) (pos 0) gives 8
    ∷ neck_of 127 127 127 (pos 0) (5 ∷ 5 ∷ []) (pos 0) gives 8 ∷ neck_of 127 127 127 (pos 0) (6 ∷ 5 ∷ []) (pos 0) gives 8
    ∷ neck_of 127 127 127 (pos 0) (5 ∷ 6 ∷ 6 ∷ []) (pos 0) gives 8 ∷ neck_of 127 127 127 (pos 0) (5 ∷ 128 ∷ []) (pos 0) gives 8
    -- the tip: not examined with no fret
    ∷ neck_of 127 127 127 (neg_ℤ (pos 9)) (5 ∷ []) (pos 1) gives 9 ∷ neck_of 127 127 127 (neg_ℤ (pos 9)) (5 ∷ []) (neg_ℤ (pos 10)) gives 9
    ∷ neck_of 127 127 127 (neg_ℤ (pos 9)) (5 ∷ []) (neg_ℤ (pos 9)) gives 0 ∷ neck_of 127 127 127 (neg_ℤ (pos 9)) [] (pos 1) gives 0
    ∷ []

-- the bench setup with L = 1: lengths of the three buffers, heights
start_of : (first second contact : ℕ) (w w' : ℤ) → ℕ
start_of a b ψ w w' = first_of (start_rules (bench_setup 1 0 0 0 0) (replicate a (pos 0)) (replicate b (pos 0)) (replicate ψ (pos 0)) w w')

start_rows : List (Line ℕ)
start_rows =
    start_of 0 1 1 (pos 0) (pos 0) gives 6 ∷ start_of 1 2 1 (pos 0) (pos 0) gives 6 ∷ start_of 1 1 0 (pos 0) (pos 0) gives 6
    ∷ start_of 1 1 1 (pos 0) (pos 0) gives 0
    ∷ start_of 1 1 1 (neg_ℤ (pos 1)) (pos 0) gives 10 ∷ start_of 1 1 1 (pos 1048576) (pos 1048576) gives 0 ∷ start_of 1 1 1 (pos 1048577) (pos 0) gives 10
    ∷ start_of 1 1 1 (pos 0) (neg_ℤ (pos 1048576)) gives 0 ∷ start_of 1 1 1 (pos 0) (neg_ℤ (pos 1048577)) gives 10
    ∷ start_of 1 1 1 (pos 0) (pos 1048577) gives 10
    ∷ []

-- a step of the bench setup with L = 1 and these K, neck height and stiffness, voice and forces
step_of : (K : ℕ) (h : ℤ) (k : ℕ) → Lent → (pluck push : ℤ) → ℕ
step_of K h k v f g = first_of (step_rules (bench_setup 1 0 0 0 K) (record { heights = h ∷ []; stiffness = k ∷ [] }) (state_of v) (forces f g))

-- the string at u, before at v; the finger at w, before at w'
string : (u v : ℤ) → Lent
string u v = one_point u v (pos 0) 0 resting_finger

finger_at : (w w' φ : ℤ) → Lent
finger_at w w' φ = one_point (pos 0) (pos 0) (pos 0) 0 (finger w w' φ)

step_rows : List (Line ℕ)
step_rows =
    -- lengths
    first_of (step_rules (bench_setup 1 0 0 0 0) (record { heights = []; stiffness = 0 ∷ [] }) (state_of (string (pos 0) (pos 0))) (forces (pos 0) (pos 0))) gives 6
    ∷ first_of (step_rules (bench_setup 1 0 0 0 0) (record { heights = pos 0 ∷ []; stiffness = [] }) (state_of (string (pos 0) (pos 0))) (forces (pos 0) (pos 0))) gives 6
    ∷ step_of 0 (pos 0) 0 (record { first = []; second = pos 0 ∷ []; contact = pos 0 ∷ []; turn = 0; finger = resting_finger }) (pos 0) (pos 0) gives 6
    ∷ step_of 0 (pos 0) 0 (record { first = pos 0 ∷ []; second = []; contact = pos 0 ∷ []; turn = 0; finger = resting_finger }) (pos 0) (pos 0) gives 6
    ∷ step_of 0 (pos 0) 0 (record { first = pos 0 ∷ []; second = pos 0 ∷ []; contact = []; turn = 0; finger = resting_finger }) (pos 0) (pos 0) gives 6
    -- neck heights
    ∷ step_of 0 (pos 1) 0 (string (pos 0) (pos 0)) (pos 0) (pos 0) gives 7
    ∷ step_of 0 (neg_ℤ (pos 1048577)) 0 (string (pos 0) (pos 0)) (pos 0) (pos 0) gives 7
    ∷ step_of 0 (neg_ℤ (pos 1048576)) 0 (string (pos 0) (pos 0)) (pos 0) (pos 0) gives 0
    -- displacements, finger heights, contact variables passed in
    ∷ step_of 0 (pos 0) 0 (string (pos 1048576) (pos 1048576)) (pos 0) (pos 0) gives 0
    ∷ step_of 0 (pos 0) 0 (string (neg_ℤ (pos 1048576)) (neg_ℤ (pos 1048576))) (pos 0) (pos 0) gives 0
    ∷ step_of 0 (pos 0) 0 (string (pos 1048577) (pos 0)) (pos 0) (pos 0) gives 11
    ∷ step_of 0 (pos 0) 0 (string (pos 0) (neg_ℤ (pos 1048577))) (pos 0) (pos 0) gives 11
    ∷ step_of 0 (pos 0) 0 (finger_at (pos 1048576) (pos 1048576) (pos 67108864)) (pos 0) (pos 0) gives 0
    ∷ step_of 0 (pos 0) 0 (finger_at (pos 1048577) (pos 0) (pos 0)) (pos 0) (pos 0) gives 11
    ∷ step_of 0 (pos 0) 0 (finger_at (pos 0) (neg_ℤ (pos 1048577)) (pos 0)) (pos 0) (pos 0) gives 11
    ∷ step_of 0 (pos 0) 0 (finger_at (pos 0) (pos 0) (pos 67108865)) (pos 0) (pos 0) gives 11
    ∷ step_of 0 (pos 0) 0 (one_point (pos 0) (pos 0) (neg_ℤ (pos 67108864)) 0 resting_finger) (pos 0) (pos 0) gives 0
    ∷ step_of 0 (pos 0) 0 (one_point (pos 0) (pos 0) (neg_ℤ (pos 67108865)) 0 resting_finger) (pos 0) (pos 0) gives 11
    -- forces
    ∷ step_of 0 (pos 0) 0 (string (pos 0) (pos 0)) (pos 1073741824) (neg_ℤ (pos 1073741824)) gives 0
    ∷ step_of 0 (pos 0) 0 (string (pos 0) (pos 0)) (pos 1073741825) (pos 0) gives 12
    ∷ step_of 0 (pos 0) 0 (string (pos 0) (pos 0)) (pos 0) (neg_ℤ (pos 1073741825)) gives 12
    -- a new displacement of string and finger: 1,048,576 and one more; −1,048,576 and one less
    ∷ step_of 0 (pos 0) 0 (string (pos 1047576) (pos 1047576)) (pos 6191152) (pos 0) gives 0
    ∷ step_of 0 (pos 0) 0 (string (pos 1047576) (pos 1047576)) (pos 6195248) (pos 0) gives 13
    ∷ step_of 0 (neg_ℤ (pos 1048576)) 0 (string (neg_ℤ (pos 1047576)) (neg_ℤ (pos 1047576))) (neg_ℤ (pos 6191152)) (pos 0) gives 0
    ∷ step_of 0 (neg_ℤ (pos 1048576)) 0 (string (neg_ℤ (pos 1047576)) (neg_ℤ (pos 1047576))) (neg_ℤ (pos 6195248)) (pos 0) gives 13
    ∷ step_of 0 (pos 0) 0 (finger_at (pos 1047576) (pos 1047576) (pos 0)) (pos 0) (pos 4096000) gives 0
    ∷ step_of 0 (pos 0) 0 (finger_at (pos 1047576) (pos 1047576) (pos 0)) (pos 0) (pos 4100096) gives 13
    -- a new contact variable of a point and of the finger: 67,108,864 and one more
    ∷ step_of 0 (pos 0) 64 (one_point (neg_ℤ (pos 16)) (neg_ℤ (pos 15)) (pos 67108856) 0 resting_finger) (neg_ℤ (pos 1073737728)) (pos 0) gives 0
    ∷ step_of 0 (pos 0) 64 (one_point (neg_ℤ (pos 16)) (neg_ℤ (pos 15)) (pos 67108857) 0 resting_finger) (neg_ℤ (pos 1073737728)) (pos 0) gives 14
    ∷ step_of 64 (pos 0) 0 (one_point (pos 16) (pos 15) (pos 0) 0 (finger (pos 0) (pos 0) (pos 67108856))) (pos 1073737728) (neg_ℤ (pos 1073741824)) gives 0
    ∷ step_of 64 (pos 0) 0 (one_point (pos 16) (pos 15) (pos 0) 0 (finger (pos 0) (pos 0) (pos 67108857))) (pos 1073737728) (neg_ℤ (pos 1073741824)) gives 14
    ∷ []

-- a block with this many forces and samples, from the string at u
block_of : (forces samples : ℕ) (h u : ℤ) → ℕ
block_of f z h u = first_of (block_rules (bench_setup 1 0 0 0 0) (record { heights = h ∷ []; stiffness = 0 ∷ [] }) (string u (pos 0)) (replicate f (pos 2000000000)) (replicate z (fin false 0 (pos 0))))

block_rows : List (Line ℕ)
block_rows =
    block_of 0 0 (pos 0) (pos 0) gives 0 ∷ block_of 2 2 (pos 0) (pos 0) gives 0 ∷ block_of 1 1 (pos 0) (pos 0) gives 15
    -- too few samples, then a surplus, odd and even; an odd number of forces with enough samples
    ∷ block_of 2 0 (pos 0) (pos 0) gives 15 ∷ block_of 2 1 (pos 0) (pos 0) gives 15 ∷ block_of 2 3 (pos 0) (pos 0) gives 0
    ∷ block_of 2 8 (pos 0) (pos 0) gives 0 ∷ block_of 0 1 (pos 0) (pos 0) gives 0 ∷ block_of 3 4 (pos 0) (pos 0) gives 15
    ∷ block_of 1 1 (pos 1) (pos 0) gives 15 ∷ block_of 0 0 (pos 1) (pos 1048577) gives 7 ∷ block_of 0 0 (pos 0) (pos 1048577) gives 11
    ∷ []

-- reading place i of one point: height, first and second string, turn
reading_of : (h a b : ℤ) (turn i : ℕ) → ℕ
reading_of h a b turn i = first_of (reading_rules (bench_setup 1 0 0 0 0) (h ∷ []) (a ∷ []) (b ∷ []) turn i)

reading_rows : List (Line ℕ)
reading_rows =
    reading_of (pos 0) (pos 0) (pos 0) 0 0 gives 4 ∷ reading_of (pos 0) (pos 0) (pos 0) 0 1 gives 0 ∷ reading_of (pos 0) (pos 0) (pos 0) 0 2 gives 4
    ∷ reading_of (pos 1) (pos 0) (pos 0) 0 1 gives 7
    -- lengths: heights and both strings
    ∷ first_of (reading_rules (bench_setup 1 0 0 0 0) [] (pos 0 ∷ []) (pos 0 ∷ []) 0 1) gives 6
    ∷ first_of (reading_rules (bench_setup 1 0 0 0 0) (pos 0 ∷ []) [] (pos 0 ∷ []) 1 1) gives 6
    ∷ first_of (reading_rules (bench_setup 1 0 0 0 0) (pos 0 ∷ []) (pos 0 ∷ []) [] 0 1) gives 6
    -- the newest string only
    ∷ reading_of (pos 0) (pos 1048577) (pos 0) 0 1 gives 11 ∷ reading_of (pos 0) (pos 1048577) (pos 0) 1 1 gives 0
    ∷ reading_of (pos 0) (pos 0) (pos 1048577) 0 1 gives 0 ∷ reading_of (pos 0) (pos 0) (pos 1048577) 7 1 gives 11
    ∷ []

rows : List (Line ℕ)
rows = setup_rows ++ neck_rows ++ start_rows ++ step_rows ++ block_rows ++ reading_rows

boundaries : Right rows
unfolding rows setup_rows neck_rows start_rows step_rows block_rows reading_rows setup_of neck_of from start_of step_of string finger_at block_of reading_of
    setup_rules neck_rules start_rules step_rules call_rules result_rules block_rules reading_rules place_ok length_ok between inside height_ok displacement_ok
    contact_ok force_ok state_of gradients gradient root greatest moves worked_step clear cleared kept let_go settled some_pull dropped totals pulls left
    next_state A c system rounded₁ rounded₂ nearest floor plus minus times zip_with D1
boundaries = refl

-- ---- 02, item 5: bends and slides

-- a setup whose finger is off the string
astray : Setup
astray = with_place bench 9

change_rows : List (Line (Answer Setup))
change_rows =
    -- the tension
    bend bench 0 gives refused 2 ∷ bend bench 1 gives accepted (bench_setup 1 0 0 0 0) ∷ bend bench 4096 gives accepted bench ∷ bend bench 4097 gives refused 2
    -- the sum
    ∷ bend (bench_setup 100 900 50 0 0) 396 gives accepted (bench_setup 396 900 50 0 0) ∷ bend (bench_setup 100 900 50 0 0) 397 gives refused 3
    -- the old tension is not examined, the others are
    ∷ bend (bench_setup 0 0 0 0 0) 5 gives accepted (bench_setup 5 0 0 0 0) ∷ bend (bench_setup 4294967295 0 0 0 0) 5 gives accepted (bench_setup 5 0 0 0 0)
    ∷ bend (bench_setup 4096 1 0 0 0) 5 gives accepted (bench_setup 5 1 0 0 0) ∷ bend (bench_setup 100 0 0 4097 0) 5 gives refused 2 ∷ bend astray 5 gives refused 4
    -- the place
    ∷ slide bench 0 gives refused 4 ∷ slide bench 1 gives accepted bench ∷ slide bench 2 gives refused 4
    -- the old place is not examined, the others are
    ∷ slide astray 1 gives accepted bench ∷ slide (bench_setup 0 0 0 0 0) 1 gives refused 2 ∷ slide (bench_setup 4096 1 0 0 0) 1 gives refused 3
    ∷ []

changes : Right change_rows
unfolding change_rows astray bend slide setup setup_rules place_ok between
changes = refl
