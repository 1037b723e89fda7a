-- Closed instances of the promises, by computation alone, at values where a claim is tight, so that a stronger or another claim is false there.
use Rattle.std.specs.Prelude.{◌≡◌, refl, true, false, not, ℕ, zero, suc, T, eqb, ℤ, pos, negsuc, neg_ℤ, nat_abs, Float, replicate}
use Rattle.std.proofs.Common.{sym, ◌∙◌, ap, inl, arith, lit≤, lit<}
use mathlib.Core.List.{List, [], ◌∷◌, zip_with}
use Rattle.std.specs.Int.Signed.{le_z_yes, lt_z_yes}
use Rattle.std.specs.Float.{nan, fin}
use Rattle.std.specs.Float.Ieee.{round}
use Rattle.std.proofs.Math.Facts.{eqb_no}
use Rattle.model.specs.Fraction.{fraction}
use Rattle.model.specs.Reading.{reading_rules, reading}
use Rattle.model.specs.Answers.{reading_result}
use Rattle.model.specs.Ranges.{between, inside, displacement_ok, contact_ok, force_ok, height_ok}
use Rattle.model.specs.Refusal.{◌when◌}
use Rattle.model.specs.Setup.{setup, setup_rules, place_ok, length_ok}
use Rattle.model.specs.Changes.{with_tension, with_place, bend, slide}
use Rattle.model.specs.Differences.{plus, minus, times, D1}
use Rattle.model.specs.Gradient.{gradient, root, greatest}
use Rattle.model.specs.Rounding.{nearest, floor}
use Rattle.model.specs.System.{System, rounded₁, rounded₂}
use Rattle.model.specs.State.{State, Lent, state_of, put, Neck, Forces, PointsAndFinger}
use Rattle.model.specs.Step.{gradients, A, c, system, moves, worked_step, next_state, call_rules, result_rules, step_rules, frame, step, clear, cleared, kept, let_go, settled, some_pull, dropped, totals, pulls, left}
use Rattle.model.specs.Steps.{Voice, voice, history, accepted_steps, voice_after}
use Rattle.model.specs.Block.{BlockResult, play, block_rules, block}
use Rattle.model.specs.Bench.{bench_setup, finger, one_point, forces}
use Rattle.model.specs.declared.Setup.{Setup}
use Rattle.promises.specs.Promises.{Refuses, IsNearest, IsRounded, AreGradients, Clears, Solves, NonePulls, flips, frame_samples, Plays, followed_by, PlaysNoPart, OddAlone, Shows, shown}

-- ---- rounding

-- 2048 / 4096 and −2048 / 4096 are ties, and go to 0; 6144 / 4096 goes to 2, −6144 / 4096 to −2
tie_down : IsNearest (pos 2048) (pos 4096) (pos 0)
tie_down = record { near = le_z_yes tt; tie = λ q. (pos 0, refl) }

tie_up : IsNearest (neg_ℤ (pos 2048)) (pos 4096) (pos 0)
tie_up = record { near = le_z_yes tt; tie = λ q. (pos 0, refl) }

tie-up-to-two : IsNearest (pos 6144) (pos 4096) (pos 2)
tie-up-to-two = record { near = le_z_yes tt; tie = λ q. (pos 1, refl) }

tie-down-to-two : IsNearest (neg_ℤ (pos 6144)) (pos 4096) (neg_ℤ (pos 2))
tie-down-to-two = record { near = le_z_yes tt; tie = λ q. (neg_ℤ (pos 1), refl) }

-- 2·x + 3·y = 5 and −x + 4·y = 8: x = −4/11, y = 21/11
pair : System
pair = record { a₁₁ = pos 2; a₁₂ = pos 3; a₂₁ = neg_ℤ (pos 1); a₂₂ = pos 4; b₁ = pos 5; b₂ = pos 8 }

pair-rounded : IsRounded pair (pos 0) (pos 2)
unfolding pair
pair-rounded = record {
  D = pos 11;
  X = neg_ℤ (pos 4);
  Y = pos 21;
  positive = lt_z_yes tt;
  row₁ = refl;
  row₂ = refl;
  near₁ = record { near = le_z_yes tt; tie = λ q. (pos 0, refl) };
  near₂ = record { near = le_z_yes tt; tie = λ q. (pos 1, refl) };
}

-- ---- refusals

-- L = 4093 and M = 1 are refused with 3: 1 and 2 are passed, and the sum is above 4096
refused-with-three : let s = bench_setup 4093 1 0 0 0 in Refuses (setup_rules s) (setup s)
unfolding setup setup_rules place_ok between
refused-with-three = (lit≤ tt, (1 when false ∷ 2 when false ∷ [], (4 when false ∷ 5 when false ∷ [], (refl, (tt, (tt, tt))))))

-- a bend to that L from one that is not examined, 0, is refused so too
bend-refused : let s = bench_setup 0 1 0 0 0 in Refuses (setup_rules (with_tension s 4093)) (bend s 4093)
unfolding bend setup setup_rules place_ok between
bend-refused = (lit≤ tt, (1 when false ∷ 2 when false ∷ [], (4 when false ∷ 5 when false ∷ [], (refl, (tt, (tt, tt))))))

-- a slide from place 0, which is not examined, to 2, past the string
slide-refused : let s = with_place (bench_setup 1 0 0 0 0) 0 in Refuses (setup_rules (with_place s 2)) (slide s 2)
unfolding slide setup setup_rules place_ok between
slide-refused = (lit≤ tt, (1 when false ∷ 2 when false ∷ 3 when false ∷ [], (5 when false ∷ [], (refl, (tt, (tt, (tt, tt)))))))

-- ---- demand 2

-- N = 3, the finger at place 2, the pluck at place 1, contact at place 1 and under the finger; the variable at place 2 is cleared. The numbers are computed
-- from 01 and 02 in exact fractions.
abbrev three : Setup
three = record {
  segments = 3;
  tension = 1000;
  stiffness = 200;
  viscous = 100;
  plain = 10;
  finger = record { place = 2; stiffness = 300; mass = 500 };
  pluck_place = 1;
  bridge_place = 1;
  neck_place = 2;
}

abbrev three_neck : Neck
three_neck = record { heights = pos 0 ∷ neg_ℤ (pos 50) ∷ []; stiffness = 20000 ∷ 300 ∷ [] }

abbrev x : State
x = record { newer = neg_ℤ (pos 25) ∷ pos 30 ∷ []; older = neg_ℤ (pos 31) ∷ pos 22 ∷ []; contact = pos 20000 ∷ neg_ℤ (pos 70) ∷ []; finger = finger (pos 12) (pos 15) (neg_ℤ (pos 20)) }

abbrev x' : State
x' = record { newer = x.newer; older = x.older; contact = pos 20000 ∷ pos 0 ∷ []; finger = x.finger }

-- the gradients of the last moves
abbrev G : PointsAndFinger
G = record { points = pos 176 ∷ pos 0 ∷ []; finger = pos 17 }

abbrev y : State
y = record { newer = pos 175 ∷ neg_ℤ (pos 12) ∷ []; older = neg_ℤ (pos 25) ∷ pos 30 ∷ []; contact = neg_ℤ (pos 16256) ∷ pos 0 ∷ []; finger = finger (neg_ℤ (pos 255)) (pos 12) (pos 3992) }

-- no tie
pub apart : {a b : ℤ} {C : Type 0} → a ≡ b → T (not (eqb (nat_abs a) (nat_abs b))) → C
apart {a} {b} q t = absurd (eqb_no t (ap nat_abs q))

-- what holds at places 0, 1, 2 and past them holds at every place
pub by_place : (P : ℕ → Type 0) → P 0 → P 1 → P 2 → ((k : ℕ) → P (suc (suc (suc k)))) → (i : ℕ) → P i
by_place P a b c d zero = a
by_place P a b c d (suc zero) = b
by_place P a b c d (suc (suc zero)) = c
by_place P a b c d (suc (suc (suc k))) = d k

-- 176 for stiffness 20000 and depth 25, none for a depth of −80, 17 for the finger's stiffness 300 and depth 18
gradients-are : AreGradients three three_neck x (gradients three three_neck x)
unfolding gradients gradient root greatest minus zip_with
gradients-are = record {
  length-points = refl;
  point = by_place _
      (λ l. record { free = λ h. absurd h.le; contact = λ h. (176, (refl, record { low = lit≤ tt; high = lit< tt })) })
      (λ l. record { free = λ h. refl; contact = λ h. absurd h.lt })
      (λ l. absurd (omega arith)) (λ k l. absurd (omega arith));
  finger = record { free = λ h. absurd h.le; contact = λ h. (17, (refl, record { low = lit≤ tt; high = lit< tt })) };
}

-- depths 25, −80 and 18
cleared_is : Clears three three_neck x x' record { points = pos 0 ∷ neg_ℤ (pos 70) ∷ []; finger = pos 0 }
cleared_is = record {
  newer = refl;
  older = refl;
  finger-newer = refl;
  finger-older = refl;
  length-contact = refl;
  length-cleared = refl;
  point = by_place _ (record { free = λ h. (refl, refl); contact = λ h. absurd h.lt }) (record { free = λ h. absurd h.le; contact = λ h. (refl, refl) })
      (record { free = λ h. (refl, refl); contact = λ h. absurd h.lt }) (λ k. record { free = λ h. (refl, refl); contact = λ h. absurd h.lt });
  finger = record { free = λ h. absurd h.le; contact = λ h. (refl, refl) };
}

solved : Solves three x' G (forces (pos 5000) (neg_ℤ (pos 200000))) y
unfolding A c system minus zip_with D1
solved = record {
  length-newer = refl;
  length-contact = refl;
  older = refl;
  finger-older = refl;
  away = by_place _ (λ h l d. absurd (omega arith)) (λ h l d. record { near = le_z_yes tt; tie = λ q. apart q tt }) (λ h l d. absurd (d refl)) (λ k h l d. absurd (omega arith));
  at-finger = record {
    D = pos 3384134;
    X = neg_ℤ (pos 113923096);
    Y = neg_ℤ (pos 915341176);
    positive = lt_z_yes tt;
    row₁ = refl;
    row₂ = refl;
    near₁ = record { near = le_z_yes tt; tie = λ q. apart q tt };
    near₂ = record { near = le_z_yes tt; tie = λ q. apart q tt };
  };
  contact = by_place _ refl refl refl (λ k. refl);
  finger-contact = refl;
}

-- 176 · (20000 − 16256), and 17 · (3992 − 20)
none-pulls : NonePulls (worked_step three three_neck x (forces (pos 5000) (neg_ℤ (pos 200000)))) y
unfolding worked_step clear cleared kept let_go settled some_pull dropped totals pulls left gradients gradient root greatest moves A c system rounded₁ rounded₂
    nearest floor next_state plus minus times zip_with D1
none-pulls = record { point = by_place _ (le_z_yes tt) (le_z_yes tt) (le_z_yes tt) (λ k. le_z_yes tt); finger = le_z_yes tt }

-- ---- a voice in contact, and a comparison by its value

unfoldable pub none : Forces
none = forces (pos 0) (pos 0)

-- a string in a stiff neck, and a finger in it, of gradients 255 and 8; both contacts pull
unfoldable pub stiff_neck : Neck
stiff_neck = record { heights = neg_ℤ (pos 4) ∷ []; stiffness = 65535 ∷ [] }

unfoldable pub clinging : Voice
clinging = voice (bench_setup 4000 0 0 0 64) (one_point (neg_ℤ (pos 26)) (neg_ℤ (pos 58)) (pos 127) 0 (finger (neg_ℤ (pos 46)) (neg_ℤ (pos 67)) (pos 26)))

pub equal : {B : Type 0} {a b : B} (n : B) → a ≡ n → b ≡ n → a ≡ b
equal n p q = p ∙ sym q

-- ---- a block and a reading

-- the voice of x, at turn 0
abbrev lent : Lent
lent = record { first = x.newer; second = x.older; contact = x.contact; turn = 0; finger = x.finger }

-- the step above, then one with a force out of range
abbrev two : List Forces
two = forces (pos 5000) (neg_ℤ (pos 200000)) ∷ forces (pos 2000000000) (pos 0) ∷ []

-- what a block of them comes to
abbrev made : BlockResult
made = record {
  count = 1;
  refusal = 12;
  lent = record { first = x.newer; second = y.newer; contact = y.contact; turn = 1; finger = y.finger };
  samples = fin false 175 (negsuc 19) ∷ fin true 3 (negsuc 17) ∷ replicate 2 nan;
}

played : Plays three_neck (voice three lent) two (replicate 4 nan) made
unfolding history voice_after accepted_steps flips frame_samples state_of put step step_rules call_rules result_rules setup_rules place_ok length_ok between
    inside height_ok displacement_ok contact_ok force_ok worked_step clear cleared kept let_go settled some_pull dropped totals pulls left gradients
    gradient root greatest moves A c system rounded₁ rounded₂ nearest floor next_state frame fraction round plus minus times zip_with D1
played = record { calls = history three_neck (voice three lent) (forces (pos 5000) (neg_ℤ (pos 200000)) ∷ []); run = refl; count = refl; turn = refl; lent = refl; samples = refl; stops = (refl, inl refl) }

-- the same block in a sample buffer that is longer by an odd number
abbrev rest : List Float
rest = fin false 7 (pos 0) ∷ fin true 7 (pos 0) ∷ nan ∷ []

surplus : PlaysNoPart three three_neck lent (pos 5000 ∷ neg_ℤ (pos 200000) ∷ pos 2000000000 ∷ pos 0 ∷ []) (replicate 4 nan) rest
unfolding block block_rules play state_of put step step_rules call_rules result_rules setup_rules place_ok length_ok between inside height_ok displacement_ok
    contact_ok force_ok worked_step clear cleared kept let_go settled some_pull dropped totals pulls left gradients gradient root greatest moves A c system
    rounded₁ rounded₂ nearest floor next_state frame fraction round plus minus times zip_with D1
surplus = equal (followed_by rest made) refl refl

-- three samples for three forces, and four for four
odd-alone : OddAlone 3 × OddAlone 4
odd-alone = (refl, refl)

-- place 1 is pressed to the depth 25, place 2 is free
pressed : Shows (shown (neg_ℤ (pos 25)) (pos 25)) (reading_result (reading three three_neck.heights lent.first lent.second 0 1))
unfolding reading reading_rules setup_rules place_ok length_ok between inside height_ok displacement_ok fraction round
pressed = ((refl, refl), ((refl, refl), tt))

free : Shows (shown (pos 30) (neg_ℤ (pos 80))) (reading_result (reading three three_neck.heights lent.first lent.second 0 2))
unfolding reading reading_rules setup_rules place_ok length_ok between inside height_ok displacement_ok fraction round
free = ((refl, refl), tt)
