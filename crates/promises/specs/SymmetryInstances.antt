-- Closed instances of the symmetry of 02, item 2, by computation alone, without a 0 that would hide a wrong claim.
use Rattle.std.specs.Prelude.{refl, pos, neg_ℤ}
use mathlib.Core.List.{[], ◌∷◌, map, zip_with}
use Rattle.std.specs.Int.Signed.{le_z_yes}
use Rattle.model.specs.Ranges.{between, inside, displacement_ok, contact_ok, force_ok, height_ok}
use Rattle.model.specs.Setup.{setup_rules, place_ok, length_ok}
use Rattle.model.specs.Differences.{plus, minus, times, D1}
use Rattle.model.specs.Gradient.{gradient, root, greatest}
use Rattle.model.specs.Rounding.{nearest, floor}
use Rattle.model.specs.System.{rounded₁, rounded₂}
use Rattle.model.specs.State.{state_of, put, Neck}
use Rattle.model.specs.Step.{gradients, A, c, system, moves, worked_step, next_state, call_rules, result_rules, step_rules, step, clear, cleared, kept, let_go, settled, some_pull, dropped, totals, pulls, left}
use Rattle.model.specs.Steps.{Voice, voice, call, history}
use Rattle.model.specs.Bench.{bench_setup, flat_neck, finger, resting_finger, one_point, forces}
use Rattle.promises.specs.Symmetry.{NoContact, opposed, Contacts, Mirrored}
use Rattle.promises.specs.Instances.{none, stiff_neck, clinging, equal}

-- ---- two runs, one the negative of the other

-- with losses; strings, heights and turn are all other than 0, and the contact variables are not negated
moving : Voice
moving = voice (bench_setup 1024 100 200 512 64) (one_point (pos 3) (pos 5) (pos 7) 4 (finger (pos 2) (pos 1) (neg_ℤ (pos 9))))

mirror : Voice
mirror = voice (bench_setup 1024 100 200 512 64) (one_point (neg_ℤ (pos 3)) (neg_ℤ (pos 5)) (pos 8) 4 (finger (neg_ℤ (pos 2)) (neg_ℤ (pos 1)) (pos 0)))

low_neck : Neck
low_neck = record { heights = neg_ℤ (pos 100) ∷ []; stiffness = 30000 ∷ [] }

-- a step that is refused, and then ties of string and finger, 5/2 and 9/2
mirrored : let Fs = forces (pos 2000000000) (pos 0) ∷ forces (pos 8176) (pos 10240) ∷ [] in Mirrored (history low_neck moving Fs) (history low_neck mirror (map opposed Fs))
unfolding moving mirror low_neck history state_of put step step_rules call_rules result_rules setup_rules place_ok length_ok between inside height_ok
    displacement_ok contact_ok force_ok worked_step clear kept settled some_pull totals pulls gradients gradient root greatest moves A c system rounded₁
    rounded₂ nearest floor next_state plus minus times zip_with D1
mirrored = (
  equal 12 refl refl,
  record { first = equal (neg_ℤ (pos 3) ∷ []) refl refl; second = equal (neg_ℤ (pos 5) ∷ []) refl refl; turn = equal 4 refl refl; height = equal (neg_ℤ (pos 2)) refl refl; older-height = equal (neg_ℤ (pos 1)) refl refl },
  (
    tt,
    record { first = equal (neg_ℤ (pos 5) ∷ []) refl refl; second = equal (neg_ℤ (pos 5) ∷ []) refl refl; turn = equal 0 refl refl; height = equal (neg_ℤ (pos 5)) refl refl; older-height = equal (neg_ℤ (pos 2)) refl refl },
    tt,
  ),
)

-- stiffness 64 at the depth 16 has the least gradient above zero, 8: the string on the neck, and the finger on the string; neither pulls
touching : NoContact (flat_neck 64) (call (flat_neck 64) (voice (bench_setup 1 0 0 0 0) (one_point (neg_ℤ (pos 16)) (pos 0) (pos 1000) 0 resting_finger)) none) → ⊥
unfolding none worked_step clear cleared kept let_go settled some_pull dropped totals pulls left gradients gradient root greatest state_of moves A c system
    rounded₁ rounded₂ nearest floor next_state plus minus times zip_with D1
touching h = h.points.0.le

pressed-by-the-finger : NoContact (flat_neck 0) (call (flat_neck 0) (voice (bench_setup 1 0 0 0 64) (one_point (pos 16) (pos 0) (pos 0) 0 (finger (pos 0) (pos 0) (pos 1000)))) none) → ⊥
unfolding none worked_step clear cleared kept let_go settled some_pull dropped totals pulls left gradients gradient root greatest state_of moves A c system
    rounded₁ rounded₂ nearest floor next_state plus minus times zip_with D1
pressed-by-the-finger h = h.finger.le

-- both contacts pull, and are dropped: none is left
dropped-both : NoContact stiff_neck (call stiff_neck clinging none)
unfolding none clinging stiff_neck worked_step clear cleared kept let_go settled some_pull dropped totals pulls left gradients gradient root greatest state_of
    moves A c system rounded₁ rounded₂ nearest floor next_state plus minus times zip_with D1
dropped-both = record { points = (le_z_yes tt, tt); finger = le_z_yes tt }

-- a contact variable out of range, of either voice
out_of_range : let v = one_point (pos 0) (pos 0) (pos 0) 0 resting_finger in let beyond = one_point (pos 0) (pos 0) (pos 67108865) 0 resting_finger in (Contacts v beyond → ⊥) × (Contacts beyond v → ⊥)
unfolding contact_ok inside
out_of_range = (λ h. h.other, λ h. h.one)
