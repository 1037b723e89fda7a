-- The hypotheses of the symmetry can be met, all at once, by a run that moves string and finger, with ties and a refused step in it;
-- the string touches the finger in one of the two runs, the neck in the other, and both contacts are dropped.
use Rattle.std.specs.Prelude.{◌≡◌, refl, ℤ, pos, neg_ℤ}
use mathlib.Core.List.{List, [], ◌∷◌, map, zip_with}
use Rattle.std.specs.Int.Signed.{le_z_yes}
use Rattle.model.specs.Ranges.{between, inside, displacement_ok, contact_ok, force_ok, height_ok}
use Rattle.model.specs.Setup.{setup_rules, place_ok, length_ok}
use Rattle.model.specs.Differences.{plus, minus, times, D1}
use Rattle.model.specs.Gradient.{gradient, root, greatest}
use Rattle.model.specs.Rounding.{nearest, floor}
use Rattle.model.specs.System.{rounded₁, rounded₂}
use Rattle.model.specs.State.{Lent, state_of, put, Neck, Forces, PointsAndFinger}
use Rattle.model.specs.Step.{gradients, kept, clear, moves, next_state, pulls, left, totals, some_pull, dropped, settled, worked_step, A, c, system, call_rules, result_rules, step_rules, step}
use Rattle.model.specs.Steps.{voice, history}
use Rattle.model.specs.Bench.{bench_setup, finger, one_point, forces}
use Rattle.model.specs.declared.Setup.{Setup}
use Rattle.promises.specs.Promises.{Every}
use Rattle.promises.specs.Symmetry.{NoContact, opposed, Mirrored}
use Rattle.laws.specs.Loose.{every_call}
use Rattle.laws.proofs.Demands.{symmetry}

-- finger and neck are stiff: a depth of 1 has a gradient
abbrev setup : Setup
setup = bench_setup 1024 0 0 0 1024

-- the mirror's string touches it, at −5; the voice's is above it
neck : Neck
neck = record { heights = neg_ℤ (pos 4) ∷ []; stiffness = 30000 ∷ [] }

-- the string touches the finger, at 5 over 2
v : Lent
v = one_point (pos 3) (pos 5) (pos 7) 4 (finger (pos 2) (pos 1) (neg_ℤ (pos 9)))

-- with other contact variables
mirror : Lent
mirror = one_point (neg_ℤ (pos 3)) (neg_ℤ (pos 5)) (neg_ℤ (pos 100)) 4 (finger (neg_ℤ (pos 2)) (neg_ℤ (pos 1)) (pos 8))

-- a tie at the string, 5/2, and one at the finger, 5/2; a force out of range; none, and a tie at the string, −5/2
F₁ : Forces
F₁ = forces (pos 4096) (pos 2048)

F₂ : Forces
F₂ = forces (neg_ℤ (pos 2000000000)) (pos 0)

F₃ : Forces
F₃ = forces (pos 0) (pos 0)

-- the voices after the first step and after the third; the second leaves what the first left. What touches nothing is cleared: ψ in the voice, φ in the mirror.
v₁ : Lent
v₁ = one_point (pos 5) (pos 5) (pos 0) 0 (finger (pos 3) (pos 2) (neg_ℤ (pos 9)))

mirror₁ : Lent
mirror₁ = one_point (neg_ℤ (pos 5)) (neg_ℤ (pos 5)) (neg_ℤ (pos 100)) 0 (finger (neg_ℤ (pos 3)) (neg_ℤ (pos 2)) (pos 0))

v₂ : Lent
v₂ = one_point (pos 5) (pos 3) (pos 0) 1 (finger (pos 4) (pos 3) (neg_ℤ (pos 9)))

mirror₂ : Lent
mirror₂ = one_point (neg_ℤ (pos 5)) (neg_ℤ (pos 3)) (neg_ℤ (pos 100)) 1 (finger (neg_ℤ (pos 4)) (neg_ℤ (pos 3)) (pos 0))

abbrev at_point_and_finger : (G g : ℤ) → PointsAndFinger
at_point_and_finger G g = record { points = G ∷ []; finger = g }

-- before every step the finger touches in the voice, the point in the mirror
touching : (gradients setup neck (state_of v) ≡ at_point_and_finger (pos 0) (pos 13)) × (gradients setup neck (state_of v₁) ≡ at_point_and_finger (pos 0) (pos 11))
    × (gradients setup neck (state_of mirror) ≡ at_point_and_finger (pos 43) (pos 0)) × (gradients setup neck (state_of mirror₁) ≡ at_point_and_finger (pos 43) (pos 0))
unfolding neck v v₁ mirror mirror₁ gradients gradient root greatest state_of minus zip_with
touching = (refl, refl, refl, refl)

-- a step from x leaves x', and no gradient is above 0 in its last moves
abbrev Leads : Lent → Forces → Lent → Type 0
Leads x F x' = ((step setup neck x F).lent ≡ x') × ((worked_step setup neck (state_of x) F).gradients ≡ at_point_and_finger (pos 0) (pos 0))

steps-are : Leads v F₁ v₁ × Leads v₁ F₂ v₁ × Leads v₁ F₃ v₂ × Leads mirror (opposed F₁) mirror₁ × Leads mirror₁ (opposed F₂) mirror₁ × Leads mirror₁ (opposed F₃) mirror₂
unfolding neck v v₁ v₂ mirror mirror₁ mirror₂ F₁ F₂ F₃ gradients gradient root greatest step step_rules call_rules result_rules setup_rules place_ok length_ok between
    inside height_ok displacement_ok contact_ok force_ok state_of put worked_step clear kept settled some_pull dropped totals pulls left next_state moves A c system
    rounded₁ rounded₂ nearest floor plus minus times zip_with D1
steps-are = ((refl, refl), (refl, refl), (refl, refl), (refl, refl), (refl, refl), (refl, refl))

mirrored : Mirrored (history neck (voice setup v) (F₁ ∷ F₂ ∷ F₃ ∷ [])) (history neck (voice setup mirror) (map opposed (F₁ ∷ F₂ ∷ F₃ ∷ [])))
unfolding v mirror history between inside contact_ok
mirrored =
    let (first, second, third, first', second', third') = steps-are in
    symmetry setup neck v mirror
    record { first = refl; second = refl; turn = refl; height = refl; older-height = refl }
    record { one = tt; other = tt; lengths = refl }
    (F₁ ∷ F₂ ∷ F₃ ∷ [])
    (each v F₁ (F₂ ∷ F₃ ∷ []) first (each v₁ F₂ (F₃ ∷ []) second (each v₁ F₃ [] third tt)))
    (each mirror (opposed F₁) (opposed F₂ ∷ opposed F₃ ∷ []) first' (each mirror₁ (opposed F₂) (opposed F₃ ∷ []) second' (each mirror₁ (opposed F₃) [] third' tt)))
  where
    each : (x : Lent) (F : Forces) (Fs : List Forces) {x' : Lent} → Leads x F x' → Every (NoContact neck) (history neck (voice setup x') Fs) → Every (NoContact neck) (history neck (voice setup x) (F ∷ Fs))
    each x F Fs (leaves, none) = every_call setup neck (NoContact neck) x F Fs leaves record { points = rw none (le_z_yes tt, tt); finger = rw none (le_z_yes tt) }
