-- 02, item 5: a bend changes the stored energy by its work, a slide does not; strings that fit stay so.
use Rattle.std.specs.Prelude.{◌≡◌, ℕ, pos, ◌+ℤ◌, ◌-ℤ◌, ◌*ℤ◌}
use Rattle.std.proofs.Common.{◌∙◌}
use Rattle.integers.specs.Solve.{◌⊕◌, ◌⊖◌, ◌⊗◌, #◌, ◌≐◌, solve}
use Rattle.model.specs.Setup.{L, M, S, m, points}
use Rattle.model.specs.Changes.{with_tension, with_place}
use Rattle.model.specs.Differences.{minus, D1, dot, E}
use Rattle.model.specs.State.{State, Lent}
use Rattle.model.specs.Energy.{stored_energy}
use Rattle.model.specs.Run.{bend_work}
use Rattle.model.specs.declared.Setup.{Setup}
use Rattle.laws.specs.Accepted.{Fitting}

-- the stored energy is linear in L
pub bend-balance : (s : Setup) (L' : ℕ) (x : State) → stored_energy (with_tension s L') x ≡ stored_energy s x +ℤ bend_work record { setup = s; tension = L'; state = x } -ℤ pos 0 +ℤ pos 0
unfolding stored_energy bend_work
bend-balance s L' x =
    let u = x.newer in
    let v = x.older in
    let a = minus u v in
    let w = x.finger.newer -ℤ x.finger.older in
    let φ = x.finger.contact in
    solve 12 (λ L' L M S m aa uv d ea ψ w f. # 8192 ⊗ aa ⊕ # 2 ⊗ L' ⊗ uv ⊕ # 2 ⊗ M ⊗ d ⊖ S ⊗ ea ⊕ # 2 ⊗ ψ ⊕ # 2 ⊗ m ⊗ w ⊕ # 2 ⊗ f
    ≐ # 8192 ⊗ aa ⊕ # 2 ⊗ L ⊗ uv ⊕ # 2 ⊗ M ⊗ d ⊖ S ⊗ ea ⊕ # 2 ⊗ ψ ⊕ # 2 ⊗ m ⊗ w ⊕ # 2 ⊗ f ⊕ # 2 ⊗ (L' ⊖ L) ⊗ uv ⊖ # 0 ⊕ # 0) tt
    (pos L') (pos (L s)) (pos (M s)) (pos (S s)) (pos (m s)) (dot a a) (E u v) (dot (D1 u) (D1 v)) (E a a) (dot x.contact x.contact) (w *ℤ w) (φ *ℤ φ)

-- the finger's place is no part of it
pub slide-balance : (s : Setup) (p' : ℕ) (x : State) → stored_energy (with_place s p') x ≡ stored_energy s x +ℤ pos 0 -ℤ pos 0 +ℤ pos 0
unfolding stored_energy
slide-balance s p' x = solve 1 (λ e. e ≐ e ⊕ # 0 ⊖ # 0 ⊕ # 0) tt (stored_energy s x)

-- strings that fit a setup fit every other with its N
pub fitting-other : {s t : Setup} {v : Lent} → points s ≡ points t → Fitting s v → Fitting t v
fitting-other q h = record { first = record { long = h.first.long ∙ q }; second = record { long = h.second.long ∙ q } }
