-- The energy balance of one step, whatever its state, gradients, forces and moves, where the lists have the setup's length:
-- stored energy after = before + released + work − loss + rounding work, where what is released before the step is a part of its loss.
use Rattle.std.specs.Prelude.{◌≡◌, Bool, List, [], ◌∷◌, ℤ, neg_ℤ, ◌+ℤ◌, ◌-ℤ◌, ◌*ℤ◌}
use Rattle.std.proofs.Math.Path.{refl, ap}
use Rattle.std.proofs.Common.{sym, ◌∙◌, ap₂}
use Rattle.std.proofs.Math.Bool.{true, false, cond}
use Prim.Native.Nat.{ℕ, suc, ◌<◌}
use Rattle.std.proofs.Math.Dec.{eqb}
use Rattle.std.proofs.Math.IntN.{pos}
use Rattle.std.proofs.Math.Facts.{eqb_yes}
use Rattle.integers.specs.Solve.{◌⊕◌, ◌⊖◌, ◌⊗◌, ⊝◌, #◌, ◌≐◌, solve}
use Rattle.integers.specs.Filled.{length-tabulate, get_d_tabulate}
use Rattle.integers.specs.Sum.{sum-linear, bend}
use Rattle.model.specs.Setup.{L, M, S, Z, m, p, e, points}
use Rattle.model.specs.Differences.{at, plus, minus, times, D1, D2, dot, E}
use Rattle.model.specs.System.{residual₁}
use Rattle.model.specs.State.{State, Neck, Forces, PointsAndFinger}
use Rattle.model.specs.Step.{A, c, system, WorkedStep, clear, worked_step, next_state}
use Rattle.model.specs.Energy.{stored_energy, work, released, loss, dot_all, residuals, rounding_work}
use Rattle.model.specs.declared.Setup.{Setup}
use Rattle.laws.specs.Accepted.{Examined}
use Rattle.laws.specs.Clearing.{examined-clear}
use Rattle.laws.specs.Moves.{spans-moves}
use Rattle.laws.specs.Pulling.{spans-last}
use Rattle.laws.specs.Strings.{◌spans◌, spans-plus, spans-minus, spans-times, at-plus, at-minus, at-times, form, form-comm, form-plus, square-minus, own, rise, own-linear, rise-linear, bend-linear, ◌·◌, dot-form, E-form, D1-form, parts, parts₂, dot-only}

-- ---- what a move d does to each sum of the energy: the new string is v + d, the new contact variables ψ − γ·d

module _ {u v d : List ℤ} {n : ℕ} (hu : u spans n) (hv : v spans n) (hd : d spans n) where
  abbrev pub rate : List ℤ
  rate = minus u v

  abbrev pub rate' : List ℤ
  rate' = minus (plus v d) u

  ha : rate spans n
  ha = spans-minus hu hv

  hp : plus v d spans n
  hp = spans-plus hv hd

  ha' : rate' spans n
  ha' = spans-minus hp hu

  at-rate' : (i : ℕ) → at rate' i ≡ at d i -ℤ at rate i
  at-rate' i = at-minus hp hu i ∙ ap (λ z. z -ℤ at u i) (at-plus hv hd i)
      ∙ solve 3 (λ u v d. v ⊕ d ⊖ u ≐ d ⊖ (u ⊖ v)) tt (at u i) (at v i) (at d i) ∙ ap (λ z. at d i -ℤ z) (sym (at-minus hu hv i))

  kinetic : dot rate' rate' ≡ dot d d -ℤ pos 2 *ℤ dot d rate +ℤ dot rate rate
  kinetic = simp (dot-form ha', dot-form hd, dot-form ha) (square-minus own-linear n (at d) (at rate) at-rate')

  tension : E (plus v d) u ≡ E u v -ℤ dot d (D1 u)
  tension = simp (E-form hp, E-form hu, dot-form hd) (form-plus rise-linear (suc n) (at v) (at d) (at-plus hv hd) (at u) ∙ ap₂ (λ x y. x +ℤ y) (form-comm rise (suc n) (at v) (at u)) (parts hd hu))

  bending : dot (D1 (plus v d)) (D1 u) ≡ dot (D1 u) (D1 v) +ℤ dot d (D2 u)
  bending = D1-form hp hu ∙ form-plus bend-linear n (at v) (at d) (at-plus hv hd) (at u)
      ∙ ap₂ (λ x y. x +ℤ y) (form-comm bend n (at v) (at u) ∙ sym (D1-form hu hv)) (parts₂ hd hu ∙ sym (dot-form hd (D2 u)))

  viscous : E rate' rate' ≡ E d d +ℤ pos 2 *ℤ dot d (D1 rate) +ℤ E rate rate
  viscous = simp (E-form ha', E-form hd, E-form ha, dot-form hd) (square-minus rise-linear (suc n) (at d) (at rate) at-rate'
      ∙ ap (λ z. form rise (suc n) (at d) (at d) -ℤ pos 2 *ℤ z +ℤ form rise (suc n) (at rate) (at rate)) (parts hd ha)
      ∙ solve 3 (λ x y z. x ⊖ # 2 ⊗ ⊝ y ⊕ z ≐ x ⊕ # 2 ⊗ y ⊕ z) tt (form rise (suc n) (at d) (at d)) (form own n (at d) (at (D1 rate))) (form rise (suc n) (at rate) (at rate)))

pub contact : {ψ γ d : List ℤ} {n : ℕ} → ψ spans n → γ spans n → d spans n → let ψ' = minus ψ (times γ d) in
    dot ψ' ψ' ≡ dot ψ ψ -ℤ pos 2 *ℤ dot ψ (times γ d) +ℤ dot (times γ d) (times γ d)
contact {ψ} {γ} {d} {n} hψ hγ hd =
    let ht = spans-times hγ hd in
    let h' = spans-minus hψ ht in
    simp (dot-form h', dot-form hψ, dot-form ht) (square-minus own-linear n (at ψ) (at (times γ d)) (at-minus hψ ht))

-- ---- one step

-- every list has as many entries as the setup has points
pub record Fit (t : WorkedStep) : Type 0 where
  pub newer : t.before.newer spans points t.setup
  pub older : t.before.older spans points t.setup
  pub contact : t.before.contact spans points t.setup
  pub gradients : t.gradients.points spans points t.setup
  pub moves : t.moves.points spans points t.setup

module _ (t : WorkedStep) (fit : Fit t) where
  abbrev s : Setup
  s = t.setup

  abbrev x : State
  x = t.before

  abbrev G : PointsAndFinger
  G = t.gradients

  abbrev F : Forces
  F = t.forces

  abbrev δ : PointsAndFinger
  δ = t.moves

  -- what the finger adds to the equation at p
  pull : ℤ
  pull = G.finger *ℤ G.finger *ℤ (at δ.points (p s) -ℤ δ.finger) +ℤ pos 2 *ℤ G.finger *ℤ x.finger.contact

  -- a point's residual
  residual_is : (k : ℕ) → k < points s → at (residuals t).points (suc k)
      ≡ A s G (suc k) *ℤ at δ.points (suc k) -ℤ c s x G F (suc k) +ℤ cond (eqb (suc k) (p s)) pull (pos 0)
  unfolding residuals system pull
  residual_is k l = get_d_tabulate (points s) _ (pos 0) k l ∙ go (eqb (suc k) (p s)) refl
    where
      go : (b : Bool) → eqb (suc k) (p s) ≡ b → cond b (residual₁ (system s x G F) (at δ.points (suc k)) δ.finger) (A s G (suc k) *ℤ at δ.points (suc k) -ℤ c s x G F (suc k))
          ≡ A s G (suc k) *ℤ at δ.points (suc k) -ℤ c s x G F (suc k) +ℤ cond b pull (pos 0)
      go true q =
          let here : suc k ≡ p s = eqb_yes (rw q tt) in
          ap (λ i. residual₁ (system s x G F) (at δ.points i) δ.finger) here
          ∙ solve 6 (λ A g d y c f. (A ⊕ g ⊗ g) ⊗ d ⊕ ⊝ (g ⊗ g) ⊗ y ⊖ (c ⊖ # 2 ⊗ g ⊗ f) ≐ A ⊗ d ⊖ c ⊕ (g ⊗ g ⊗ (d ⊖ y) ⊕ # 2 ⊗ g ⊗ f)) tt
          (A s G (p s)) G.finger (at δ.points (p s)) δ.finger (c s x G F (p s)) x.finger.contact
          ∙ ap (λ i. A s G i *ℤ at δ.points i -ℤ c s x G F i +ℤ pull) (sym here)
      go false q = solve 1 (λ r. r ≐ r ⊕ # 0) tt (A s G (suc k) *ℤ at δ.points (suc k) -ℤ c s x G F (suc k))

  -- Σ residual × move over the points
  residuals-sum : let d = δ.points in let u = x.newer in let a = minus u x.older in let γd = times G.points d in
      dot (residuals t).points d ≡ (pos 4096 +ℤ pos (Z s)) *ℤ dot d d +ℤ dot γd γd -ℤ pos 8192 *ℤ dot d a -ℤ pos (L s) *ℤ dot d (D1 u) +ℤ pos (M s) *ℤ dot d (D2 u)
      -ℤ pos (S s) *ℤ dot d (D1 a) -ℤ pos 2 *ℤ dot x.contact γd -ℤ F.pluck *ℤ at d (e s) +ℤ pull *ℤ at d (p s)
  unfolding residuals form A c
  residuals-sum =
      let d = δ.points in
      let u = x.newer in
      let a = minus u x.older in
      let γd = times G.points d in
      let n = points s in
      let hd = fit.moves in
      dot-form (record { long = length-tabulate n _ }) d
      ∙ sum-linear n
      ((pos 4096 +ℤ pos (Z s), d · d) ∷ (pos 1, γd · γd)
      ∷ (neg_ℤ (pos 8192), d · a) ∷ (neg_ℤ (pos (L s)), d · D1 u) ∷ (pos (M s), d · D2 u)
      ∷ (neg_ℤ (pos (S s)), d · D1 a) ∷ (neg_ℤ (pos 2), x.contact · γd)
      ∷ (neg_ℤ (pos 1), λ k. cond (eqb (suc k) (e s)) F.pluck (pos 0) *ℤ at d (suc k)) ∷ (pos 1, λ k. cond (eqb (suc k) (p s)) pull (pos 0) *ℤ at d (suc k)) ∷ [])
      (λ k l. ap (λ z. z *ℤ at d (suc k)) (residual_is k l) ∙ rw (at-times fit.gradients hd (suc k))
      (solve 13 (λ Z L M S G d a Du DDu Da ψ F P. ((# 4096 ⊕ Z ⊕ G ⊗ G) ⊗ d ⊖ (# 8192 ⊗ a ⊕ L ⊗ Du ⊖ M ⊗ DDu ⊕ S ⊗ Da ⊕ # 2 ⊗ G ⊗ ψ ⊕ F) ⊕ P) ⊗ d
      ≐ (# 4096 ⊕ Z) ⊗ (d ⊗ d) ⊕ (# 1 ⊗ (G ⊗ d ⊗ (G ⊗ d)) ⊕ (⊝ # 8192 ⊗ (d ⊗ a) ⊕ (⊝ L ⊗ (d ⊗ Du) ⊕ (M ⊗ (d ⊗ DDu)
      ⊕ (⊝ S ⊗ (d ⊗ Da) ⊕ (⊝ # 2 ⊗ (ψ ⊗ (G ⊗ d)) ⊕ (⊝ # 1 ⊗ (F ⊗ d) ⊕ (# 1 ⊗ (P ⊗ d) ⊕ # 0))))))))) tt
      (pos (Z s)) (pos (L s)) (pos (M s)) (pos (S s)) (at G.points (suc k)) (at d (suc k)) (at a (suc k)) (at (D1 u) (suc k)) (at (D2 u) (suc k)) (at (D1 a) (suc k))
      (at x.contact (suc k)) (cond (eqb (suc k) (e s)) F.pluck (pos 0)) (cond (eqb (suc k) (p s)) pull (pos 0))))
      ∙ simp (dot-form hd, dot-form fit.contact, dot-form (spans-times fit.gradients hd)) (rw (dot-only hd (e s) F.pluck, dot-only hd (p s) pull)
      (solve 15 (λ Z L M S F P de dp dd tt da dDu dDDu dDa ψt. (# 4096 ⊕ Z) ⊗ dd ⊕ (# 1 ⊗ tt ⊕ (⊝ # 8192 ⊗ da ⊕ (⊝ L ⊗ dDu ⊕ (M ⊗ dDDu ⊕ (⊝ S ⊗ dDa ⊕ (⊝ # 2 ⊗ ψt ⊕ (⊝ # 1 ⊗ (F ⊗ de) ⊕ (# 1 ⊗ (P ⊗ dp) ⊕ # 0))))))))
      ≐ (# 4096 ⊕ Z) ⊗ dd ⊕ tt ⊖ # 8192 ⊗ da ⊖ L ⊗ dDu ⊕ M ⊗ dDDu ⊖ S ⊗ dDa ⊖ # 2 ⊗ ψt ⊖ F ⊗ de ⊕ P ⊗ dp) tt
      (pos (Z s)) (pos (L s)) (pos (M s)) (pos (S s)) F.pluck pull (at d (e s)) (at d (p s))
      (form own n (at d) (at d)) (form own n (at γd) (at γd)) (form own n (at d) (at a)) (form own n (at d) (at (D1 u))) (form own n (at d) (at (D2 u))) (form own n (at d) (at (D1 a))) (form own n (at x.contact) (at γd))))

  pub balance : stored_energy s (next_state t) ≡ stored_energy s x +ℤ released t +ℤ work t -ℤ loss t +ℤ rounding_work t
  unfolding stored_energy next_state work loss rounding_work dot_all residuals system pull
  balance =
      let hu = fit.newer in
      let hv = fit.older in
      let hd = fit.moves in
      let d = δ.points in
      let u = x.newer in
      let a = minus u x.older in
      let γd = times G.points d in
      rw (kinetic hu hv hd, tension hu hv hd, bending hu hv hd, viscous hu hv hd, contact fit.contact fit.gradients hd, residuals-sum)
      (solve 28 (λ L M S Z m g φ w w' y F f de dp dd da aa uv dDu DuDv dDDu Edd dDa Eaa ψψ ψt tt r.
      # 8192 ⊗ (dd ⊖ # 2 ⊗ da ⊕ aa) ⊕ # 2 ⊗ L ⊗ (uv ⊖ dDu) ⊕ # 2 ⊗ M ⊗ (DuDv ⊕ dDDu) ⊖ S ⊗ (Edd ⊕ # 2 ⊗ dDa ⊕ Eaa) ⊕ # 2 ⊗ (ψψ ⊖ # 2 ⊗ ψt ⊕ tt)
      ⊕ # 2 ⊗ m ⊗ ((w' ⊕ y ⊖ w) ⊗ (w' ⊕ y ⊖ w)) ⊕ # 2 ⊗ ((φ ⊕ g ⊗ (dp ⊖ y)) ⊗ (φ ⊕ g ⊗ (dp ⊖ y)))
      ≐ (# 8192 ⊗ aa ⊕ # 2 ⊗ L ⊗ uv ⊕ # 2 ⊗ M ⊗ DuDv ⊖ S ⊗ Eaa ⊕ # 2 ⊗ ψψ ⊕ # 2 ⊗ m ⊗ ((w ⊖ w') ⊗ (w ⊖ w')) ⊕ # 2 ⊗ (φ ⊗ φ))
      ⊕ r ⊕ (# 2 ⊗ F ⊗ de ⊕ # 2 ⊗ f ⊗ y) ⊖ (# 2 ⊗ Z ⊗ dd ⊕ S ⊗ Edd ⊕ r)
      ⊕ # 2 ⊗ ((# 4096 ⊕ Z) ⊗ dd ⊕ tt ⊖ # 8192 ⊗ da ⊖ L ⊗ dDu ⊕ M ⊗ dDDu ⊖ S ⊗ dDa ⊖ # 2 ⊗ ψt ⊖ F ⊗ de ⊕ (g ⊗ g ⊗ (dp ⊖ y) ⊕ # 2 ⊗ g ⊗ φ) ⊗ dp
      ⊕ (⊝ (g ⊗ g) ⊗ dp ⊕ (m ⊕ g ⊗ g) ⊗ y ⊖ (# 2 ⊗ m ⊗ (w ⊖ w') ⊕ f ⊕ # 2 ⊗ g ⊗ φ)) ⊗ y)) tt
      (pos (L s)) (pos (M s)) (pos (S s)) (pos (Z s)) (pos (m s)) G.finger x.finger.contact x.finger.newer x.finger.older δ.finger F.pluck F.finger (at d (e s)) (at d (p s))
      (dot d d) (dot d a) (dot a a) (E u x.older) (dot d (D1 u)) (dot (D1 u) (D1 x.older)) (dot d (D2 u)) (E d d) (dot d (D1 a)) (E a a) (dot x.contact x.contact) (dot x.contact γd) (dot γd γd) (released t))

-- ---- the lists fit where rules 1 to 6 are passed

pub fit : {s : Setup} {neck : Neck} {x : State} (F : Forces) → Examined s neck x → Fit (worked_step s neck x F)
unfolding worked_step clear
fit {s} {neck} {x} F h = record { newer = h.newer; older = h.older; contact = (examined-clear h).contact; gradients = spans-last h F; moves = spans-moves s (clear s neck x) _ F }
