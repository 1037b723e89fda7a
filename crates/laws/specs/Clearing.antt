-- 02, item 3: before a step ψ becomes 0 wherever the depth is at most 0, and φ likewise; twice the squares of what is cleared is the energy that goes.
use Rattle.std.specs.Prelude.{◌≡◌, Bool, true, false, cond, ℕ, suc, T, ℤ, ◌+ℤ◌, ◌-ℤ◌, ◌*ℤ◌}
use Rattle.std.proofs.Math.Path.{refl, ap₂}
use Rattle.std.proofs.Common.{◌∙◌, ap}
use mathlib.Core.List.{List, [], ◌∷◌, zip_with}
use Rattle.std.proofs.Math.IntN.{pos}
use Rattle.std.specs.Int.Signed.{le_z}
use Rattle.std.proofs.Math.Facts.{and_yes, yes_and}
use Rattle.integers.specs.Solve.{◌⊕◌, ◌⊗◌, #◌, ◌≐◌, solve}
use Rattle.integers.specs.Sum.{sum-cong, sum-add}
use Rattle.integers.specs.Tests.{le-le_z, lt-le_z}
use Rattle.model.specs.Ranges.{all, inside, contact_ok}
use Rattle.model.specs.Setup.{L, M, S, m, p, points}
use Rattle.model.specs.Differences.{at, minus, D1, dot, E}
use Rattle.model.specs.State.{State, Neck}
use Rattle.model.specs.Step.{depths, kept, let_go, clear, cleared}
use Rattle.model.specs.Energy.{stored_energy, dot_all}
use Rattle.model.specs.declared.Setup.{Setup}
use Rattle.promises.specs.Promises.{ClearedAt, Clears}
use Rattle.laws.specs.InRange.{InRange}
use Rattle.laws.specs.Strings.{◌spans◌, spans-zip, at-zip, spans-minus, at-minus, form, dot-form, ◌·◌}
use Rattle.laws.specs.Accepted.{Examined}

-- ---- one contact

cleared_at : (d ψ : ℤ) → ClearedAt d ψ (kept d ψ) (let_go d ψ)
unfolding kept let_go
cleared_at d ψ = record { free = λ h. by true (le-le_z d (pos 0) h); contact = λ h. by false (lt-le_z d (pos 0) h) }
  where
    by : (b : Bool) → le_z d (pos 0) ≡ b → (kept d ψ ≡ cond b (pos 0) ψ) × (let_go d ψ ≡ cond b ψ (pos 0))
    by b q = (ap (λ b. cond b (pos 0) ψ) q, ap (λ b. cond b ψ (pos 0)) q)

squares : (d ψ : ℤ) → ψ *ℤ ψ ≡ kept d ψ *ℤ kept d ψ +ℤ let_go d ψ *ℤ let_go d ψ
unfolding kept let_go
squares d ψ = go (le_z d (pos 0))
  where
    go : (b : Bool) → ψ *ℤ ψ ≡ cond b (pos 0) ψ *ℤ cond b (pos 0) ψ +ℤ cond b ψ (pos 0) *ℤ cond b ψ (pos 0)
    go true = solve 1 (λ a. a ⊗ a ≐ # 0 ⊗ # 0 ⊕ a ⊗ a) tt ψ
    go false = solve 1 (λ a. a ⊗ a ≐ a ⊗ a ⊕ # 0 ⊗ # 0) tt ψ

-- ---- what is kept is in range

pub kept-ok : (d ψ : ℤ) → T (contact_ok ψ) → T (contact_ok (kept d ψ))
unfolding kept contact_ok inside
kept-ok d ψ h = go (le_z d (pos 0))
  where
    go : (b : Bool) → T (contact_ok (cond b (pos 0) ψ))
    go true = tt
    go false = h

all-kept : (ds ψs : List ℤ) → T (all contact_ok ψs) → T (all contact_ok (zip_with kept ds ψs))
unfolding zip_with
all-kept [] ψs h = tt
all-kept (d ∷ ds) [] h = tt
all-kept (d ∷ ds) (ψ ∷ ψs) h = let k = and_yes (contact_ok ψ) (all contact_ok ψs) h in yes_and (contact_ok (kept d ψ)) (all contact_ok (zip_with kept ds ψs)) (kept-ok d ψ k.0) (all-kept ds ψs k.1)

pub contacts-clear : (s : Setup) (neck : Neck) (x : State) → T (all contact_ok (x.finger.contact ∷ x.contact)) → let y = clear s neck x in T (all contact_ok (y.finger.contact ∷ y.contact))
unfolding clear zip_with
contacts-clear s neck x = let d = depths s neck x in all-kept (d.finger ∷ d.points) (x.finger.contact ∷ x.contact)

pub in-range-clear : (s : Setup) (neck : Neck) {x : State} → InRange x → InRange (clear s neck x)
unfolding clear
in-range-clear s neck {x} r = record {
  newer = r.newer;
  older = r.older;
  height = r.height;
  older-height = r.older-height;
  contact = all-kept (depths s neck x).points x.contact r.contact;
  finger = kept-ok (depths s neck x).finger x.finger.contact r.finger;
}

-- ---- all of them

module _ {s : Setup} {neck : Neck} {x : State} (h : Examined s neck x) where
  hd : (depths s neck x).points spans points s
  hd = spans-minus h.heights h.newer

  pub at-kept : (i : ℕ) → at (clear s neck x).contact i ≡ kept (at (depths s neck x).points i) (at x.contact i)
  unfolding clear kept
  at-kept i = at-zip kept refl hd h.contact i

  pub at-let_go : (i : ℕ) → at (cleared s neck x).points i ≡ let_go (at (depths s neck x).points i) (at x.contact i)
  unfolding cleared let_go
  at-let_go i = at-zip let_go refl hd h.contact i

  pub spans-cleared : (cleared s neck x).points spans points s
  unfolding cleared let_go
  spans-cleared = spans-zip let_go refl hd h.contact

  -- it keeps what rules 1 to 6 ask for
  pub examined-clear : Examined s neck (clear s neck x)
  unfolding clear kept
  examined-clear = record { setup = h.setup; heights = h.heights; stiffness = h.stiffness; newer = h.newer; older = h.older; contact = spans-zip kept refl hd h.contact }

  pub clears : Clears s neck x (clear s neck x) (cleared s neck x)
  unfolding clear cleared
  clears = record {
    newer = refl;
    older = refl;
    finger-newer = refl;
    finger-older = refl;
    length-contact = examined-clear.contact.long;
    length-cleared = spans-cleared.long;
    point = λ i. rw (at-kept i, at-let_go i, at-minus h.heights h.newer i) (cleared_at (at neck.heights i -ℤ at x.newer i) (at x.contact i));
    finger = cleared_at (at x.newer (p s) -ℤ x.finger.newer) x.finger.contact;
  }

  contact-squares : dot x.contact x.contact ≡ dot (clear s neck x).contact (clear s neck x).contact +ℤ dot (cleared s neck x).points (cleared s neck x).points
  unfolding form
  contact-squares =
      let n = points s in
      let κ = (clear s neck x).contact in
      let ρ = (cleared s neck x).points in
      simp (dot-form h.contact, dot-form examined-clear.contact, dot-form spans-cleared)
      (sum-cong n (λ k l. rw (at-kept (suc k), at-let_go (suc k)) (squares (at (depths s neck x).points (suc k)) (at x.contact (suc k)))) ∙ sum-add n (κ · κ) (ρ · ρ))

  -- the energy let go
  pub energy-released : stored_energy s x ≡ stored_energy s (clear s neck x) +ℤ pos 2 *ℤ dot_all (cleared s neck x) (cleared s neck x)
  unfolding stored_energy dot_all clear cleared
  energy-released =
      let u = x.newer in
      let v = x.older in
      let a = minus u v in
      let κ = clear s neck x in
      let ρ = cleared s neck x in
      let rest = pos 8192 *ℤ dot a a +ℤ pos 2 *ℤ pos (L s) *ℤ E u v +ℤ pos 2 *ℤ pos (M s) *ℤ dot (D1 u) (D1 v) -ℤ pos (S s) *ℤ E a a in
      let mass = pos 2 *ℤ pos (m s) *ℤ ((x.finger.newer -ℤ x.finger.older) *ℤ (x.finger.newer -ℤ x.finger.older)) in
      ap₂ (λ a b. rest +ℤ pos 2 *ℤ a +ℤ mass +ℤ pos 2 *ℤ b) contact-squares (squares (depths s neck x).finger x.finger.contact)
      ∙ solve 6 (λ e k r m κ ρ. e ⊕ # 2 ⊗ (k ⊕ r) ⊕ m ⊕ # 2 ⊗ (κ ⊕ ρ) ≐ e ⊕ # 2 ⊗ k ⊕ m ⊕ # 2 ⊗ κ ⊕ # 2 ⊗ (r ⊕ ρ)) tt
      rest (dot κ.contact κ.contact) (dot ρ.points ρ.points) mass (κ.finger.contact *ℤ κ.finger.contact) (ρ.finger *ℤ ρ.finger)
