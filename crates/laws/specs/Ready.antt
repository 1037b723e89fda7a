-- An accepted step keeps what 1 to 5, 6, 7 and 11 ask of a voice; so the next step is refused, if it is, with 12, 13 or 14.
use Rattle.std.specs.Prelude.{◌≡◌, refl, Bool, true, false, not, ◌⊎◌, ℕ, zero, suc, T}
use Rattle.std.proofs.Common.{sym, ◌∙◌, inl, inr, arith}
use mathlib.Core.List.{List, [], ◌∷◌, ◌++◌}
use Rattle.std.proofs.Math.ListN.{length}
use Rattle.std.proofs.Math.Facts.{and_yes, T_not-not, yes_eqb}
use Rattle.model.specs.Ranges.{all, displacement_ok, contact_ok, force_ok}
use Rattle.model.specs.Refusal.{Rule, ◌when◌, first_of, refused, unless}
use Rattle.model.specs.Setup.{points, length_ok, setup_rules}
use Rattle.model.specs.State.{State, Lent, state_of, Neck, Forces}
use Rattle.model.specs.Neck.{heights_rule}
use Rattle.model.specs.Step.{clear, worked_step, next_state, buffers_rule, state_rule, call_rules, result_rules, step_rules, step}
use Rattle.model.specs.declared.Setup.{Setup}
use Rattle.promises.specs.Promises.{Passed}
use Rattle.laws.specs.Refusals.{fails, first-append, append-passed, not-not, yes-all, never_both}
use Rattle.laws.specs.InRange.{InRange, in-range, passed-range}
use Rattle.laws.specs.Strings.{spans-plus, spans-minus, spans-times}
use Rattle.laws.specs.Accepted.{StepFacts, result_made}
use Rattle.laws.specs.Balance.{fit}

-- the rows 1 to 5, 6, 7 and 11, passed
pub record Ready (s : Setup) (neck : Neck) (x : State) : Type 0 where
  pub setup : Passed (setup_rules s)
  pub buffers : Passed (buffers_rule s neck x ∷ [])
  pub heights : Passed (heights_rule neck.heights ∷ [])
  pub state : Passed (state_rule x ∷ [])

length-ok : (s : Setup) {n : ℕ} → n ≡ points s → T (length_ok s n)
unfolding length_ok
length-ok s q = yes_eqb q

module _ {s : Setup} {neck : Neck} {x : State} {F : Forces} {y : State} (h : StepFacts s neck x F y) (r : Ready s neck x) where
  z : State
  z = next_state (worked_step s neck x F)

  lengths : Passed (buffers_rule s neck z ∷ [])
  unfolding z next_state worked_step clear
  lengths =
      let f = fit F h.examined in
      let x = h.examined in
      let ns = length neck.heights ∷ length neck.stiffness ∷ length z.newer ∷ length z.older ∷ length z.contact ∷ [] in (
        not-not (all (length_ok s) ns) (yes-all (length_ok s) ns (
          length-ok s x.heights.long,
          (
            length-ok s x.stiffness,
            (
              length-ok s (spans-plus f.older f.moves).long,
              (length-ok s x.newer.long, (length-ok s (spans-minus f.contact (spans-times f.gradients f.moves)).long, tt)),
            ),
          ),
        )),
        tt,
      )

  range : InRange z
  unfolding z next_state worked_step clear step_rules call_rules result_rules setup_rules
  range =
      let rules = step_rules s neck x F in
      let u = and_yes (displacement_ok z.finger.newer) (all displacement_ok z.newer) (T_not-not (all displacement_ok (z.finger.newer ∷ z.newer)) (fails 13 rules h.passed)) in
      let ψ = and_yes (contact_ok z.finger.contact) (all contact_ok z.contact) (T_not-not (all contact_ok (z.finger.contact ∷ z.contact)) (fails 14 rules h.passed)) in
      let before = in-range x r.state in
      record { newer = u.1; older = before.newer; height = u.0; older-height = before.height; contact = ψ.1; finger = ψ.0 }

  pub ready-next : Ready s neck y
  unfolding z
  ready-next = rw h.result record { setup = r.setup; buffers = lengths; heights = r.heights; state = passed-range z range }

-- ---- what a ready voice is refused for

-- the rows 12, 13 and 14
last-rows : (a b c : Bool) (n : ℕ) → first_of (12 when a ∷ 13 when b ∷ 14 when c ∷ []) ≡ suc n → (suc n ≡ 12) ⊎ ((suc n ≡ 13) ⊎ (suc n ≡ 14))
last-rows true b c n q = inl (sym q)
last-rows false true c n q = inr (inl (sym q))
last-rows false false true n q = inr (inr (sym q))
last-rows false false false n q = absurd (omega arith)

-- the rows below those that a ready voice has passed give its number
pub rows_left : {s : Setup} {neck : Neck} {x : State} → Ready s neck x → (rules : List Rule)
    → first_of (setup_rules s ++ buffers_rule s neck x ∷ heights_rule neck.heights ∷ state_rule x ∷ rules) ≡ first_of rules
unfolding setup_rules
rows_left {s} {neck} {x} r rules =
    let later = buffers_rule s neck x ∷ heights_rule neck.heights ∷ state_rule x ∷ [] in
    first-append (setup_rules s ++ later) rules (append-passed (setup_rules s) later r.setup (r.buffers.0, (r.heights.0, (r.state.0, tt))))

pub ready_refused : (s : Setup) (neck : Neck) (v : Lent) (F : Forces) → Ready s neck (state_of v) → (n : ℕ) → (step s neck v F).answer ≡ refused n → (n ≡ 12) ⊎ ((n ≡ 13) ⊎ (n ≡ 14))
unfolding step step_rules call_rules result_rules setup_rules
ready_refused s neck v F r n q = go (first_of (step_rules s neck x F)) refl q
  where
    x : State
    x = state_of v

    y : State
    y = next_state (worked_step s neck x F)

    b₁₂ : Bool
    b₁₂ = not (all force_ok (F.pluck ∷ F.finger ∷ []))

    b₁₃ : Bool
    b₁₃ = not (all displacement_ok (y.finger.newer ∷ y.newer))

    b₁₄ : Bool
    b₁₄ = not (all contact_ok (y.finger.contact ∷ y.contact))

    go : (m : ℕ) → first_of (step_rules s neck x F) ≡ m → (unless m (result_made s neck v F) (λ k. record { answer = refused k; lent = v })).answer ≡ refused n → (n ≡ 12) ⊎ ((n ≡ 13) ⊎ (n ≡ 14))
    go zero e q = never_both q refl
    go (suc m) e q = let same : suc m ≡ n = cc in rw (← same) (last-rows b₁₂ b₁₃ b₁₄ m (sym (rows_left r (12 when b₁₂ ∷ 13 when b₁₃ ∷ 14 when b₁₄ ∷ [])) ∙ e))
