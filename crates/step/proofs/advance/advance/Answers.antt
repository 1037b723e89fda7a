-- Row 12 is gone through, the next state is worked out, and its outcome is what is left of the step.
use Rattle.std.proofs.Common.{◌≡◌, refl, sym, ◌∙◌, ap, arith, rules, length, take, to_z, of_z}
use Rattle.std.specs.Prelude.{Bool, not, true, false, List, [], ◌∷◌, ℕ, ℤ, ◌≤◌, drop}
use Rattle.std.specs.Int.{w32}
use Rattle.std.proofs.lemmas.List.{length-take-le}
use Rattle.model.specs.Ranges.{all, force_ok}
use Rattle.model.specs.Refusal.{first_of, refused}
use Rattle.model.specs.Setup.{setup_rules}
use Rattle.model.specs.State.{State, Neck, Forces}
use Rattle.model.specs.Step.{clear, call_rules, buffers_rule, state_rule, forces_rule, next_state, worked_step}
use Rattle.model.specs.Neck.{heights_rule}
use Rattle.model.specs.declared.Setup.{Setup}
use Rattle.promises.specs.Promises.{Passed}
use Rattle.laws.specs.Accepted.{Examined, examined}
use Rattle.laws.specs.Advance.{advanced_result, advance, late_rules}
use Rattle.laws.specs.Ready.{Ready}
use Rattle.laws.specs.Refusals.{Reached, reached-top, row-passed-not, row-holds-not, row-fact, refused-by, append-passed, not-not}
use Rattle.step.specs.Outcome.{outcome, by-outcome}
use Rattle.step.proofs.advance.advance.Goals as goal

module _ {s : Setup} {neck : Neck} {x : State} (r : Ready s neck x) (F : Forces) where
  turned_down : (turn n : ℕ) → first_of (late_rules s neck x F) ≡ n → (n ≡ 0 → ⊥) → advanced_result (refused n) x.older x.contact ≡ advance turn s neck x F
  unfolding advance
  turned_down turn n e h = refused-by (late_rules s neck x F) _ _ n e h

  module _ {t : Bool} (e : t ≡ all force_ok (F.pluck ∷ F.finger ∷ [])) where
    held-12 : t ≡ false → first_of (late_rules s neck x F) ≡ 12
    unfolding late_rules
    held-12 l = row-holds-not reached-top e (ap not l)

    after-12 : t ≡ true → Reached (late_rules s neck x F) (drop 1 (late_rules s neck x F))
    unfolding late_rules
    after-12 l = row-passed-not reached-top e (ap not l)

    -- 1 to 12 are passed
    passed : t ≡ true → Passed (call_rules s neck x F)
    unfolding call_rules
    passed l =
        append-passed (setup_rules s) (buffers_rule s neck x ∷ heights_rule neck.heights ∷ state_rule x ∷ forces_rule F ∷ []) r.setup
        (r.buffers.0, (r.heights.0, (r.state.0, (not-not (all force_ok (F.pluck ∷ F.finger ∷ [])) (row-fact e (ap not l)), tt))))

lengths : {s : Setup} {neck : Neck} {x : State} → Ready s neck x → Examined s neck x
unfolding setup_rules
lengths {s} {neck} {x} r = examined s neck x [] (append-passed (setup_rules s) (buffers_rule s neck x ∷ []) r.setup r.buffers)

pub returns-then-not-forces_ok : goal.returns-then-not-forces_ok
returns-then-not-forces_ok c = turned_down c.requires _ _ 12 (held-12 c.requires _ c.forces_ok.ensures c.if-not-forces_ok.true) (λ z. omega arith)

pub work_out-next-requires : goal.work_out-next-requires
work_out-next-requires c = (passed c.requires _ c.forces_ok.ensures c.if-not-forces_ok.false, refl, refl)

-- the arrays are long enough
fits : {s : Setup} {neck : Neck} {x : State} → Ready s neck x → (l : List ℤ) → length l ≡ 127 → length x.newer ≤ length l
fits r l e = let q = lengths r in let f = q.newer.long in let h = q.setup.segments in omega arith

pub slice_bounds-string-end : goal.slice_bounds-string-end
slice_bounds-string-end c = fits c.requires _ c.work_out-next.ensures.0

pub slice_bounds-outcome-end : goal.slice_bounds-outcome-end
slice_bounds-outcome-end c = sym (length-take-le _ _ (fits c.requires _ c.work_out-next.ensures.0))

pub slice_bounds-contacts-end : goal.slice_bounds-contacts-end
slice_bounds-contacts-end c = fits c.requires _ c.work_out-next.ensures.1

pub slice_bounds-outcome-end-2 : goal.slice_bounds-outcome-end-2
slice_bounds-outcome-end-2 c = sym (length-take-le _ _ (fits c.requires _ c.work_out-next.ensures.1))

pub outcome-requires : goal.outcome-requires
outcome-requires c =
    let h = lengths c.requires in (
      c.requires.setup,
      length-take-le _ _ (fits c.requires _ c.work_out-next.ensures.0) ∙ h.newer.long,
      length-take-le _ _ (fits c.requires _ c.work_out-next.ensures.1) ∙ h.newer.long,
      h.older.long,
      h.contact.long,
    )

pub returns : goal.returns
unfolding next_state worked_step clear
returns c =
    let next = c.work_out-next.ensures.2 in
    let n = (lengths c.requires).newer.long in
    let height : to_z w32 (of_z w32 c.args.finger.newer) ≡ c.args.finger.newer = search rules in
    let string_is = ap (λ (n : ℕ). take n c.work_out-next.new.string) n ∙ ap (λ y. y.newer) next in
    let contacts-are = ap (λ (n : ℕ). take n c.work_out-next.new.contacts) n ∙ ap (λ y. y.contact) next in
    c.outcome.ensures
    ∙ ap (λ y. outcome c.args.turn c.args.setup y c.args.older.now c.args.contact.now) (λ i. record {
      newer = string_is i;
      older = c.args.older.now;
      contact = contacts-are i;
      finger = record { newer = (next i).finger.newer; older = height i; contact = (next i).finger.contact };
    })
    ∙ by-outcome c.args.turn c.args.setup _ _ _ c.args.older.now (after-12 c.requires _ c.forces_ok.ensures c.if-not-forces_ok.false)
