-- The rows 1 to 5, and then 6, are gone through; the strings are measured in the order in which they are lent.
use Rattle.std.proofs.Common.{◌≡◌, refl, sym, ap, subst}
use Rattle.std.specs.Prelude.{[], ◌∷◌, not}
use Rattle.model.specs.Refusal.{first_of}
use Rattle.model.specs.Setup.{setup_rules}
use Rattle.model.specs.State.{Lent, state_of, Neck}
use Rattle.model.specs.Step.{buffers_rule}
use Rattle.model.specs.declared.Setup.{Setup}
use Rattle.laws.specs.Advance.{in_order, same-lengths}
use Rattle.laws.specs.Answered.{handed-on, refused-rows}
use Rattle.laws.specs.Call.{lent_with, buffer_rows}
use Rattle.laws.specs.Refusals.{Reached, row-passed-not, row-holds-not}
use Rattle.setup.specs.Entry.{begun}
use Rattle.examination.proofs.arguments.examine_buffers.Goals as goal

-- 6 is reached
at-6 : (s : Setup) (neck : Neck) (v : Lent) → 0 ≡ first_of (setup_rules s) → Reached (buffer_rows s neck (state_of v)) (buffers_rule s neck (in_order v) ∷ [])
at-6 s neck v e = subst (λ row. Reached (buffer_rows s neck (state_of v)) (row ∷ [])) (sym (same-lengths s neck v)) (begun s (buffers_rule s neck (state_of v) ∷ []) e refl).reached

pub returns-in_err-examine_setup : goal.returns-in_err-examine_setup
returns-in_err-examine_setup c turn = rw (handed-on _ _ c.from_residual.ensures) (sym (refused-rows (setup_rules c.args.setup) _ c.in_err-examine_setup.ensures _))

pub lengths_ok-requires : goal.lengths_ok-requires
lengths_ok-requires c = (begun c.args.setup [] c.in_ok-examine_setup.ensures refl).facts.segments-low

pub returns-then-not-lengths_ok : goal.returns-then-not-lengths_ok
returns-then-not-lengths_ok c turn = let x = c.args.state in sym (row-holds-not (at-6 c.args.setup _ (lent_with turn x.finger x.newer.now x.older.now x.contact.now) c.in_ok-examine_setup.ensures) c.lengths_ok.ensures (ap not c.if-not-lengths_ok.true))

pub returns : goal.returns
returns c turn = let x = c.args.state in sym (row-passed-not (at-6 c.args.setup _ (lent_with turn x.finger x.newer.now x.older.now x.contact.now) c.in_ok-examine_setup.ensures) c.lengths_ok.ensures (ap not c.if-not-lengths_ok.false)).number
