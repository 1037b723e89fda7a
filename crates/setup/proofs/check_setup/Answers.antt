-- `check_setup` meets its contract: its answer is that of the examination.
use Rattle.std.proofs.Common.{sym}
use Rattle.model.specs.Refusal.{accepted, refused}
use Rattle.model.specs.Setup.{setup_rules, setup}
use Rattle.laws.specs.Answered.{handed-on, turned-down}
use Rattle.laws.specs.Refusals.{made_by}
use Rattle.setup.proofs.check_setup.Goals as goal

pub returns-in_err-examine_setup : goal.returns-in_err-examine_setup
unfolding setup
returns-in_err-examine_setup c =
    let s = c.args.setup in
    rw (handed-on _ _ c.from_residual.ensures) (turned-down (setup_rules s) (accepted s) refused _ (sym c.in_err-examine_setup.ensures))

pub returns : goal.returns
unfolding setup
returns c = let s = c.args.setup in made_by (setup_rules s) (accepted s) refused (sym c.in_ok-examine_setup.ensures)
