-- By the turn, `advance` is given the strings in one order or the other.
use Rattle.model.specs.Lending.{the_lent}
use Rattle.laws.specs.Answered.{handed-on}
use Rattle.laws.specs.Advance.{ready-first, ready-second, advanced-first, advanced-second}
use Rattle.step.proofs.turn.step_ready.Goals as goal
use Rattle.step.proofs.turn.step_ready.Goals.{then-turn-eq0+in_ok-stepped, else-turn-eq0+in_ok-stepped-2}

pub advance-requires : goal.advance-requires
advance-requires c = ready-first c.args.setup _ (the_lent c.args.lent.now) (record { pluck = c.args.forces.pluck; finger = c.args.forces.finger }) c.requires c.if-turn-eq0.true

pub advance-requires-else-turn-eq0 : goal.advance-requires-else-turn-eq0
advance-requires-else-turn-eq0 c = ready-second c.args.setup _ (the_lent c.args.lent.now) (record { pluck = c.args.forces.pluck; finger = c.args.forces.finger }) c.requires c.if-turn-eq0.false

pub returns-in_err-stepped-clause-stepped : goal.returns-in_err-stepped-clause-stepped
returns-in_err-stepped-clause-stepped c = rw (handed-on _ _ c.from_residual.ensures) (advanced-first c.args.setup _ (the_lent c.args.lent.now) _ c.requires c.if-turn-eq0.true _ _ _ c.in_err-stepped.ensures)

pub returns-in_err-stepped-2-clause-stepped : goal.returns-in_err-stepped-2-clause-stepped
returns-in_err-stepped-2-clause-stepped c =
    rw (handed-on _ _ c.from_residual-in_err-stepped-2.ensures) (advanced-second c.args.setup _ (the_lent c.args.lent.now) _ c.requires c.if-turn-eq0.false _ _ _ c.in_err-stepped-2.ensures)

pub returns-clause-stepped : goal.returns-clause-stepped
returns-clause-stepped c =
    elim c.if-turn-eq0.branch [
      | then-turn-eq0+in_ok-stepped w ↦ rw (w.lent-is, w.stepped-is) (advanced-first c.args.setup _ (the_lent c.args.lent.now) _ c.requires w.if-turn-eq0.true _ _ _ w.in_ok-stepped.ensures)
      | else-turn-eq0+in_ok-stepped-2 w ↦ rw (w.lent-is, w.stepped-is) (advanced-second c.args.setup _ (the_lent c.args.lent.now) _ c.requires w.if-turn-eq0.false _ _ _ w.in_ok-stepped-2.ensures)
    ]
