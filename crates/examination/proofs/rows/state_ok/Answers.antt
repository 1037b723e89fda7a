-- `all` over the two strings together is `all` over each.
use Rattle.std.proofs.Common.{rules}
use Rattle.model.specs.Ranges.{displacement_ok}
use Rattle.laws.specs.Refusals.{all-parts}
use Rattle.examination.proofs.rows.state_ok.Goals as goal

pub returns : goal.returns
returns c = rw (all-parts displacement_ok c.args.state.newer.now c.args.state.older.now) (search rules)
