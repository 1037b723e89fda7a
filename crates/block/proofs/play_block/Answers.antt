-- What passed the block's table is ready, and is played.
use Rattle.std.proofs.Common.{sym, ◌∙◌}
use Rattle.model.specs.Block.{block_rules, block}
use Rattle.model.specs.Lending.{the_neck, the_lent}
use Rattle.laws.specs.Answered.{turned-down}
use Rattle.laws.specs.Block.{block-ready}
use Rattle.laws.specs.Refusals.{made_by}
use Rattle.block.proofs.play_block.Goals as goal

pub returns-in-Err-clause-played : goal.returns-in-Err-clause-played
unfolding block
returns-in-Err-clause-played c =
    turned-down (block_rules c.args.setup (the_neck c.args.neck) (the_lent c.args.lent.now) c.args.forces.now c.args.samples.now) _ _ _ (sym c.in-Err.ensures)

pub play-requires : goal.play-requires
play-requires c = block-ready c.args.setup _ _ _ _ (sym c.in_default.ensures)

pub returns-clause-played : goal.returns-clause-played
unfolding block
returns-clause-played c =
    c.play.ensures.played
    ∙ made_by (block_rules c.args.setup (the_neck c.args.neck) (the_lent c.args.lent.now) c.args.forces.now c.args.samples.now) _ _ (sym c.in_default.ensures)
