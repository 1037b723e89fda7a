-- The neck is written where its table is passed.
use Rattle.model.specs.Lending.{the_plan}
use Rattle.neck.proofs.Table.{measured}
use Rattle.neck.proofs.lay_neck.Goals as goal

pub write_neck-requires : goal.write_neck-requires
write_neck-requires c = measured c.args.setup (the_plan c.args.plan) c.args.heights.now c.args.stiffness.now c.in_ok-examine.ensures
