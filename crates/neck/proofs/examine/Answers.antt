-- Every fret stands on the board where 6 and 8 passed.
use Rattle.std.proofs.Common.{length}
use Rattle.neck.proofs.Table.{placed}
use Rattle.neck.proofs.examine.Goals as goal

pub tip_wrong-requires : goal.tip_wrong-requires
tip_wrong-requires c =
    let plan = c.args.plan in
    placed c.args.setup (length plan.board.now) _ c.lengths_ok.ensures c.if-not-lengths_ok.false plan.frets.now c.frets_wrong.ensures c.if-frets_wrong.false
