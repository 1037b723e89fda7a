-- `settle_pair` meets its contract: the third working is with what two drops leave.
use Rattle.finger_motion.specs.Pair.{left-pair}
use Rattle.finger_motion.proofs.pair.settle_pair.Goals as goal

pub work_again-requires : goal.work_again-requires
work_again-requires c = let first = c.work_pair-first.ensures in (c.requires.0, left-pair c.requires.1 first, rw first.gradients c.work_again-second.ensures)
