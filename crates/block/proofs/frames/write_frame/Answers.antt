-- `write_frame` meets its contract: the two samples are stored one after the other.
use Prim.Native.Nat.{◌*◌}
use Rattle.laws.specs.Playing.{frame-stored}
use Rattle.block.proofs.frames.write_frame.Goals as goal

pub returns : goal.returns
returns c = frame-stored c.args.frame (2 * c.args.count) c.args.samples.now c.requires
