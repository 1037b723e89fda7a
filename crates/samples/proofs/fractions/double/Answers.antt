-- `double` meets its contract. The cast asks nothing: every i32 is a float of this format.
use lib.Count.{count_trailing_zeros}
use lib.Ieee.{binary64, of_bits, of_fields, odd}
use Rattle.samples.proofs.fractions.Quotient.{divides-exactly}
use Rattle.samples.proofs.fractions.double.Goals as goal

pub returns : goal.returns
unfolding of_bits of_fields odd count_trailing_zeros
returns c = divides-exactly binary64 c.args.x c.ranges.x c.requires
