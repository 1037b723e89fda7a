-- `single` meets its contract.
use lib.Count.{count_trailing_zeros}
use lib.Ieee.{binary32, of_bits, of_fields, odd}
use Rattle.samples.proofs.fractions.Quotient.{casts-exactly, divides-exactly}
use Rattle.samples.proofs.fractions.single.Goals as goal

pub returns : goal.returns
unfolding of_bits of_fields odd count_trailing_zeros
returns c = divides-exactly binary32 c.args.x c.ranges.x c.requires

pub int_to_float-result : goal.int_to_float-result
int_to_float-result c = casts-exactly binary32 c.args.x c.ranges.x c.requires
