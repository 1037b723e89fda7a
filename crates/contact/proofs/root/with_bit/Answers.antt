-- `with_bit` meets its contract: the sum is at most 255, and so its square does not wrap.
use Prim.Native.Nat.{◌≤◌, ◌+◌}
use native.Mathlib.Nat.{mul-le-mul, lt_of_le_of_lt}
use native.Mathlib.Omega.{arith}
use lib.Dec.{lit<}
use Rattle.contact.specs.Halving.{bit-set, bit-clear}
use Rattle.contact.proofs.root.with_bit.Goals as goal
use Rattle.contact.proofs.root.with_bit.Goals.{Start}

small : (a : Start) → a.args.root + a.args.bit ≤ 255
small a = let s = a.requires.0.small in let b = a.requires.1 in omega arith

pub overflow_mul-more : goal.overflow_mul-more
overflow_mul-more c = let l = small c in record { fits = lt_of_le_of_lt (mul-le-mul l l) (lit< tt) }

pub returns-then-more-square : goal.returns-then-more-square
returns-then-more-square c = bit-set c.requires.0 c.if-more-square.true

pub returns-else-more-square : goal.returns-else-more-square
returns-else-more-square c = bit-clear c.requires.0 c.if-more-square.false
