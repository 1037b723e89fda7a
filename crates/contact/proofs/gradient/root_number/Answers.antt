-- `root_number` meets its contract: the product does not wrap.
use Prim.Native.Nat.{◌*◌, ◌/◌, ◌<◌}
use native.Mathlib.Nat.{mul-le-mul, le_of_lt, lt_of_le_of_lt}
use native.Mathlib.Omega.{arith}
use lib.Dec.{lit<}
use lib.IntN.{nat_abs}
use mir.Syntax.{w32, w64}
use mir.Facts.{to_z-of_z}
use Rattle.integers.specs.Order.{<-≤}
use Rattle.integers.specs.Size.{fitted}
use Rattle.integers.specs.Machine.{var, ∅, ◌▸◌, index}
use Rattle.contact.proofs.gradient.root_number.Goals as goal
use Rattle.contact.proofs.gradient.root_number.Goals.{Then-q-lt-LAST_NUMBER}

pub overflow_cast-q-2 : goal.overflow_cast-q-2
overflow_cast-q-2 c = index (c.ranges.depth ▸ ∅) w32 w64 (var 0) tt tt (<-≤ c.requires)

pub overflow_mul-q : goal.overflow_mul-q
overflow_mul-q c =
    let product = mul-le-mul (le_of_lt c.ranges.stiffness.fits) (fitted c.ranges.depth).size in
    rw (to_z-of_z c.ranges.depth) (record { fits = lt_of_le_of_lt product (lit< tt) })

below : (c : Then-q-lt-LAST_NUMBER) → c.args.stiffness * nat_abs c.args.depth / 1024 < 1023
below c = rw (to_z-of_z c.ranges.depth) at c.if-q-lt-LAST_NUMBER.true

pub returns-then-q-lt-LAST_NUMBER : goal.returns-then-q-lt-LAST_NUMBER
returns-then-q-lt-LAST_NUMBER c = rw (to_z-of_z c.ranges.depth) (let l = below c in omega arith)

pub returns-else-q-lt-LAST_NUMBER : goal.returns-else-q-lt-LAST_NUMBER
returns-else-q-lt-LAST_NUMBER c = let l = rw (to_z-of_z c.ranges.depth) at c.if-q-lt-LAST_NUMBER.false in omega arith
