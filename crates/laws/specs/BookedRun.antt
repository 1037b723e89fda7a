-- 02, item 6: a number that passes 17. The promise of the book is proved with it, in proofs/BookedRun.
use Rattle.std.specs.Prelude.{◌^◌, T, ℤ}
use Rattle.integers.specs.Order.{≤_trans, pos-≤, nat_abs-≤, ≤-natAbs, ≤-neg}
use Rattle.integers.specs.Size.{◌within◌}
use Rattle.model.specs.Book.{column_ok}
use Rattle.laws.specs.Sizes.{within-inside}

-- what is within 2^120 passes 17
pub column-ok : {z : ℤ} → z within 2 ^ 120 → T (column_ok z)
unfolding column_ok
column-ok {z} h = within-inside (2 ^ 120) (≤_trans (≤-neg (pos-≤ h.size)) (nat_abs-≤ z)) (≤_trans (≤-natAbs z) (pos-≤ h.size))
