-- `rounding_work` meets its contract: one number after the other is added.
use Rattle.std.specs.Prelude.{◌≡◌, ◌^◌, ℤ, pos, ◌+ℤ◌, ◌-ℤ◌}
use Rattle.std.proofs.Common.{arith, w64, to_z, of_z}
use Rattle.std.proofs.lemmas.Int.{ints}
use Rattle.integers.specs.Size.{◌within◌}
use Rattle.model.specs.Wide.{value}
use Rattle.book.specs.Entering.{left_over}
use Rattle.book.proofs.entering.rounding_work.Goals as goal

-- of the numbers that are added
added_up : (a b l w : ℤ) {g p r : ℤ} → w within 2 ^ 53 → g ≡ a -ℤ b → p ≡ g +ℤ l → r ≡ p +ℤ to_z w64 (of_z w64 (pos 0 -ℤ to_z w64 (of_z w64 w))) → r ≡ a -ℤ b -ℤ w +ℤ l
added_up a b l w h e f k = omega (arith, ints)

pub returns : goal.returns
unfolding left_over
returns c =
    let t = c.args.change in
    added_up (value t.after) (value t.before) (value t.loss) t.work c.requires.work c.sub-gained.ensures c.add.ensures c.added.ensures
