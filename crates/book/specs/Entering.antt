-- A step and a bend entered in a book, by the numbers that code has of them; what entering asks of these numbers and of the book, and that 16 and 17 give the latter.
use Rattle.std.specs.Prelude.{◌≡◌, [], ◌∷◌, ◌+◌, ◌^◌, ◌<◌, ℤ, ◌+ℤ◌, ◌-ℤ◌}
use Rattle.std.proofs.Common.{sym, arith}
use Rattle.std.proofs.Math.Facts.{eqb_no}
use Rattle.integers.specs.Size.{◌within◌, ◌⟨+⟩◌, ◌⟨-⟩◌, wide}
use Rattle.model.specs.Refusal.{first_of}
use Rattle.model.specs.Wide.{value}
use Rattle.model.specs.Book.{Columns, columns, column_ok, count_rule, columns_rule}
use Rattle.model.specs.declared.Book.{Book}
use Rattle.promises.specs.Promises.{Passed}
use Rattle.laws.specs.Refusals.{passed, all_yes}
use Rattle.laws.specs.Sizes.{inside-within}
use Rattle.book.specs.declared.entering.Change.{Change}

-- ---- a step

-- the sizes of its numbers
pub record Small (c : Change) : Type 0 where
  pub before : value c.before within 2 ^ 65
  pub after : value c.after within 2 ^ 65
  pub work : c.work within 2 ^ 53
  pub loss : value c.loss within 2 ^ 64

-- the sizes of the columns that are added to
pub record Passing (b : Book) : Type 0 where
  pub work : value b.work within 2 ^ 120
  pub loss : value b.loss within 2 ^ 120
  pub rounding : value b.rounding within 2 ^ 120

-- its rounding work
unfoldable pub left_over : Change → ℤ
left_over c = value c.after -ℤ value c.before -ℤ c.work +ℤ value c.loss

pub left_over_size : {c : Change} → Small c → left_over c within 2 ^ 67
unfolding left_over
left_over_size h = wide (h.after ⟨-⟩ h.before ⟨-⟩ h.work ⟨+⟩ h.loss) tt

abbrev pub with_change : Columns → Change → Columns
with_change b c = record {
  stored = value c.after;
  work = b.work +ℤ c.work;
  loss = b.loss +ℤ value c.loss;
  rounding = b.rounding +ℤ left_over c;
  count = b.count + 1;
}

-- ---- a bend: its work is added, and the stored energy is that by the new setup

abbrev pub raised_book : Columns → (stored work : ℤ) → Columns
raised_book b stored work = record { stored = stored; work = b.work +ℤ work; loss = b.loss; rounding = b.rounding; count = b.count }

-- ---- what 16 and 17 give where they are passed

pub rows-passed : (b : Columns) → 0 ≡ first_of (count_rule b ∷ columns_rule b ∷ []) → Passed (count_rule b ∷ columns_rule b ∷ [])
rows-passed b e = passed (count_rule b ∷ columns_rule b ∷ []) tt (sym e)

pub book-passing : (w : Book) → Passed (columns_rule (columns w) ∷ []) → Passing w
unfolding column_ok
book-passing w h =
    let b = columns w in
    let c = all_yes column_ok (b.stored ∷ b.work ∷ b.loss ∷ b.rounding ∷ []) h.0 in
    record { work = inside-within (2 ^ 120) b.work c.1.0; loss = inside-within (2 ^ 120) b.loss c.1.1.0; rounding = inside-within (2 ^ 120) b.rounding c.1.1.1.0 }

pub count_room : (w : Book) → Passed (count_rule (columns w) ∷ []) → w.count < 2 ^ 32 → w.count < 4294967295
count_room w h l = let n : w.count ≡ 4294967295 → ⊥ = eqb_no h.0 in omega arith
