-- 02, item 6: the energy book kept beside the voice: what its words say, its refusals, and what a fresh start, a step and a bend make of it.
use Rattle.std.specs.Prelude.{Bool, not, [], ◌∷◌, ℕ, ◌+◌, ◌^◌, eqb, ℤ, pos, neg_ℤ, ◌+ℤ◌}
use Rattle.model.specs.Ranges.{all, inside}
use Rattle.model.specs.Refusal.{Rule, ◌when◌}
use Rattle.model.specs.Changes.{with_tension}
use Rattle.model.specs.State.{State}
use Rattle.model.specs.Step.{WorkedStep}
use Rattle.model.specs.Energy as Energy
use Rattle.model.specs.Energy.{stored_energy}
use Rattle.model.specs.Run.{Bend, bend_work}
use Rattle.model.specs.Wide.{value}
use Rattle.model.specs.declared.Setup.{Setup}
use Rattle.model.specs.declared.Book.{Book}

-- stored energy, work, loss and rounding work as whole numbers, and the count of accepted steps
pub record Columns : Type 0 where
  pub stored : ℤ
  pub work : ℤ
  pub loss : ℤ
  pub rounding : ℤ
  pub count : ℕ

-- what the words of a book say
abbrev pub columns : Book → Columns
columns b = record { stored = value b.stored; work = value b.work; loss = value b.loss; rounding = value b.rounding; count = b.count }

-- ---- what is entered

-- a fresh start gives a book with its stored energy and zeros
abbrev pub new_book : Setup → State → Columns
new_book s x = record { stored = stored_energy s x; work = pos 0; loss = pos 0; rounding = pos 0; count = 0 }

-- after an accepted step that led to the state y: the stored column is worked out from the state
abbrev pub with_step : Columns → WorkedStep → State → Columns
with_step b t y = record {
  stored = stored_energy t.setup y;
  work = b.work +ℤ Energy.work t;
  loss = b.loss +ℤ Energy.loss t;
  rounding = b.rounding +ℤ Energy.rounding_work t;
  count = b.count + 1;
}

-- after an accepted bend, which is booked as work: the stored column by the new setup
abbrev pub with_bend : Columns → Bend → Columns
with_bend b k = record {
  stored = stored_energy (with_tension k.setup k.tension) k.state;
  work = b.work +ℤ bend_work k;
  loss = b.loss;
  rounding = b.rounding;
  count = b.count;
}

-- ---- the refusals

-- 16: the count at its largest, in 32 bits
abbrev pub count_rule : Columns → Rule
count_rule b = 16 when eqb b.count 4294967295

-- 17: a column passed in outside ±2^120
unfoldable pub column_ok : ℤ → Bool
column_ok z = inside (neg_ℤ (pos (2 ^ 120))) z (pos (2 ^ 120))

abbrev pub columns_ok : Columns → Bool
columns_ok b = all column_ok (b.stored ∷ b.work ∷ b.loss ∷ b.rounding ∷ [])

abbrev pub columns_rule : Columns → Rule
columns_rule b = 17 when not (columns_ok b)
