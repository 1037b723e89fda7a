-- The setup from its row of numbers, and the answers of the operations as rows of numbers.
use Rattle.std.specs.Prelude.{ℕ, pos, Float}
use Rattle.std.specs.Float.{binary64}
use Rattle.model.specs.Fraction.{fraction}
use Rattle.model.specs.Refusal.{Answer, accepted, refused}
use Rattle.model.specs.Step.{StepResult, frame_of}
use Rattle.model.specs.Book.{Columns, columns}
use Rattle.model.specs.Start.{FreshStart}
use Rattle.model.specs.Block.{BlockResult}
use Rattle.model.specs.Booking.{BookedResult, BentResult}
use Rattle.model.specs.declared.Setup.{Setup}
use Rattle.model.specs.declared.Finger.{Finger}
use Rattle.model.specs.declared.Frame.{Frame}
use Rattle.model.specs.declared.Reading.{Reading}
use Rattle.model.specs.declared.Reading.TheVariants.{Free, Pressed, Refused}
use Rattle.rows.specs.declared.setup_row.SetupRow.{SetupRow}
use Rattle.rows.specs.declared.changed_row.ChangedRow.{ChangedRow}
use Rattle.rows.specs.declared.start_row.StartRow.{StartRow}
use Rattle.rows.specs.declared.step_row.StepRow.{StepRow}
use Rattle.rows.specs.declared.booked_row.BookedRow.{BookedRow}
use Rattle.rows.specs.declared.bent_row.BentRow.{BentRow}
use Rattle.rows.specs.declared.block_row.BlockRow.{BlockRow}
use Rattle.rows.specs.declared.reading_row.ReadingRow.{ReadingRow}

abbrev pub setup_of : SetupRow → Setup
setup_of row = record {
  segments = row.segments;
  tension = row.tension;
  stiffness = row.stiffness;
  viscous = row.viscous;
  plain = row.plain;
  finger = record { place = row.finger_place; stiffness = row.finger_stiffness; mass = row.finger_mass };
  pluck_place = row.pluck_place;
  bridge_place = row.bridge_place;
  neck_place = row.neck_place;
}

-- the row of a setup
abbrev pub row_of : Setup → SetupRow
row_of s = record {
  segments = s.segments;
  tension = s.tension;
  stiffness = s.stiffness;
  viscous = s.viscous;
  plain = s.plain;
  finger_stiffness = s.finger.stiffness;
  finger_mass = s.finger.mass;
  finger_place = s.finger.place;
  pluck_place = s.pluck_place;
  bridge_place = s.bridge_place;
  neck_place = s.neck_place;
}

-- the setup after a bend or a slide, which after a refusal is the one passed in
abbrev pub changed_row : SetupRow → Answer Setup → ChangedRow
changed_row passed (accepted s) = record { refusal = 0; setup = row_of s }
changed_row passed (refused n) = record { refusal = n; setup = passed }

-- the refusal's number, 0 if there is none
abbrev pub number : {A : Type 0} → Answer A → ℕ
number (accepted a) = 0
number (refused n) = n

-- what a row with a book says: the book by its columns
pub record StartView : Type 0 where
  pub refusal : ℕ
  pub turn : ℕ
  pub finger : Finger
  pub book : Columns

abbrev pub start_view : StartRow → StartView
start_view r = record { refusal = r.refusal; turn = r.turn; finger = r.finger; book = columns r.book }

-- turn, finger and book of an accepted fresh start; zeros after a refusal
abbrev pub start_row : Answer FreshStart → StartView
start_row (accepted a) = record { refusal = 0; turn = a.turn; finger = a.finger; book = a.book }
start_row (refused n) = record {
  refusal = n;
  turn = 0;
  finger = record { newer = pos 0; older = pos 0; contact = pos 0 };
  book = record { stored = pos 0; work = pos 0; loss = pos 0; rounding = pos 0; count = 0 };
}

-- the frame of an accepted step, of two zeros after a refusal
abbrev pub frame_or_zero : Answer Frame → Frame
frame_or_zero (accepted f) = f
frame_or_zero (refused n) = frame_of (pos 0) (pos 0)

-- turn and finger after a step, which after a refusal are those passed in
abbrev pub step_row : StepResult → StepRow
step_row r = record { refusal = number r.answer; turn = r.lent.turn; finger = r.lent.finger; frame = frame_or_zero r.answer }

pub record BookedView : Type 0 where
  pub refusal : ℕ
  pub turn : ℕ
  pub finger : Finger
  pub frame : Frame
  pub book : Columns

abbrev pub booked_view : BookedRow → BookedView
booked_view r = record { refusal = r.refusal; turn = r.turn; finger = r.finger; frame = r.frame; book = columns r.book }

-- turn, finger and book after a booked step, which after a refusal are those passed in
abbrev pub booked_row : BookedResult → BookedView
booked_row r = record { refusal = number r.answer; turn = r.lent.turn; finger = r.lent.finger; frame = frame_or_zero r.answer; book = r.book }

pub record BentView : Type 0 where
  pub refusal : ℕ
  pub setup : SetupRow
  pub book : Columns

abbrev pub bent_view : BentRow → BentView
bent_view r = record { refusal = r.refusal; setup = r.setup; book = columns r.book }

-- setup and book after a booked bend, which after a refusal are those passed in
abbrev pub bent_row : SetupRow → BentResult → BentView
bent_row passed r = let row = changed_row passed r.answer in record { refusal = row.refusal; setup = row.setup; book = r.book }

-- 0, in double precision
abbrev pub none : Float
none = fraction binary64 (pos 0)

-- pressed is 1 for a pressed place and 0 for any other; a free place has no depth
abbrev pub reading_row : Reading → ReadingRow
reading_row (Free u) = record { refusal = 0; pressed = 0; displacement = u; depth = none }
reading_row (Pressed u depth) = record { refusal = 0; pressed = 1; displacement = u; depth = depth }
reading_row (Refused n) = record { refusal = n; pressed = 0; displacement = none; depth = none }

-- count, refusal, turn and finger after a block
abbrev pub block_row : BlockResult → BlockRow
block_row r = record { count = r.count; refusal = r.refusal; turn = r.lent.turn; finger = r.lent.finger }
