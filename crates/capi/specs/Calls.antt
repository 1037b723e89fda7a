-- What a C caller gets of each operation that writes: the answer's row of numbers, and the lent buffers after the call.
use Rattle.std.specs.Prelude.{List, ℕ, ℤ, Float}
use Rattle.model.specs.Neck.{NeckResult}
use Rattle.model.specs.Start.{StartResult}
use Rattle.model.specs.Step.{StepResult}
use Rattle.model.specs.Block.{BlockResult}
use Rattle.model.specs.Booking.{BookedResult}
use Rattle.rows.specs.Rows.{number, StartView, start_row, step_row, BookedView, booked_row, block_row}
use Rattle.rows.specs.declared.block_row.BlockRow.{BlockRow}
use Rattle.rows.specs.declared.step_row.StepRow.{StepRow}

pub record NeckCall : Type 0 where
  pub refusal : ℕ
  pub heights : List ℤ
  pub stiffness : List ℕ

abbrev pub neck_call : NeckResult → NeckCall
neck_call r = record { refusal = number r.answer; heights = r.heights; stiffness = r.stiffness }

pub record StartCall : Type 0 where
  pub row : StartView
  pub first : List ℤ
  pub second : List ℤ
  pub contact : List ℤ

abbrev pub start_call : StartResult → StartCall
start_call r = record { row = start_row r.answer; first = r.first; second = r.second; contact = r.contact }

pub record StepCall : Type 0 where
  pub row : StepRow
  pub first : List ℤ
  pub second : List ℤ
  pub contact : List ℤ

abbrev pub step_call : StepResult → StepCall
step_call r = record { row = step_row r; first = r.lent.first; second = r.lent.second; contact = r.lent.contact }

pub record BookedCall : Type 0 where
  pub row : BookedView
  pub first : List ℤ
  pub second : List ℤ
  pub contact : List ℤ

abbrev pub booked_call : BookedResult → BookedCall
booked_call r = record { row = booked_row r; first = r.lent.first; second = r.lent.second; contact = r.lent.contact }

pub record BlockCall : Type 0 where
  pub row : BlockRow
  pub first : List ℤ
  pub second : List ℤ
  pub contact : List ℤ
  pub samples : List Float

abbrev pub block_call : BlockResult → BlockCall
block_call r = record { row = block_row r; first = r.lent.first; second = r.lent.second; contact = r.lent.contact; samples = r.samples }
