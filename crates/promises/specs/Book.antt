-- 02, item 6: what is promised of a book, over lists of calls whose steps and bends are all booked. Crate `laws` proves it in its files Words, Booking and BookedRun.
use Rattle.std.specs.Prelude.{◌≡◌, List, [], ◌∷◌, ℕ, ◌^◌, ◌≤◌, ◌<◌, ℤ, ◌+ℤ◌, ◌-ℤ◌}
use Rattle.model.specs.Refusal.{accepted, refused}
use Rattle.model.specs.Changes.{bend}
use Rattle.model.specs.State.{Lent, state_of, Neck, Forces}
use Rattle.model.specs.Start.{started_result, start}
use Rattle.model.specs.Step.{worked_step, step}
use Rattle.model.specs.Steps.{Voice, voice}
use Rattle.model.specs.Run.{energy_of, Request, Entry, entries, last_voice, work, loss, rounding_work, total}
use Rattle.model.specs.Wide.{value}
use Rattle.model.specs.Book.{Columns, new_book, with_step, with_bend, count_rule, columns_rule}
use Rattle.model.specs.Booking.{booked_step, booked_bend}
use Rattle.model.specs.BookedRun.{Kept, keeping, last_kept, accepted_requests, steps}
use Rattle.model.specs.declared.Setup.{Setup}
use Rattle.model.specs.declared.Frame.{Frame}
use Rattle.model.specs.declared.Wide.{Wide}
use Rattle.promises.specs.Promises.{Passed}

-- two words of 64 bits say one number, and no other two say it: what is claimed of a column is claimed of its words
abbrev pub OneNumber : Type 0
OneNumber = (a b : Wide) → a.low < 2 ^ 64 → b.low < 2 ^ 64 → value a ≡ value b → a ≡ b

-- ---- one call

-- an accepted booked step is the step, and is entered by the state that it led to
abbrev pub StepBooked : Setup → Neck → Lent → Columns → Forces → Frame → Type 0
StepBooked s neck v b F f = let r = booked_step s neck v b F in
    (step s neck v F ≡ record { answer = accepted f; lent = r.lent }) × (r.book ≡ with_step b (worked_step s neck (state_of v) F) (state_of r.lent))

-- an accepted booked bend is the bend, and is entered
abbrev pub BendBooked : Setup → Lent → Columns → ℕ → Setup → Type 0
BendBooked s v b L' t = (bend s L' ≡ accepted t) × ((booked_bend s v b L').book ≡ with_bend b record { setup = s; tension = L'; state = state_of v })

-- a booked call is the call itself
pub record BookedCalls : Type 0 where
  pub steps : (s : Setup) (neck : Neck) (v : Lent) (b : Columns) (F : Forces) (f : Frame) → (booked_step s neck v b F).answer ≡ accepted f → StepBooked s neck v b F f
  -- where its book passes 16 and 17, a booked step is answered as the step is
  pub answers : (s : Setup) (neck : Neck) (v : Lent) (b : Columns) (F : Forces) → Passed (count_rule b ∷ columns_rule b ∷ []) → (booked_step s neck v b F).answer ≡ (step s neck v F).answer
  pub bends : (s t : Setup) (v : Lent) (b : Columns) (L' : ℕ) → (booked_bend s v b L').answer ≡ accepted t → BendBooked s v b L' t

-- ---- a list of calls

-- the book b beside the voice `last`, after a run from the voice `start` whose accepted calls are `es`
pub record Books (start last : Voice) (b : Columns) (es : List Entry) : Type 0 where
  -- the stored column is the stored energy of what the run left
  pub stored : b.stored ≡ energy_of last
  -- the others are exactly the sums of demand 3
  pub work : b.work ≡ total work es
  pub loss : b.loss ≡ total loss es
  pub rounding : b.rounding ≡ total rounding_work es
  -- the count is the number of accepted steps
  pub count : b.count ≡ steps es
  -- so stored equals start + work − loss + rounding, in the columns
  pub balance : b.stored ≡ energy_of start +ℤ b.work -ℤ b.loss +ℤ b.rounding

-- a list of calls from k, with a book kept beside it
pub record BookedRun (neck : Neck) (k : Kept) (qs : List Request) : Type 0 where
  -- its accepted calls alone are a run as demand 3 has it, and the book has that run's sums
  pub same : (last_kept neck k qs).voice ≡ last_voice neck k.voice (accepted_requests neck k qs)
  pub books : Books k.voice (last_kept neck k qs).voice (last_kept neck k qs).book (entries neck k.voice (accepted_requests neck k qs))
  -- up to 4,294,967,295 accepted steps the whole list is that run: keeping a book refuses nothing
  pub whole : steps (entries neck k.voice qs) ≤ 4294967295
      → (last_voice neck k.voice (accepted_requests neck k qs) ≡ last_voice neck k.voice qs) × (entries neck k.voice (accepted_requests neck k qs) ≡ entries neck k.voice qs)

-- 17 is given to no booked step and to no booked bend that follows
pub record NeverFull (neck : Neck) (k : Kept) : Type 0 where
  pub step : (F : Forces) → (booked_step k.voice.setup neck k.voice.lent k.book F).answer ≡ refused 17 → ⊥
  pub bend : (L' : ℕ) → (booked_bend k.voice.setup k.voice.lent k.book L').answer ≡ refused 17 → ⊥

-- after every list of calls from a fresh start and the book that it gives, on any neck
abbrev pub EnergyBook : Type 0
EnergyBook =
    (s : Setup) (first second contact : List ℤ) (w w' : ℤ) (v : Lent) → start s first second contact w w' ≡ started_result s v
    → (neck : Neck) (qs : List Request) → let k = keeping (voice s v) (new_book s (state_of v)) in BookedRun neck k qs × NeverFull neck (last_kept neck k qs)
