-- 02, item 6: a list of calls from a voice and its book, whose steps and bends are all booked. Slides and refused calls may stand anywhere.
use Rattle.std.specs.Prelude.{List, [], ◌∷◌, ◌++◌, ℕ, ◌+◌}
use Rattle.model.specs.Refusal.{Answer, accepted, refused}
use Rattle.model.specs.Changes.{slide}
use Rattle.model.specs.State.{Neck}
use Rattle.model.specs.Steps.{Voice, voice}
use Rattle.model.specs.Run.{Request, to_step, to_bend, to_slide, Entry, stepped, bent, slid}
use Rattle.model.specs.Book.{Columns}
use Rattle.model.specs.Booking.{booked_step, booked_bend}
use Rattle.model.specs.declared.Setup.{Setup}

-- what a caller who keeps a book passes from call to call
pub record Kept : Type 0 where
  pub voice : Voice
  pub book : Columns

abbrev pub keeping : Voice → Columns → Kept
keeping v b = record { voice = v; book = b }

-- what a call comes to: what later calls get, and the request itself where it is accepted
pub record BookedCall : Type 0 where
  pub after : Kept
  pub made : List Request

-- after an accepted bend or slide later calls get its new setup
abbrev pub with_setup : Voice → Answer Setup → Voice
with_setup v (accepted s) = voice s v.lent
with_setup v (refused n) = v

abbrev pub if_accepted : {B : Type 0} → Answer B → Request → List Request
if_accepted (accepted b) q = q ∷ []
if_accepted (refused n) q = []

module _ (neck : Neck) where
  unfoldable pub booked : Kept → Request → BookedCall
  booked k (to_step F) =
      let v = k.voice in
      let r = booked_step v.setup neck v.lent k.book F in
      record { after = keeping (voice v.setup r.lent) r.book; made = if_accepted r.answer (to_step F) }
  booked k (to_bend L') =
      let v = k.voice in
      let r = booked_bend v.setup v.lent k.book L' in
      record { after = keeping (with_setup v r.answer) r.book; made = if_accepted r.answer (to_bend L') }
  booked k (to_slide p') =
      let v = k.voice in
      let a = slide v.setup p' in
      record { after = keeping (with_setup v a) k.book; made = if_accepted a (to_slide p') }

  -- what the last call returned or left, k if there is none
  unfoldable pub last_kept : Kept → List Request → Kept
  last_kept k [] = k
  last_kept k (q ∷ qs) = last_kept (booked k q).after qs

  -- the requests that were accepted
  unfoldable pub accepted_requests : Kept → List Request → List Request
  accepted_requests k [] = []
  accepted_requests k (q ∷ qs) = (booked k q).made ++ accepted_requests (booked k q).after qs

-- the number of steps among the accepted calls of a run
unfoldable pub steps : List Entry → ℕ
steps [] = 0
steps (stepped t ∷ es) = 1 + steps es
steps (bent b ∷ es) = steps es
steps (slid ∷ es) = steps es
