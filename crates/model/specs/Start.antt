-- 01, 'One step': the fresh start, and its refusals; with 02's item 6 it also gives a book.
use Rattle.std.specs.Prelude.{Bool, ◌&&◌, not, List, [], ◌∷◌, ◌++◌, ℕ, ℤ, pos, length, replicate}
use Rattle.model.specs.Ranges.{inside, displacement_ok}
use Rattle.model.specs.Refusal.{Rule, ◌when◌, first_of, Answer, accepted, refused, unless}
use Rattle.model.specs.Setup.{points, lengths_rule, setup_rules}
use Rattle.model.specs.State.{Lent, state_of}
use Rattle.model.specs.Book.{Columns, new_book}
use Rattle.model.specs.declared.Setup.{Setup}
use Rattle.model.specs.declared.Finger.{Finger}

-- both strings and all contact variables zero, turn 0, the finger at height w, its older height w'
unfoldable pub fresh : Setup → ℤ → ℤ → Lent
fresh s w w' =
    let zeros = replicate (points s) (pos 0) in
    record { first = zeros; second = zeros; contact = zeros; turn = 0; finger = record { newer = w; older = w'; contact = pos 0 } }

-- 10: the fresh start's own ranges of the finger's height and older height
abbrev pub finger_ok : ℤ → ℤ → Bool
finger_ok w w' = inside (pos 0) w (pos 1048576) && displacement_ok w'

-- the turn, the finger and the book
pub record FreshStart : Type 0 where
  pub turn : ℕ
  pub finger : Finger
  pub book : Columns

-- these or the number, and the three lent buffers after the call
pub record StartResult : Type 0 where
  pub answer : Answer FreshStart
  pub first : List ℤ
  pub second : List ℤ
  pub contact : List ℤ

-- an accepted fresh start
abbrev pub started_result : Setup → Lent → StartResult
started_result s v = record { answer = accepted record { turn = v.turn; finger = v.finger; book = new_book s (state_of v) }; first = v.first; second = v.second; contact = v.contact }

-- first, second and contact are the lent buffers
module _ (s : Setup) (first second contact : List ℤ) (w w' : ℤ) where
  unfoldable pub start_rules : List Rule
  start_rules = setup_rules s
      ++ lengths_rule s (length first ∷ length second ∷ length contact ∷ [])
      ∷ 10 when not (finger_ok w w')
      ∷ []

  unfoldable pub start : StartResult
  start = unless (first_of start_rules) (started_result s (fresh s w w')) (λ n. record { answer = refused n; first = first; second = second; contact = contact })
