-- What the answers of the operations come to, with what is lent at exit: the number and the values of each case. The contract of an operation
-- equates this with the operation's definition, for all arguments:
--   setup     answer_of result ≡ setup s
--   bend      answer_of result ≡ bend s L'
--   slide     answer_of result ≡ slide s p'
--   neck      neck_result result heights stiffness ≡ lay s plan heights₀ stiffness₀
--   frets     frets_result result places ≡ frets N n places₀
--   start     start_result result first second contact ≡ start s first₀ second₀ contact₀ w w'
--   step      record { answer = answer_of result; lent = v } ≡ step s neck v₀ F
--   booked step   record { answer = answer_of result; lent = v; book = columns book } ≡ booked_step s neck v₀ (columns book₀) F
--   booked bend   record { answer = answer_of result; book = columns book } ≡ booked_bend s v (columns book₀) L'
--   block     block_result result v samples ≡ block s neck v₀ forces samples₀
--   newest    result ≡ newest turn first second, of the references themselves
--   reading   result ≡ reading s heights first second turn place; `reading_result` gives its number and values
use Rattle.std.specs.Prelude.{List, [], ◌∷◌, ℕ, ℤ, Float, Result, Ok, Err}
use Rattle.model.specs.Refusal.{Answer, accepted, refused, number, answer_of, stopped_by}
use Rattle.model.specs.State.{Lent}
use Rattle.model.specs.Neck.{NeckResult}
use Rattle.model.specs.Frets.{FretsResult}
use Rattle.model.specs.Book.{columns}
use Rattle.model.specs.Start.{FreshStart, StartResult}
use Rattle.model.specs.Step.{StepResult}
use Rattle.model.specs.Block.{BlockResult}
use Rattle.model.specs.declared.refusal.Refusal.{Refusal}
use Rattle.model.specs.declared.Finger.{Finger}
use Rattle.model.specs.declared.Started.{Started}
use Rattle.model.specs.declared.Stepped.{Stepped}
use Rattle.model.specs.declared.Played.{Played}
use Rattle.model.specs.declared.Reading.{Reading}
use Rattle.model.specs.declared.Reading.TheVariants.{Free, Pressed, Refused}

abbrev pub neck_result : Result (Unit {0}) Refusal → List ℤ → List ℕ → NeckResult
neck_result r heights stiffness = record { answer = answer_of r; heights = heights; stiffness = stiffness }

abbrev pub frets_result : Result (Unit {0}) Refusal → List ℕ → FretsResult
frets_result r places = record { answer = answer_of r; places = places }

abbrev pub start_answer : Result Started Refusal → Answer FreshStart
start_answer (Ok a) = accepted record { turn = a.turn; finger = a.finger; book = columns a.book }
start_answer (Err r) = refused (number r)

abbrev pub start_result : Result Started Refusal → List ℤ → List ℤ → List ℤ → StartResult
start_result r first second contact = record { answer = start_answer r; first = first; second = second; contact = contact }

-- a step by what it answers and leaves in the buffers: turn and finger are those of an accepted answer; after a refusal they remain those passed in
abbrev pub step_result : ℕ → Finger → Answer Stepped → List ℤ → List ℤ → List ℤ → StepResult
step_result turn finger (accepted a) first second contact = record { answer = accepted a.frame; lent = record { first = first; second = second; contact = contact; turn = a.turn; finger = a.finger } }
step_result turn finger (refused n) first second contact = record { answer = refused n; lent = record { first = first; second = second; contact = contact; turn = turn; finger = finger } }

abbrev pub block_result : Played → Lent → List Float → BlockResult
block_result r v samples = record { count = r.count; refusal = stopped_by r.stopped; lent = v; samples = samples }

-- the displacement of a free place; the displacement and the depth of a pressed one
abbrev pub reading_result : Reading → Answer (List Float)
reading_result (Free u) = accepted (u ∷ [])
reading_result (Pressed u depth) = accepted (u ∷ depth ∷ [])
reading_result (Refused n) = refused n
