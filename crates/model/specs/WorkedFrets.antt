-- 02, item 7: the list that is shipped, ties, and lists that are refused, computed.
use Rattle.std.specs.Prelude.{◌≡◌, refl, [], ◌∷◌, ℕ, replicate, Ok, Err}
use Rattle.model.specs.Ranges.{between}
use Rattle.model.specs.Refusal.{accepted, refused, first_of}
use Rattle.model.specs.Gradient.{greatest}
use Rattle.model.specs.Frets.{is_distance, distance, fret_place, fret_places, fret_rules, frets}
use Rattle.model.specs.Answers.{frets_result}
use Rattle.model.specs.Table.{◌gives◌, Right}
use Rattle.model.specs.declared.refusal.Refusal.TheVariants as Refusal

-- the list for N = 90 that 02 has; its last fret is a tie, 22 1/2 segments from the bridge
pub ninety_is : frets 90 24 (replicate 24 7)
    ≡ record { answer = accepted tt; places = 5 ∷ 10 ∷ 14 ∷ 19 ∷ 23 ∷ 26 ∷ 30 ∷ 33 ∷ 36 ∷ 39 ∷ 42 ∷ 45 ∷ 48 ∷ 50 ∷ 52 ∷ 54 ∷ 56 ∷ 58 ∷ 60 ∷ 62 ∷ 63 ∷ 65 ∷ 66 ∷ 67 ∷ [] }
unfolding frets fret_rules fret_places fret_place distance is_distance greatest between
ninety_is = refl

-- 31 segments and 12 frets: the last is 15 1/2 segments from the bridge and goes to the lower place, 15, where fret 11 stands; the buffer is untouched
clash_is : frets 31 12 (replicate 12 7) ≡ record { answer = refused 19; places = replicate 12 7 }
unfolding frets fret_rules fret_places fret_place distance is_distance greatest between
clash_is = refl

-- the octave and the double octave: exact, and where they are ties to the lower place
places-are : Right (fret_place 90 12 gives 45 ∷ fret_place 91 12 gives 45 ∷ fret_place 93 12 gives 46 ∷ fret_place 88 24 gives 66 ∷ fret_place 90 24 gives 67 ∷ fret_place 94 24 gives 70 ∷ [])
unfolding fret_place distance is_distance greatest
places-are = refl

-- by N, the number of frets and the buffer's length
refusal_of : (N n long : ℕ) → ℕ
refusal_of N n long = first_of (fret_rules N n long)

numbers-are : Right (
    -- N
    refusal_of 1 0 0 gives 1 ∷ refusal_of 2 0 0 gives 0 ∷ refusal_of 128 24 24 gives 0 ∷ refusal_of 129 0 0 gives 1
    -- the number of frets
    ∷ refusal_of 90 25 25 gives 18
    -- the buffer's length
    ∷ refusal_of 90 5 4 gives 6 ∷ refusal_of 90 5 6 gives 6 ∷ refusal_of 90 5 5 gives 0 ∷ refusal_of 90 0 1 gives 6
    -- fret 1 at place 0
    ∷ refusal_of 8 1 1 gives 19 ∷ refusal_of 9 1 1 gives 0
    -- fret 4 at the place of fret 3, asked for or not
    ∷ refusal_of 16 4 4 gives 19 ∷ refusal_of 16 3 3 gives 0
    -- each number gives way to the one before it
    ∷ refusal_of 1 25 3 gives 1 ∷ refusal_of 2 25 3 gives 18 ∷ refusal_of 2 24 3 gives 6 ∷ refusal_of 2 24 24 gives 19 ∷ [])
unfolding refusal_of fret_rules fret_places fret_place distance is_distance greatest between
numbers-are = refl

answers-are : (frets_result (Ok tt) (3 ∷ []) ≡ record { answer = accepted tt; places = 3 ∷ [] }) × (frets_result (Err Refusal.FretPlace) (7 ∷ []) ≡ record { answer = refused 19; places = 7 ∷ [] })
answers-are = (refl, refl)
