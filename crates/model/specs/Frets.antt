-- 02, item 7: fret places from the semitone rule, and the refusals of a list of them.
use Rattle.std.specs.Prelude.{Bool, false, ◌&&◌, ◌||◌, not, List, [], ◌∷◌, ℕ, suc, ◌+◌, ◌-◌, ◌*◌, ◌^◌, leb, ltb, eqb, length}
use Rattle.integers.specs.Filled.{tabulate}
use Rattle.model.specs.Ranges.{any}
use Rattle.model.specs.Refusal.{Rule, ◌when◌, first_of, Answer, accepted, refused, unless}
use Rattle.model.specs.Setup.{segments_rule}
use Rattle.model.specs.Gradient.{greatest}

-- fret q on a string of N segments
module _ (N q : ℕ) where
  -- d is its distance from the bridge: (2d − 1)^12 · 2^q is at most (2N)^12, and (2d + 1)^12 · 2^q is above it
  unfoldable pub is_distance : ℕ → Bool
  is_distance d = leb ((2 * d - 1) ^ 12 * 2 ^ q) ((2 * N) ^ 12) && ltb ((2 * N) ^ 12) ((2 * d + 1) ^ 12 * 2 ^ q)

  -- that d; no two numbers meet both conditions
  unfoldable pub distance : ℕ
  distance = greatest N is_distance

  unfoldable pub fret_place : ℕ
  fret_place = N - distance

-- the places of frets 1 to n
unfoldable pub fret_places : ℕ → ℕ → List ℕ
fret_places N n = tabulate n (λ k. fret_place N (suc k))

-- a place is its predecessor's
abbrev pub repeats : List ℕ → Bool
repeats [] = false
repeats (i ∷ []) = false
repeats (i ∷ j ∷ is) = eqb i j || repeats (j ∷ is)

-- 19: a fret falls on place 0 or on its predecessor's place
abbrev pub places_clash : List ℕ → Bool
places_clash is = any (eqb 0) is || repeats is

-- the answer, and the lent buffer after the call
pub record FretsResult : Type 0 where
  pub answer : Answer (Unit {0})
  pub places : List ℕ

-- n frets are asked for, in a buffer of this length
unfoldable pub fret_rules : (N n long : ℕ) → List Rule
fret_rules N n long =
    segments_rule N
    ∷ 18 when ltb 24 n
    ∷ 6 when not (eqb long n)
    ∷ 19 when places_clash (fret_places N n)
    ∷ []

unfoldable pub frets : (N n : ℕ) → List ℕ → FretsResult
frets N n buffer = unless (first_of (fret_rules N n (length buffer))) (record { answer = accepted tt; places = fret_places N n }) (λ k. record { answer = refused k; places = buffer })
