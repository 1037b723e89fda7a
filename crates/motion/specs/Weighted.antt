-- The string terms of c as D1 of one string: L·D1u − M·D2u + S·D1(u − v) is D1 of t = L·u − M·D1u + S·(u − v), since D1 is linear.
use Rattle.std.specs.Prelude.{List, [], ◌∷◌, ℕ, ◌*◌, ◌^◌, T, ℤ, pos, ◌+ℤ◌, ◌-ℤ◌, ◌*ℤ◌, length, ◌≡◌}
use Rattle.integers.specs.Filled.{tabulate}
use Rattle.model.specs.Ranges.{all, displacement_ok}
use Rattle.model.specs.Setup.{L, M, S, points, setup_rules}
use Rattle.model.specs.Differences.{at, places, minus, D1}
use Rattle.model.specs.declared.Setup.{Setup}
use Rattle.promises.specs.Promises.{Passed}

-- t, for newer string u and older string v
unfoldable pub weighted : Setup → List ℤ → List ℤ → List ℤ
weighted s u v = places (length u) (λ i. pos (L s) *ℤ at u i -ℤ pos (M s) *ℤ at (D1 u) i +ℤ pos (S s) *ℤ at (minus u v) i)

-- a string in an array that has room for every place: entry i is the value at place i, 0 at both ends and past them
unfoldable pub placed : List ℤ → List ℤ
placed t = tabulate 129 (at t)

-- two strings that pass 1 to 6 and 11
pub record StringRanges (s : Setup) (u v : List ℤ) : Type 0 where
  pub setup : Passed (setup_rules s)
  pub newer-length : length u ≡ points s
  pub older-length : length v ≡ points s
  pub newer : T (all displacement_ok u)
  pub older : T (all displacement_ok v)

-- what 01's ranges keep the weighted string within
abbrev pub weighted_size : ℕ
weighted_size = 3 * 2 ^ 32

-- and what c without the contact is made of: string terms, newer − older displacement, force
abbrev pub side_sizes : List ℕ
side_sizes = 4 * weighted_size ∷ 2097152 ∷ 1073741824 ∷ []
