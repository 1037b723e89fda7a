-- What a call that is not turned down finds at its place.
use Rattle.std.specs.Prelude.{◌≡◌, List, [], ◌∷◌, ℕ, zero, suc, ◌-◌, ◌≤◌, T, ℤ, pos, length, get_or}
use Rattle.std.proofs.Common.{sym, ◌∙◌, ap₂, subst}
use Rattle.std.proofs.Math.Facts.{T_not-not}
use Rattle.model.specs.Ranges.{all, inside, displacement_ok, height_ok}
use Rattle.model.specs.Reading.{reading_of, string_rules, reading_rules, reading}
use Rattle.model.specs.Refusal.{first_of}
use Rattle.model.specs.Setup.{points, place_ok, places_rule, setup_rules}
use Rattle.model.specs.State.{newest}
use Rattle.model.specs.declared.Reading.{Reading}
use Rattle.model.specs.declared.Reading.TheVariants.{Refused}
use Rattle.model.specs.declared.Setup.{Setup}
use Rattle.promises.specs.Promises.{Passed}
use Rattle.laws.specs.Accepted.{between-yes, right-lengths}
use Rattle.laws.specs.Answered.{number-not-zero}
use Rattle.laws.specs.Refusals.{passed, passed-append, all_yes, at_all, made_by, refused-by}
use Rattle.laws.specs.Strings.{at-index}

-- what holds of both strings holds of the newest
both-newest : (P : List ℤ → Type 0) (first second : List ℤ) (turn : ℕ) → P first → P second → P (newest turn first second)
both-newest P first second zero h k = h
both-newest P first second (suc n) h k = k

-- what a passed table says of the place
module _ (s : Setup) (heights first second : List ℤ) (turn place : ℕ) (given : 0 ≡ first_of (reading_rules s heights first second turn place)) where
  abbrev string : List ℤ
  string = newest turn first second

  rows-passed : Passed (places_rule s (place ∷ []) ∷ string_rules s heights first second turn)
  unfolding reading_rules setup_rules
  rows-passed = (passed-append (setup_rules s) (places_rule s (place ∷ []) ∷ string_rules s heights first second turn) (passed (reading_rules s heights first second turn place) tt (sym given))).1

  pub at_point : (1 ≤ place) × (place ≤ points s)
  unfolding place_ok
  at_point = between-yes 1 place (points s) (all_yes (place_ok s) (place ∷ []) rows-passed.0).0

  pub heights-long : length heights ≡ points s
  heights-long = (right-lengths s (length heights ∷ length first ∷ length second ∷ []) rows-passed.1.0).0

  pub string-long : length string ≡ points s
  string-long =
      let long = right-lengths s (length heights ∷ length first ∷ length second ∷ []) rows-passed.1.0 in
      both-newest (λ u. length u ≡ points s) first second turn long.1.0 long.1.1.0

  pub displacement-ok : T (displacement_ok (get_or string (place - 1) (pos 0)))
  unfolding displacement_ok inside
  displacement-ok = subst (λ u. T (displacement_ok u)) (at-index string place at_point.0) (at_all displacement_ok string tt (T_not-not (all displacement_ok string) rows-passed.1.1.1.0) place)

  pub height-ok : T (height_ok (get_or heights (place - 1) (pos 0)))
  unfolding height_ok inside
  height-ok = subst (λ h. T (height_ok h)) (at-index heights place at_point.0) (at_all height_ok heights tt (T_not-not (all height_ok heights) rows-passed.1.1.0) place)

  -- what is shown of the numbers that stand there is the reading
  pub read-of : (u height : ℤ) (r : Reading) → u ≡ get_or string (place - 1) (pos 0) → height ≡ get_or heights (place - 1) (pos 0) → r ≡ reading_of u height
      → r ≡ reading s heights first second turn place
  unfolding reading
  read-of u height r e h q =
      q ∙ ap₂ reading_of (e ∙ sym (at-index string place at_point.0)) (h ∙ sym (at-index heights place at_point.0))
      ∙ made_by (reading_rules s heights first second turn place) _ Refused (sym given)

-- a table that gives a number
module _ (s : Setup) (heights first second : List ℤ) (turn place : ℕ) where
  pub refused-reading : (n : ℕ) → n ≡ first_of (reading_rules s heights first second turn place) → (n ≡ 0 → ⊥) → reading s heights first second turn place ≡ Refused n
  unfolding reading
  refused-reading n given above = sym (refused-by (reading_rules s heights first second turn place) _ Refused n (sym given) above)

pub ruleset at_place = (number-not-zero, refused-reading, at_point, heights-long, string-long, displacement-ok, height-ok)
