-- The table of a list of frets.
use Rattle.std.specs.Prelude.{◌≡◌, List, ℕ, ◌≤◌, eqb, length}
use Rattle.std.proofs.Common.{sym, ap, ◌∙◌}
use Rattle.std.proofs.Math.Facts.{T_not-not, ltb_no, eqb_yes}
use Rattle.model.specs.Frets.{fret_places, fret_rules, frets}
use Rattle.model.specs.Ranges.{between}
use Rattle.model.specs.Refusal.{first_of, accepted}
use Rattle.promises.specs.Promises.{Passed}
use Rattle.laws.specs.Accepted.{between-yes}
use Rattle.laws.specs.Refusals.{passed, fails, made_by}

-- what the places are written by, where the call is not turned down
module _ (N n : ℕ) (buffer : List ℕ) (given : 0 ≡ first_of (fret_rules N n (length buffer))) where
  rows-passed : Passed (fret_rules N n (length buffer))
  unfolding fret_rules
  rows-passed = passed (fret_rules N n (length buffer)) tt (sym given)

  long : length buffer ≡ n
  unfolding fret_rules
  long = eqb_yes (T_not-not (eqb (length buffer) n) (fails 6 (fret_rules N n (length buffer)) rows-passed))

  pub asked : (2 ≤ N) × (N ≤ 128) × (length buffer ≤ 24)
  unfolding fret_rules
  asked =
      let s = between-yes 2 N 128 (T_not-not (between 2 N 128) (fails 1 (fret_rules N n (length buffer)) rows-passed)) in
      (s.0, s.1, rw long (ltb_no (fails 18 (fret_rules N n (length buffer)) rows-passed)))

  -- they are as many as are asked for
  pub written : {places : List ℕ} → places ≡ fret_places N (length buffer) → record { answer = accepted tt; places = places } ≡ frets N n buffer
  unfolding frets
  written p = ap (λ places. record { answer = accepted tt; places = places }) (p ∙ ap (fret_places N) long) ∙ made_by (fret_rules N n (length buffer)) _ _ (sym given)
