-- 01, 'Setup', under its letters; the refusals 1 to 5, and the rows 4 and 6 that other entries share.
use Rattle.std.specs.Prelude.{Bool, ◌||◌, not, List, [], ◌∷◌, ℕ, ◌+◌, ◌*◌, ◌-◌, ltb, eqb}
use Rattle.model.specs.Ranges.{between, all, any}
use Rattle.model.specs.Refusal.{Rule, ◌when◌, first_of, Answer, accepted, refused, unless}
use Rattle.model.specs.declared.Setup.{Setup}

-- 1: the number of segments out of range
abbrev pub segments_rule : ℕ → Rule
segments_rule N = 1 when not (between 2 N 128)

module _ (s : Setup) where
  -- segments
  abbrev pub N : ℕ
  N = s.segments

  -- tension
  abbrev pub L : ℕ
  L = s.tension

  -- stiffness
  abbrev pub M : ℕ
  M = s.stiffness

  -- viscous loss
  abbrev pub S : ℕ
  S = s.viscous

  -- plain loss
  abbrev pub Z : ℕ
  Z = s.plain

  -- finger stiffness, mass and place
  abbrev pub K : ℕ
  K = s.finger.stiffness

  abbrev pub m : ℕ
  m = s.finger.mass

  abbrev pub p : ℕ
  p = s.finger.place

  -- pluck place
  abbrev pub e : ℕ
  e = s.pluck_place

  -- the string's points are the places 1 to N − 1
  abbrev pub points : ℕ
  points = N - 1

  unfoldable pub place_ok : ℕ → Bool
  place_ok i = between 1 i points

  -- 4: a place out of range
  abbrev pub places_rule : List ℕ → Rule
  places_rule is = 4 when not (all place_ok is)

  -- 6: a buffer not N − 1 long, by the buffers' lengths
  unfoldable pub length_ok : ℕ → Bool
  length_ok n = eqb n points

  abbrev pub lengths_rule : List ℕ → Rule
  lengths_rule ns = 6 when not (all length_ok ns)

  -- 2: L is 0, or L, M, S or Z above 4096
  abbrev pub coefficient_wrong : Bool
  coefficient_wrong = eqb L 0 || any (ltb 4096) (L ∷ M ∷ S ∷ Z ∷ [])

  -- finger, pluck, bridge pickup and neck pickup
  abbrev pub own_places : List ℕ
  own_places = p ∷ e ∷ s.bridge_place ∷ s.neck_place ∷ []

  -- In document 000's symbols L, M, S and Z are 4096 times T0·k²/(ρA·h²), E·I·k²/(ρA·h⁴), 2·σ1·k/h² and σ0·k; the sum rule, 3, is condition (17) of document 001.
  unfoldable pub setup_rules : List Rule
  setup_rules =
      1 when not (between 2 N 128)
      ∷ 2 when coefficient_wrong
      ∷ 3 when ltb 4096 (L + 4 * M + 2 * S)
      ∷ places_rule own_places
      ∷ 5 when not (between 1 m 1048576)
      ∷ []

  unfoldable pub setup : Answer Setup
  setup = unless (first_of setup_rules) (accepted s) refused
