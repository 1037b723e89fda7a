-- The table of laying, whose first rows, those of the setup, another call examined.
use Rattle.std.specs.Prelude.{◌≡◌, ◌&&◌, ◌||◌, not, List, [], ◌∷◌, ℕ, ◌≤◌, Bool, true, false, T, ltb, eqb, ℤ, length, drop}
use Rattle.std.proofs.Common.{sym}
use Rattle.std.proofs.Math.Path.{refl}
use Rattle.std.proofs.Math.Facts.{and_yes, eqb_yes, or_no, T_not-not}
use Rattle.model.specs.Neck.{Plan, increasing, frets_wrong, neck_rules}
use Rattle.model.specs.Ranges.{all, between}
use Rattle.model.specs.Refusal.{first_of}
use Rattle.model.specs.Setup.{N, points, place_ok, length_ok, setup_rules}
use Rattle.model.specs.declared.Setup.{Setup}
use Rattle.laws.specs.Accepted.{sound, setup-reached, setup-accepted, right-lengths}
use Rattle.laws.specs.Answered.{refused-rows}
use Rattle.laws.specs.Refusals.{passed, fails}

-- a setup that passed has a string with a point
pub two-segments : (s : Setup) → 0 ≡ first_of (setup_rules s) → 2 ≤ N s
two-segments s given = (setup-accepted s 0 given refl).segments-low

-- what goes through the table, from the rows of the setup on
pub ruleset rows = (refused-rows, setup-reached, two-segments)

-- where the buffers and the frets passed, every fret stands on the board
pub placed : (s : Setup) (board : ℕ) (others : Bool) {measured : Bool} → measured ≡ (length_ok s board && others) → measured ≡ true → (frets : List ℕ) {wrong : Bool} → wrong ≡ frets_wrong s frets → wrong ≡ false
    → T (all (λ i. between 1 i board) frets)
unfolding place_ok length_ok
placed s board others e h frets q w =
    let placed = all (place_ok s) frets in
    let t = (or_no (ltb 24 (length frets) || not placed) (not (increasing frets)) (rw (← q, w) tt)).0 in
    let long : board ≡ points s = eqb_yes (and_yes (eqb board (points s)) others (rw (← e, h) tt)).0 in
    rw long (T_not-not placed (or_no (ltb 24 (length frets)) (not placed) t).1)

-- what a neck is written by, where the call is not turned down
pub measured : (s : Setup) (plan : Plan) (heights : List ℤ) (stiffness : List ℕ) → 0 ≡ first_of (neck_rules s plan heights stiffness)
    → (2 ≤ N s) × (length plan.board ≡ points s) × (length heights ≡ points s) × (length stiffness ≡ points s)
unfolding neck_rules setup_rules
measured s plan heights stiffness given =
    let table = neck_rules s plan heights stiffness in
    let h = passed table tt (sym given) in
    let long = right-lengths s (length plan.board ∷ length heights ∷ length stiffness ∷ []) (fails 6 table h) in
    ((sound s (drop 5 table) h).segments-low, long.0, long.1.0, long.1.1.0)
