-- 01, 'Laying the neck', and the refusals of laying.
use Rattle.std.specs.Prelude.{Bool, true, ◌&&◌, ◌||◌, not, cond, List, [], ◌∷◌, ◌++◌, ℕ, ltb, eqb, ℤ, pos, length}
use Rattle.std.specs.Int.Signed.{lt_z}
use Rattle.model.specs.Ranges.{all, any, height_ok}
use Rattle.model.specs.Refusal.{Rule, ◌when◌, first_of, Answer, accepted, refused, unless}
use Rattle.model.specs.Setup.{points, place_ok, lengths_rule, setup_rules}
use Rattle.model.specs.Differences.{at, places}
use Rattle.model.specs.State.{Neck}
use Rattle.model.specs.declared.Setup.{Setup}

-- what a neck is laid from: the board's heights and its stiffness, the fret places, the frets' tip height and stiffness
pub record Plan : Type 0 where
  pub board : List ℤ
  pub board_stiffness : ℕ
  pub frets : List ℕ
  pub tip : ℤ
  pub fret_stiffness : ℕ

abbrev pub increasing : List ℕ → Bool
increasing [] = true
increasing (i ∷ []) = true
increasing (i ∷ j ∷ is) = ltb i j && increasing (j ∷ is)

-- 7: a height out of range
abbrev pub heights_rule : List ℤ → Rule
heights_rule hs = 7 when not (all height_ok hs)

-- a fret stands at this place
abbrev pub fret_at : List ℕ → ℕ → Bool
fret_at frets i = any (eqb i) frets

-- 8: more than 24 frets, a fret place out of range or not increasing
abbrev pub frets_wrong : Setup → List ℕ → Bool
frets_wrong s frets = ltb 24 (length frets) || not (all (place_ok s) frets) || not (increasing frets)

-- 9: the tip above 0 or below the board at a fret; with no fret the tip isn't examined
abbrev pub tip_wrong : List ℤ → List ℕ → ℤ → Bool
tip_wrong board frets tip = any (λ i. lt_z (pos 0) tip || lt_z tip (at board i)) frets

-- the answer, and the two lent buffers after the call
pub record NeckResult : Type 0 where
  pub answer : Answer (Unit {0})
  pub heights : List ℤ
  pub stiffness : List ℕ

-- a fret's point takes the tip height and the fret stiffness, every other point the board's
unfoldable pub laid : Setup → Plan → Neck
laid s plan = record {
  heights = places (points s) (λ i. cond (fret_at plan.frets i) plan.tip (at plan.board i));
  stiffness = places (points s) (λ i. cond (fret_at plan.frets i) plan.fret_stiffness plan.board_stiffness);
}

-- an accepted neck
abbrev pub laid_result : Neck → NeckResult
laid_result neck = record { answer = accepted tt; heights = neck.heights; stiffness = neck.stiffness }

-- heights and stiffness are the lent buffers
module _ (s : Setup) (plan : Plan) (heights : List ℤ) (stiffness : List ℕ) where
  unfoldable pub neck_rules : List Rule
  neck_rules = setup_rules s
      ++ lengths_rule s (length plan.board ∷ length heights ∷ length stiffness ∷ [])
      ∷ heights_rule plan.board
      ∷ 8 when frets_wrong s plan.frets
      ∷ 9 when tip_wrong plan.board plan.frets plan.tip
      ∷ []

  unfoldable pub lay : NeckResult
  lay = unless (first_of neck_rules) (laid_result (laid s plan)) (λ n. record { answer = refused n; heights = heights; stiffness = stiffness })
