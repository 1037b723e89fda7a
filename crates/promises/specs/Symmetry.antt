-- 02, item 2: two runs, one with every displacement, finger height and force of the other negated. Crate `laws` proves it in its file Symmetry.
use Rattle.std.specs.Prelude.{◌≡◌, List, [], ◌∷◌, map, T, neg_ℤ, pos, ◌≤ℤ◌, length}
use Rattle.model.specs.Ranges.{all, contact_ok}
use Rattle.model.specs.Refusal.{Answer, accepted, refused}
use Rattle.model.specs.State.{Lent, state_of, Neck, Forces, PointsAndFinger}
use Rattle.model.specs.Step.{worked_step}
use Rattle.model.specs.Steps.{voice, Call, history}
use Rattle.model.specs.declared.Setup.{Setup}
use Rattle.model.specs.declared.Frame.{Frame}
use Rattle.promises.specs.Promises.{Every}

-- the gradients of the last moves of a call
abbrev pub last_gradients : Neck → Call → PointsAndFinger
last_gradients neck k = (worked_step k.before.setup neck (state_of k.before.lent) k.forces).gradients

-- none of them is above zero
pub record NoContact (neck : Neck) (k : Call) : Type 0 where
  pub points : Every (λ G. G ≤ℤ pos 0) (last_gradients neck k).points
  pub finger : (last_gradients neck k).finger ≤ℤ pos 0

-- the turn of the mirror is that of the voice, and every displacement and finger height is the negative; contact variables are not compared
pub record Opposite (v mirror : Lent) : Type 0 where
  pub first : mirror.first ≡ map neg_ℤ v.first
  pub second : mirror.second ≡ map neg_ℤ v.second
  pub turn : mirror.turn ≡ v.turn
  pub height : mirror.finger.newer ≡ neg_ℤ v.finger.newer
  pub older-height : mirror.finger.older ≡ neg_ℤ v.finger.older

abbrev pub opposed : Forces → Forces
opposed F = record { pluck = neg_ℤ F.pluck; finger = neg_ℤ F.finger }

-- the contact variables are in range, and otherwise any; the buffers are as long as each other
pub record Contacts (v mirror : Lent) : Type 0 where
  pub one : T (all contact_ok (v.finger.contact ∷ v.contact))
  pub other : T (all contact_ok (mirror.finger.contact ∷ mirror.contact))
  pub lengths : length mirror.contact ≡ length v.contact

-- both are accepted, or both refused with the same number
abbrev pub Alike : Answer Frame → Answer Frame → Type 0
Alike (accepted f) (accepted g) = Unit {0}
Alike (accepted f) (refused n) = ⊥
Alike (refused m) (accepted g) = ⊥
Alike (refused m) (refused n) = m ≡ n

-- as many calls of both; the same are accepted; and after each, every displacement and finger height of one is the negative of the other's
abbrev pub Mirrored : List Call → List Call → Type 0
Mirrored [] [] = Unit {0}
Mirrored [] (j ∷ js) = ⊥
Mirrored (k ∷ ks) [] = ⊥
Mirrored (k ∷ ks) (j ∷ js) = Alike k.result.answer j.result.answer × Opposite k.result.lent j.result.lent × Mirrored ks js

abbrev pub Symmetry : Type 0
Symmetry =
    -- for one setup and one neck, any of both,
    (s : Setup) (neck : Neck)
    -- two voices with the same turn, strings and finger heights of one the negatives of the other's, contact variables in range in both,
    (v mirror : Lent) → Opposite v mirror → Contacts v mirror
    -- and every list of steps, refused ones included, with the forces negated in one,
    → (Fs : List Forces) → let ks = history neck (voice s v) Fs in let js = history neck (voice s mirror) (map opposed Fs) in
    -- where no gradient of the last moves is above zero in either run
    Every (NoContact neck) ks → Every (NoContact neck) js → Mirrored ks js
