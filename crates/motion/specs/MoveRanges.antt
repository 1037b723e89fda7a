-- The ranges of what the moves are worked out from, as a step's refusals 1 to 12 leave them.
use Rattle.std.specs.Prelude.{◌≡◌, List, [], ◌∷◌, ℕ, ◌^◌, T, ℤ, length}
use Rattle.integers.specs.Size.{◌within◌}
use Rattle.model.specs.Differences.{at}
use Rattle.model.specs.Ranges.{all, displacement_ok, contact_ok, force_ok, height_ok}
use Rattle.model.specs.Setup.{points}
use Rattle.model.specs.declared.Finger.{Finger}
use Rattle.model.specs.declared.Setup.{Setup}
use Rattle.laws.specs.MoveSizes.{move_size}
use Rattle.laws.specs.Sizes.{free_size}
use Rattle.motion.specs.Weighted.{StringRanges}

-- newer string u, older string v, contact variables ψ, gradients G and pluck force f, over a neck of heights h
pub record PointRanges (s : Setup) (h u v ψ G : List ℤ) (f : ℤ) : Type 0 where
  pub strings : StringRanges s u v
  pub heights-length : length h ≡ points s
  pub contact-length : length ψ ≡ points s
  pub heights : T (all height_ok h)
  pub contact : T (all contact_ok ψ)
  pub gradients : (i : ℕ) → at G i within 255
  pub force : T (force_ok f)

-- a finger that passes 11
pub record FingerRanges (finger : Finger) : Type 0 where
  pub newer : T (displacement_ok finger.newer)
  pub older : T (displacement_ok finger.older)
  pub contact : T (contact_ok finger.contact)

-- how large c without the contact, a gradient and a contact variable of a point are
abbrev pub point_sizes : List ℕ
point_sizes = free_size ∷ 255 ∷ 67108864 ∷ []

-- of the contact variable at p, of the two gradients there, and of the moves of the point and of the finger
abbrev pub worked_sizes : List ℕ
worked_sizes = 67108864 ∷ 255 ∷ 255 ∷ move_size ∷ 2 ^ 44 ∷ []
