-- 01, 'Contact gradient', and 02, item 3: the contacts of all points over a neck, and of the finger, before the moves.
use Rattle.std.specs.Prelude.{◌≡◌, ℕ, ◌*◌, ◌/◌, min, ◌≤◌, T, ℤ, pos, ◌-ℤ◌, nat_abs, length, get_or}
use mathlib.Core.List.{List, zip_with}
use Rattle.integers.specs.Filled.{tabulate}
use Rattle.model.specs.Differences.{at, minus}
use Rattle.model.specs.Gradient.{gradient}
use Rattle.model.specs.Ranges.{all, height_ok, displacement_ok}
use Rattle.model.specs.Setup.{p}
use Rattle.model.specs.Step.{kept}
use Rattle.model.specs.declared.Finger.{Finger}
use Rattle.model.specs.declared.Setup.{Setup}

-- a string u in range over a neck of its length, of heights h and stiffnesses k
pub record OverNeck (k : List ℕ) (h u : List ℤ) : Type 0 where
  pub heights-length : length h ≡ length u
  pub stiffness-length : length k ≡ length u
  pub most : length u ≤ 127
  pub heights : T (all height_ok h)
  pub string : T (all displacement_ok u)

-- the number q of a stiffness k and a depth d above 0
abbrev pub root_number : ℕ → ℤ → ℕ
root_number k d = min 1023 (k * nat_abs d / 1024)

-- heights h and stiffnesses k of the neck, newer string u, contact variables ψ: what is kept of the variables, and the gradients
abbrev pub kept_contacts : (h u ψ : List ℤ) → List ℤ
kept_contacts h u ψ = zip_with kept (minus h u) ψ

abbrev pub gradients_at : (k : List ℕ) (h u : List ℤ) → List ℤ
gradients_at k h u = zip_with gradient k (minus h u)

-- the gradients of n points as an array holds them
abbrev pub gradients_in : ℕ → List ℕ → List ℤ
gradients_in n gs = tabulate n (λ i. pos (get_or gs i 0))

-- the finger over the newer string u: its depth, and what is kept of it
abbrev pub finger_depth : Setup → List ℤ → Finger → ℤ
finger_depth s u finger = at u (p s) -ℤ finger.newer

abbrev pub kept_finger : Setup → List ℤ → Finger → Finger
kept_finger s u finger = record { newer = finger.newer; older = finger.older; contact = kept (finger_depth s u finger) finger.contact }
