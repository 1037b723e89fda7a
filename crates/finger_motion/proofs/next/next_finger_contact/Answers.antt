-- `next_finger_contact` meets its contract.
use mathlib.Core.List.{[], ◌∷◌}
use Prim.Native.Nat.{◌^◌, pred}
use lib.IntN.{ℤ}
use mir.Syntax.{w32, w64}
use mir.Val.{SFits}
use Rattle.integers.specs.Size.{◌within◌}
use Rattle.integers.specs.Machine.{Code, var, ◌⊞◌, ◌⊟◌, ◌⊠◌, cast, Env, ∅, ◌▹◌, ◌▸◌, result, fits}
use Rattle.laws.specs.MoveSizes.{move_size}
use Rattle.finger_motion.proofs.next.next_finger_contact.Goals as goal

abbrev body : Code
body = cast w32 (var 0) ⊞ var 1 ⊠ (var 2 ⊟ var 3)

ρ : {φ g δ w : ℤ} → SFits w32 φ → (g within 255) × (δ within move_size) × (w within 2 ^ 44) → Env (φ ∷ g ∷ δ ∷ w ∷ []) (2 ^ 31 ∷ 255 ∷ move_size ∷ 2 ^ 44 ∷ []) (pred (2 ^ 31) ∷ 255 ∷ move_size ∷ 2 ^ 44 ∷ [])
ρ f h = f ▸ h.0 ▹ h.1 ▹ h.2 ▹ ∅

pub returns : goal.returns
returns c = result (ρ c.ranges.contact c.requires) w64 body tt

pub overflow_sub-result : goal.overflow_sub-result
overflow_sub-result c = fits (ρ c.ranges.contact c.requires) w64 (var 2 ⊟ var 3) tt

pub overflow_mul-result : goal.overflow_mul-result
overflow_mul-result c = fits (ρ c.ranges.contact c.requires) w64 (var 1 ⊠ (var 2 ⊟ var 3)) tt

pub overflow_add-result : goal.overflow_add-result
overflow_add-result c = fits (ρ c.ranges.contact c.requires) w64 body tt
