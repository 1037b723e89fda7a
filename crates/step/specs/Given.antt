-- The forces of a step, as the machine holds them in words of 32 bits.
use Rattle.std.specs.Prelude.{◌≡◌, ℤ}
use Rattle.std.proofs.Common.{ap₂, SFits, to_z, of_z, to_z-of_z}
use Rattle.std.specs.Int.{w32}
use Rattle.model.specs.State.{Forces}

abbrev pub forces_of : (pluck finger : ℤ) → Forces
forces_of pluck finger = record { pluck = pluck; finger = finger }

-- the forces, read back from their bits
pub forces-read : {pluck finger : ℤ} → SFits w32 pluck → SFits w32 finger → forces_of (to_z w32 (of_z w32 pluck)) (to_z w32 (of_z w32 finger)) ≡ forces_of pluck finger
forces-read f g = ap₂ forces_of (to_z-of_z f) (to_z-of_z g)
