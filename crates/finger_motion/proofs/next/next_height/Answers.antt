-- `next_height` meets its contract.
use mathlib.Core.List.{[], ◌∷◌}
use Prim.Native.Nat.{◌^◌, pred}
use mir.Syntax.{w32, w64}
use Rattle.integers.specs.Machine.{Code, var, ◌⊞◌, cast, Env, ∅, ◌▹◌, ◌▸◌, result, fits}
use Rattle.finger_motion.proofs.next.next_height.Goals as goal
use Rattle.finger_motion.proofs.next.next_height.Goals.{Start}

abbrev body : Code
body = cast w32 (var 0) ⊞ var 1

ρ : (c : Start) → Env (c.args.older ∷ c.args.delta ∷ []) (2 ^ 31 ∷ 2 ^ 44 ∷ []) (pred (2 ^ 31) ∷ 2 ^ 44 ∷ [])
ρ c = c.ranges.older ▸ c.requires ▹ ∅

pub returns : goal.returns
returns c = result (ρ c) w64 body tt

pub overflow_cast-result : goal.overflow_cast-result
overflow_cast-result c = fits (ρ c) w64 (cast w32 (var 0)) tt

pub overflow_add-result : goal.overflow_add-result
overflow_add-result c = fits (ρ c) w64 body tt
