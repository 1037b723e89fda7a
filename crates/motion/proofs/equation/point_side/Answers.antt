-- `point_side` meets its contract.
use mathlib.Core.List.{[], ◌∷◌}
use mir.Syntax.{w32, w64}
use Rattle.integers.specs.Machine.{Code, var, ♯◌, ◌⊞◌, ◌⊠◌, cast, Within, result, fits}
use Rattle.motion.specs.MoveRanges.{point_sizes}
use Rattle.motion.proofs.equation.point_side.Goals as goal
use Rattle.motion.proofs.equation.point_side.Goals.{Start}

abbrev body : Code
body = var 0 ⊞ ♯ 2 ⊠ var 1 ⊠ cast w32 (var 2)

ρ : (c : Start) → (let a = c.args in Within (a.side ∷ a.gradient ∷ a.contact ∷ []) point_sizes)
ρ c = c.requires

pub returns : goal.returns
returns c = result (ρ c) w64 body tt

pub overflow_mul-result : goal.overflow_mul-result
overflow_mul-result c = fits (ρ c) w64 (♯ 2 ⊠ var 1) tt

pub overflow_cast-result : goal.overflow_cast-result
overflow_cast-result c = fits (ρ c) w64 (cast w32 (var 2)) tt

pub overflow_mul-result-2 : goal.overflow_mul-result-2
overflow_mul-result-2 c = fits (ρ c) w64 (♯ 2 ⊠ var 1 ⊠ cast w32 (var 2)) tt

pub overflow_add-result : goal.overflow_add-result
overflow_add-result c = fits (ρ c) w64 body tt
