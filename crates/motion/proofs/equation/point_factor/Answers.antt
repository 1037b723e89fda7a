-- `point_factor` meets its contract.
use mathlib.Core.List.{[], ◌∷◌}
use lib.IntN.{pos}
use mir.Syntax.{w64}
use Rattle.integers.specs.Size.{natural}
use Rattle.integers.specs.Machine.{Code, var, nat, ♯◌, ◌⊞◌, ◌⊠◌, Within, ∅, ◌▹◌, result, fits}
use Rattle.laws.specs.Accepted.{setup-facts}
use Rattle.motion.proofs.equation.point_factor.Goals as goal
use Rattle.motion.proofs.equation.point_factor.Goals.{Start}

abbrev body : Code
body = ♯ 4096 ⊞ nat 0 ⊞ var 1 ⊠ var 1

ρ : (c : Start) → Within (pos c.args.setup.plain ∷ c.args.gradient ∷ []) (4096 ∷ 255 ∷ [])
ρ c = natural (setup-facts c.args.setup c.requires.0).plain ▹ c.requires.1 ▹ ∅

pub returns : goal.returns
returns c = result (ρ c) w64 body tt

pub overflow_cast-result : goal.overflow_cast-result
overflow_cast-result c = fits (ρ c) w64 (nat 0) tt

pub overflow_add-result : goal.overflow_add-result
overflow_add-result c = fits (ρ c) w64 (♯ 4096 ⊞ nat 0) tt

pub overflow_mul-result : goal.overflow_mul-result
overflow_mul-result c = fits (ρ c) w64 (var 1 ⊠ var 1) tt

pub overflow_add-result-2 : goal.overflow_add-result-2
overflow_add-result-2 c = fits (ρ c) w64 body tt
