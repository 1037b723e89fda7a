-- All of it fits.
use mir.Syntax.{w32, w64}
use Rattle.integers.specs.Machine.{Code, var, cast, ♯◌, ◌⊞◌, ◌⊠◌, fits, result}
use Rattle.energy_sums.proofs.bends.raised_ends.Goals as goal

abbrev both : Code
both = var 0 ⊞ var 1 ⊞ var 2 ⊞ var 3

abbrev ends : Code
ends = cast w32 (♯ 4194304) ⊠ cast w32 both

pub overflow_add-result-2 : goal.overflow_add-result-2
overflow_add-result-2 c = fits c.requires w32 (var 0 ⊞ var 1 ⊞ var 2) tt

pub overflow_add-result-3 : goal.overflow_add-result-3
overflow_add-result-3 c = fits c.requires w32 both tt

pub returns : goal.returns
returns c = result c.requires w64 ends tt
