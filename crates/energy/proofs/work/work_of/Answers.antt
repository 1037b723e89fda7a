-- All of it fits.
use Rattle.std.proofs.Common.{w32, w64}
use Rattle.integers.specs.Machine.{Code, var, ♯◌, cast, ◌⊟◌, ◌⊠◌, fits, result}
use Rattle.energy.proofs.work.work_of.Goals as goal

abbrev move : Code
move = var 1 ⊟ var 2

abbrev body : Code
body = ♯ 2 ⊠ cast w32 (var 0) ⊠ cast w32 move

pub overflow_sub-result : goal.overflow_sub-result
overflow_sub-result c = fits c.requires w32 move tt

pub overflow_mul-result-2 : goal.overflow_mul-result-2
overflow_mul-result-2 c = fits c.requires w64 body tt

pub returns : goal.returns
returns c = result c.requires w64 body tt
