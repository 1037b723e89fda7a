-- `difference` meets its contract.
use mathlib.Core.Path.{refl, sym, ◌∙◌}
use Prim.Native.Nat.{suc}
use lib.IntN.{pos}
use lib.ListN.{get_or}
use mir.Syntax.{w32, w64}
use mir.Val.{SFits}
use borrow.Author.Rules.{sfits_of}
use Rattle.integers.specs.Machine.{Code, var, ◌⊟◌, cast, ∅, ◌▸◌, fits, result}
use Rattle.laws.specs.Strings.{at-minus}
use Rattle.motion.proofs.differences.difference.Goals as goal
use Rattle.motion.proofs.differences.difference.Goals.{After-v-1}

abbrev body : Code
body = cast w32 (var 0) ⊟ cast w32 (var 1)

module _ (c : After-v-1) where
  newer-fits : SFits w32 (get_or c.args.newer.now c.args.i (pos 0))
  newer-fits = sfits_of c.u-1.given

  older-fits : SFits w32 (get_or c.args.older.now c.args.i (pos 0))
  older-fits = sfits_of c.v-1.given

pub returns : goal.returns
returns c = let s = c.before.before in result (newer-fits c ▸ older-fits c ▸ ∅) w64 body tt ∙ sym (at-minus (record { long = s.requires.0 }) (record { long = refl }) (suc s.args.i))

pub bounds-newer-i : goal.bounds-newer-i
bounds-newer-i c = c.requires.1

pub bounds-older-i : goal.bounds-older-i
bounds-older-i c = rw (← c.requires.0) c.requires.1

pub overflow_cast-result : goal.overflow_cast-result
overflow_cast-result c = fits (newer-fits c ▸ ∅) w64 (cast w32 (var 0)) tt

pub overflow_cast-result-2 : goal.overflow_cast-result-2
overflow_cast-result-2 c = fits (older-fits c ▸ ∅) w64 (cast w32 (var 0)) tt

pub overflow_sub-result : goal.overflow_sub-result
overflow_sub-result c = fits (newer-fits c ▸ older-fits c ▸ ∅) w64 body tt
