-- A number of the change is the difference of those of both strings, which lie within 1,048,576.
use Rattle.std.proofs.Common.{arith}
use Rattle.std.proofs.lemmas.Int.{ints}
use Rattle.energy_sums.specs.Lines.{parts}
use Rattle.energy_sums.proofs.changes.ChangeLine.number.Goals as goal

pub bounds-self-i : goal.bounds-self-i
bounds-self-i c = let p = parts c.requires.0 c.args.i c.requires.1 in omega arith

pub bounds-self-i-2 : goal.bounds-self-i-2
bounds-self-i-2 c = let p = parts c.requires.0 c.args.i c.requires.1 in omega arith

pub offset_bounds-self-i : goal.offset_bounds-self-i
offset_bounds-self-i c = let p = parts c.requires.0 c.args.i c.requires.1 in omega (arith, c.requires.0.most)

pub overflow_sub-result : goal.overflow_sub-result
overflow_sub-result c = let p = parts c.requires.0 c.args.i c.requires.1 in omega (arith, ints)

pub returns : goal.returns
returns c = let p = parts c.requires.0 c.args.i c.requires.1 in omega (arith, ints)

pub offset_bounds-self-i-2 : goal.offset_bounds-self-i-2
offset_bounds-self-i-2 c = let p = parts c.requires.0 c.args.i c.requires.1 in omega (arith, c.requires.0.most)
