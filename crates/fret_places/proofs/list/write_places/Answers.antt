-- `write_places` meets its contract.
use Rattle.integers.proofs.Filled.{filled-all}
use Rattle.model.specs.Frets.{fret_places}
use Rattle.fret_places.proofs.list.write_places.Goals as goal

pub returns : goal.returns
unfolding fret_places
returns c = filled-all c.loop-k-test.false c.loop-k.invariant.1
