-- As many places are written as are asked for.
use Rattle.fret_places.proofs.Table.{asked, written}
use Rattle.fret_places.proofs.fret_places.Goals as goal

pub write_places-requires : goal.write_places-requires
write_places-requires c = asked c.args.segments c.args.number c.args.places.now c.in_ok-examine_frets.ensures

pub returns : goal.returns
returns c = written c.args.segments c.args.number c.args.places.now c.in_ok-examine_frets.ensures c.write_places.ensures
