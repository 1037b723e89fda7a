-- The loop's invariant: what is found among the first k places, and the place of fret k.
use Prim.Native.Nat.{◌≤◌}
use Rattle.model.specs.Frets.{fret_places}
use Rattle.fret_places.specs.Clash.{Judged}
use Rattle.fret_places.proofs.list.clash.Given as goal

abbrev pub invariant-loop-k : goal.invariant-loop-k
invariant-loop-k l = (l.k ≤ l.number) × Judged (fret_places l.segments l.number) l.found l.previous l.k
