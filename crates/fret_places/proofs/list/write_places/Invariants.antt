-- The loop's invariant: the places of the first k frets are written.
use Prim.Native.Nat.{suc, ◌≤◌}
use lib.ListN.{length}
use Rattle.integers.specs.Filled.{Filled}
use Rattle.model.specs.Frets.{fret_place}
use Rattle.fret_places.proofs.list.write_places.Given as goal

abbrev pub invariant-loop-k : goal.invariant-loop-k
invariant-loop-k l = (length l.initial.places ≤ 24) × Filled 0 (length l.initial.places) (λ k. fret_place l.segments (suc k)) l.k l.places
