-- The places keep their number, and those written fit it.
use Rattle.std.proofs.Common.{◌≡◌, ◌≤◌, length}
use Rattle.runs.proofs.generator.Generator.frets.Given as goal

abbrev pub invariant-loop-place : goal.invariant-loop-place
invariant-loop-place l = (length l.places ≡ length l.initial.places) × (l.count ≤ length l.places)
