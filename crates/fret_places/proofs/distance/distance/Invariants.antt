-- The loop's invariant: `low` meets the first of the two conditions, `high` the second; where the two are one, it is the distance.
use Prim.Native.Nat.{ℕ, ◌+◌, ◌-◌, ◌*◌, ◌^◌, ◌≤◌, ◌<◌}
use Rattle.fret_places.proofs.distance.distance.Given as goal

pub record Between (N q low high : ℕ) : Type 0 where
  pub first : 1 ≤ low
  pub ordered : low ≤ high
  pub last : high ≤ N
  pub reached : (2 * low - 1) ^ 12 * 2 ^ q ≤ (2 * N) ^ 12
  pub past : (2 * N) ^ 12 < (2 * high + 1) ^ 12 * 2 ^ q

abbrev pub invariant-loop-low : goal.invariant-loop-low
invariant-loop-low l = Between l.segments l.q l.low l.high

abbrev pub decreases-loop-low : goal.decreases-loop-low
decreases-loop-low l = l.high - l.low
