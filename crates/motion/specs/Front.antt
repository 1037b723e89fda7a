-- The front of an array of 127 numbers, of which the first m are in use.
use Rattle.std.specs.Prelude.{◌≡◌, List, ℕ, suc, ◌≤◌, ◌<◌, ℤ, pos, length, get_or, take}
use Rattle.std.proofs.Common.{arith, get_or-take, length-take-le}
use Rattle.integers.specs.Size.{◌within◌}
use Rattle.model.specs.Differences.{at}
use Rattle.laws.specs.Sizes.{Bounded}
use Rattle.laws.specs.Strings.{◌spans◌}

module _ (l : List ℤ) {m : ℕ} where
  pub front-spans : length l ≡ 127 → m ≤ 127 → take m l spans m
  front-spans e h = record { long = length-take-le m l (omega arith) }

  pub front_at : (i : ℕ) → i < m → at (take m l) (suc i) ≡ get_or l i (pos 0)
  front_at i h = get_or-take m l i (pos 0) h

  pub front-within : {n : ℕ} → Bounded (take m l) n → (i : ℕ) → i < m → get_or l i (pos 0) within n
  front-within b i h = rw (front_at i h) at (b (suc i))
