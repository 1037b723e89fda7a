-- `place < N` is `place ≤ N − 1` for a place above 0, N = 0 included.
use mathlib.Core.Path.{◌≡◌, refl}
use mathlib.Core.Bool.{◌&&◌}
use Prim.Native.Nat.{ℕ, zero, suc, ◌-◌}
use native.Mathlib.Omega.{arith}
use lib.Dec.{leb, ltb, leb-suc-zero, leb-suc-suc}
use Rattle.model.specs.Ranges.{between}
use Rattle.model.specs.Setup.{place_ok}
use Rattle.ranges.proofs.places.place_ok.Goals as goal

last : (i n : ℕ) → (leb 1 i && ltb i n) ≡ between 1 i (n - 1)
unfolding between
last zero n = refl
last (suc i) zero = rw (leb-suc-zero (suc i), leb-suc-zero i)
last (suc i) (suc n) = let e : suc n - 1 ≡ n = omega arith in rw (leb-suc-suc (suc i) n, e)

pub returns : goal.returns
unfolding place_ok
returns c = last c.args.place c.args.setup.segments
