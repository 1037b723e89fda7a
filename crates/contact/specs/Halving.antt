-- 02, item 4: the root worked out bit by bit, from the highest down.
use Rattle.std.specs.Prelude.{◌≡◌, ℕ, ◌+◌, ◌*◌, ◌≤◌, ◌<◌}
use Rattle.std.proofs.Common.{subst, zero-le, add-one, arith}
use Rattle.model.specs.Gradient.{root}
use Rattle.laws.specs.Gradient.{root_is, root-unique}

-- the greatest whole number whose square is at most x is at least r and below r + w, which is at most 256
pub record RootFrom (x r w : ℕ) : Type 0 where
  pub low : r * r ≤ x
  pub high : x < (r + w) * (r + w)
  pub small : r + w ≤ 256

-- a bit b is set where the square allows it, and half of what was open is left
module _ {x r b : ℕ} (h : RootFrom x r (2 * b)) where
  pub bit-set : (r + b) * (r + b) ≤ x → RootFrom x (r + b) b
  bit-set l = let e : r + 2 * b ≡ (r + b) + b = omega arith in record { low = l; high = subst (λ (s : ℕ). x < s * s) e h.high; small = let s = h.small in omega arith }

  pub bit-clear : x < (r + b) * (r + b) → RootFrom x r b
  bit-clear l = record { low = h.low; high = l; small = let s = h.small in omega arith }

-- before the first bit nothing is known of the root of q, and after the last one it is found
pub root-open : (q : ℕ) → q ≤ 1023 → RootFrom (64 * q) 0 256
root-open q h = record { low = zero-le; high = omega arith; small = omega arith }

pub root-found : {q r : ℕ} → q ≤ 1023 → RootFrom (64 * q) r 1 → r ≡ root q
root-found {q} {r} l h = root-unique (record { low = h.low; high = subst (λ (s : ℕ). 64 * q < s * s) (add-one r) h.high }) (root_is q l)
