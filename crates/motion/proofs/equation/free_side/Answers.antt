-- `free_side` meets its contract: the string terms of c are D1 of the weighted string.
use mathlib.Core.Path.{◌≡◌, sym, ◌∙◌, ap, ap₂}
use mathlib.Core.List.{List, [], ◌∷◌}
use Prim.Native.Nat.{ℕ, suc, ◌*◌, ◌<◌}
use native.Mathlib.Decide.{dec_lt}
use native.Mathlib.Omega.{arith}
use lib.IntN.{ℤ, pos, ◌+ℤ◌, ◌-ℤ◌, ◌*ℤ◌}
use lib.ListN.{length, get_or, get_or-eq_default}
use mir.Syntax.{w32, w64}
use Rattle.integers.specs.Filled.{length-tabulate, get_d_tabulate}
use Rattle.integers.specs.Solve.{◌⊕◌, ◌⊖◌, ◌⊗◌, #◌, ◌≐◌, solve}
use Rattle.integers.specs.Size.{◌within◌, ◌⟨-⟩◌, num, wide}
use Rattle.integers.specs.Machine.{Code, var, ♯◌, ◌⊞◌, ◌⊠◌, cast, Within, ∅, ◌▹◌, result, fits}
use Rattle.model.specs.Ranges.{force_ok}
use Rattle.model.specs.Setup.{L, M, S}
use Rattle.model.specs.Differences.{at, minus, D1, D2}
use Rattle.model.specs.Step.{right_side}
use Rattle.model.specs.declared.Setup.{Setup}
use Rattle.laws.specs.Sizes.{inside-within, D1-bounded}
use Rattle.laws.specs.Strings.{at-minus}
use Rattle.motion.specs.Weighted.{weighted, placed, StringRanges, weighted_size, side_sizes}
use Rattle.motion.specs.InRange.{displacement-size, newer-spans, older-spans, most-points}
use Rattle.motion.specs.Linear.{spans-weighted, weighted-size, weighted-linear}
use Rattle.motion.proofs.equation.free_side.Goals as goal
use Rattle.motion.proofs.equation.free_side.Goals.{After-difference-change, Start}

module _ (c : Start) where
  abbrev s : Setup
  s = c.args.setup

  abbrev u : List ℤ
  u = c.args.state.newer.now

  abbrev v : List ℤ
  v = c.args.state.older.now

  abbrev t : List ℤ
  t = c.args.weighted.now

  abbrev i : ℕ
  i = c.args.i

  ranges : StringRanges s u v
  ranges = c.requires.0

  same_length : (length u ≡ length v) × (i < length u)
  same_length = (ranges.newer-length ∙ sym ranges.older-length, rw ranges.newer-length c.requires.3)

  -- an entry of the array is the value at that place
  placed-entry : (k : ℕ) → k < 129 → get_or t k (pos 0) ≡ at (weighted s u v) k
  unfolding placed
  placed-entry k l = ap (λ x. get_or x k (pos 0)) c.requires.1 ∙ get_d_tabulate 129 (at (weighted s u v)) (pos 0) k l

  entry-size : (k : ℕ) → get_or t k (pos 0) within weighted_size
  unfolding placed
  entry-size k = go (dec_lt k 129)
    where
      go : Dec (k < 129) → get_or t k (pos 0) within weighted_size
      go (yes l) = rw (placed-entry k l) (weighted-size ranges k)
      go (no l) = rw (get_or-eq_default t (pos 0) {n = k} (omega (arith, ap length c.requires.1 ∙ length-tabulate 129 (at (weighted s u v))))) (wide (num 0) tt)

  place : i < 127
  place = let h = most-points ranges in let k = c.requires.3 in omega arith

  abbrev terms : ℤ
  terms = at (D1 (weighted s u v)) (suc i)

  abbrev change : ℤ
  change = at (minus u v) (suc i)

  terms-are : terms ≡ pos (L s) *ℤ at (D1 u) (suc i) -ℤ pos (M s) *ℤ at (D2 u) (suc i) +ℤ pos (S s) *ℤ at (D1 (minus u v)) (suc i)
  terms-are = weighted-linear s (newer-spans ranges) (older-spans ranges) i c.requires.3

  in-weighted : i < length (weighted s u v)
  in-weighted = rw (spans-weighted s (newer-spans ranges) (older-spans ranges)).long c.requires.3

  change-size : change within 2097152
  change-size = rw (at-minus (newer-spans ranges) (older-spans ranges) (suc i)) (displacement-size u ranges.newer (suc i) ⟨-⟩ displacement-size v ranges.older (suc i))

  -- c without the contact, by the sum that the code works out
  side : pos 8192 *ℤ change +ℤ terms +ℤ c.args.force ≡ right_side s u v (pos 0) (pos 0) c.args.force (suc i)
  side = ap (λ x. pos 8192 *ℤ change +ℤ x +ℤ c.args.force) terms-are
      ∙ solve 5 (λ x l m n f. x ⊕ (l ⊖ m ⊕ n) ⊕ f ≐ x ⊕ l ⊖ m ⊕ n ⊕ # 2 ⊗ # 0 ⊗ # 0 ⊕ f) tt (pos 8192 *ℤ change) (pos (L s) *ℤ at (D1 u) (suc i)) (pos (M s) *ℤ at (D2 u) (suc i)) (pos (S s) *ℤ at (D1 (minus u v)) (suc i)) c.args.force

abbrev body : Code
body = ♯ 8192 ⊠ var 1 ⊞ var 0 ⊞ cast w32 (var 2)

-- what the two calls gave
module _ (d : After-difference-change) where
  abbrev a : Start
  a = d.before.before.before.before

  d1_is : d.d1-terms.result ≡ terms a
  d1_is = d.d1-terms.ensures (weighted (s a) (u a) (v a)) a.requires.1 (in-weighted a)

  terms-size : d.d1-terms.result within 4 * weighted_size
  terms-size = rw d1_is (D1-bounded (weighted (s a) (u a) (v a)) (weighted-size (ranges a)) (suc (i a)))

  change-within : d.difference-change.result within 2097152
  change-within = rw d.difference-change.ensures (change-size a)

  ρ : Within (d.d1-terms.result ∷ d.difference-change.result ∷ a.args.force ∷ []) side_sizes
  unfolding force_ok
  ρ = terms-size ▹ change-within ▹ inside-within 1073741824 a.args.force a.requires.2 ▹ ∅

pub returns : goal.returns
returns d = result (ρ d) w64 body tt ∙ ap₂ (λ x y. pos 8192 *ℤ x +ℤ y +ℤ (a d).args.force) d.difference-change.ensures (d1_is d) ∙ side (a d)

pub d1-terms-requires : goal.d1-terms-requires
d1-terms-requires c = (entry-size c, place c)

pub difference-change-requires : goal.difference-change-requires
difference-change-requires c = same_length c.before.before.before

pub overflow_mul-result : goal.overflow_mul-result
overflow_mul-result c = fits (ρ c) w64 (♯ 8192 ⊠ var 1) tt

pub overflow_add-result : goal.overflow_add-result
overflow_add-result c = fits (ρ c) w64 (♯ 8192 ⊠ var 1 ⊞ var 0) tt

pub overflow_cast-result : goal.overflow_cast-result
overflow_cast-result c = fits (ρ c) w64 (cast w32 (var 2)) tt

pub overflow_add-result-2 : goal.overflow_add-result-2
overflow_add-result-2 c = fits (ρ c) w64 body tt
