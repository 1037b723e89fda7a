-- `d1` meets its contract.
use mathlib.Core.Path.{◌≡◌, refl, sym, ◌∙◌}
use mathlib.Core.List.{List, [], ◌∷◌}
use Prim.Native.Nat.{ℕ, suc, ◌+◌, ◌<◌}
use native.Mathlib.Numerals.{add-one, add-two}
use native.Mathlib.Omega.{arith}
use lib.IntN.{ℤ, pos, ◌+ℤ◌, ◌-ℤ◌, ◌*ℤ◌}
use lib.ListN.{length, get_or}
use mir.Syntax.{w64}
use Rattle.integers.specs.Filled.{get_d_tabulate}
use Rattle.integers.specs.Machine.{Code, var, ♯◌, ◌⊞◌, ◌⊟◌, ◌⊠◌, Within, ∅, ◌▹◌, result, fits}
use Rattle.model.specs.Differences.{at, D1}
use Rattle.laws.specs.Strings.{at-D1}
use Rattle.motion.specs.Weighted.{placed, weighted_size}
use Rattle.motion.proofs.differences.d1.Goals as goal
use Rattle.motion.proofs.differences.d1.Goals.{After-right-1}

abbrev body : Code
body = var 0 ⊟ ♯ 2 ⊠ var 1 ⊞ var 2

ρ : (c : After-right-1) → (let a = c.args in Within (get_or a.string.now a.i (pos 0) ∷ get_or a.string.now (a.i + 1) (pos 0) ∷ get_or a.string.now (a.i + 2) (pos 0) ∷ []) (weighted_size ∷ weighted_size ∷ weighted_size ∷ []))
ρ c = let s = c.before.before.before in s.requires.0 s.args.i ▹ s.requires.0 (s.args.i + 1) ▹ s.requires.0 (s.args.i + 2) ▹ ∅

-- of a string that the array holds by place
held-by-place : {l : List ℤ} (t : List ℤ) {i : ℕ} → l ≡ placed t → i < 127 → i < length t → get_or l i (pos 0) -ℤ pos 2 *ℤ get_or l (i + 1) (pos 0) +ℤ get_or l (i + 2) (pos 0) ≡ at (D1 t) (suc i)
unfolding placed
held-by-place {l} t {i} e h k = rw (e, get_d_tabulate 129 (at t) (pos 0) i (omega arith), get_d_tabulate 129 (at t) (pos 0) (i + 1) (omega arith), get_d_tabulate 129 (at t) (pos 0) (i + 2) (omega arith), add-one, add-two)
    (sym (at-D1 (record { long = refl }) i k))

pub returns : goal.returns
returns c t e k = result (ρ c) w64 body tt ∙ held-by-place t e c.requires.1 k

pub overflow_mul-result : goal.overflow_mul-result
overflow_mul-result c = fits (ρ c) w64 (♯ 2 ⊠ var 1) tt

pub overflow_sub-result : goal.overflow_sub-result
overflow_sub-result c = fits (ρ c) w64 (var 0 ⊟ ♯ 2 ⊠ var 1) tt

pub overflow_add-result : goal.overflow_add-result
overflow_add-result c = fits (ρ c) w64 body tt
