-- A string of one point has the bend −2·own.
use mathlib.Core.Path.{◌≡◌, sym, ◌∙◌, ap₂}
use mathlib.Core.List.{List, [], ◌∷◌}
use lib.IntN.{ℤ, pos, ◌+ℤ◌, ◌-ℤ◌, ◌*ℤ◌}
use lib.ListN.{get_or}
use mir.Syntax.{w32, w64}
use Rattle.integers.specs.Solve.{◌⊕◌, ◌⊖◌, ◌⊗◌, #◌, ◌≐◌, solve}
use Rattle.integers.specs.Sum.{sum}
use Rattle.integers.specs.Machine.{Code, var, cast, ♯◌, ◌⊠◌, Within, ∅, ◌▹◌, fits, result}
use Rattle.model.specs.Differences.{D1, dot}
use Rattle.laws.specs.EnergySizes.{newer-within, older-within}
use Rattle.laws.specs.Strings.{◌spans◌, at-past, form, D1-form}
use Rattle.energy_sums.proofs.bends.bends.Goals as goal
use Rattle.energy_sums.proofs.bends.bends.Goals.{After-old-1, Start}

abbrev product : Code
product = cast w32 (var 0) ⊠ cast w32 (var 1)

abbrev four : Code
four = ♯ 4 ⊠ product

single : {u v : List ℤ} → u spans 1 → v spans 1 → pos 4 *ℤ (get_or u 0 (pos 0) *ℤ get_or v 0 (pos 0)) ≡ dot (D1 u) (D1 v)
unfolding form sum
single {u} {v} hu hv =
    solve 2 (λ a b. # 4 ⊗ (a ⊗ b) ≐ # 0 ⊕ (# 0 ⊖ # 2 ⊗ a ⊕ # 0) ⊗ (# 0 ⊖ # 2 ⊗ b ⊕ # 0)) tt (get_or u 0 (pos 0)) (get_or v 0 (pos 0))
    ∙ ap₂ (λ x y. pos 0 +ℤ (pos 0 -ℤ pos 2 *ℤ get_or u 0 (pos 0) +ℤ x) *ℤ (pos 0 -ℤ pos 2 *ℤ get_or v 0 (pos 0) +ℤ y)) (sym (at-past hu)) (sym (at-past hv))
    ∙ sym (D1-form hu hv)

module _ (c : After-old-1) where
  abbrev k : Start
  k = c.before.before.before

  ρ : Within (get_or k.args.newer.now 0 (pos 0) ∷ get_or k.args.older.now 0 (pos 0) ∷ []) (1048576 ∷ 1048576 ∷ [])
  ρ = newer-within k.requires 1 ▹ older-within k.requires 1 ▹ ∅

pub returns-then-newer-eq1 : goal.returns-then-newer-eq1
returns-then-newer-eq1 c =
    let one = c.if-newer-eq1.true in
    result (ρ c) w64 four tt ∙ single (record { long = one }) (record { long = sym (k c).requires.same ∙ one })

pub overflow_mul-result : goal.overflow_mul-result
overflow_mul-result c = fits (ρ c) w64 product tt

pub overflow_mul-result-then-newer-eq1 : goal.overflow_mul-result-then-newer-eq1
overflow_mul-result-then-newer-eq1 c = fits (ρ c) w64 four tt
