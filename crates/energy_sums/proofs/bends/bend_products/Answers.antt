-- The total is the sum over the first i points.
use mathlib.Core.Path.{◌≡◌, ◌∙◌, ap, ap₂}
use mathlib.Core.List.{List, [], ◌∷◌}
use Prim.Native.Nat.{ℕ, suc, ◌-◌, ◌^◌, ◌<◌}
use native.Mathlib.Omega.{arith}
use lib.IntN.{ℤ, pos, ◌-ℤ◌, ◌*ℤ◌}
use lib.ListN.{length, get_or}
use mir.Syntax.{w32, w64}
use mir.Val.{to_z, of_z}
use Rattle.integers.specs.Solve.{◌⊕◌, ◌⊖◌, ◌⊗◌, #◌, ◌≐◌, solve}
use Rattle.integers.specs.Sum.{sum, bend}
use Rattle.integers.specs.Size.{◌within◌, ◌⟨+⟩◌, ◌⟨-⟩◌, ◌⟨*⟩◌, num, wide}
use Rattle.integers.specs.Machine.{Code, var, ♯◌, ◌⊟◌, ◌⊠◌, Within, ∅, ◌▹◌, fits, result, held-within}
use Rattle.model.specs.Differences.{at}
use Rattle.laws.specs.EnergySizes.{Strings, newer-within, older-within}
use Rattle.energy_sums.specs.Raised.{raised, raised-within, only-term}
use Rattle.energy_sums.specs.Summing.{held_is, next_fits, next-sum}
use Rattle.energy_sums.proofs.bends.bend_products.Invariants.{term}
use Rattle.energy_sums.proofs.bends.bend_products.Goals as goal
use Rattle.energy_sums.proofs.bends.bend_products.Goals.{After-bend_product-total, After-old_right-1, Start}

term-within : {u v : List ℤ} → Strings u v → (k : ℕ) → term u v k within 2 ^ 52
term-within h k =
    let a = newer-within h k ⟨-⟩ num 2 ⟨*⟩ newer-within h (suc k) ⟨+⟩ newer-within h (suc (suc k)) in
    let b = older-within h k ⟨-⟩ num 2 ⟨*⟩ older-within h (suc k) ⟨+⟩ older-within h (suc (suc k)) in
    wide (raised-within a b) tt

abbrev bending : Code
bending = var 1 ⊟ ♯ 2 ⊠ var 0

abbrev old-bending : Code
old-bending = var 3 ⊟ ♯ 2 ⊠ var 2

-- the first two values of both strings
module _ (c : After-old_right-1) where
  abbrev start : Start
  start = c.before.before.before.before

  abbrev u : List ℤ
  u = start.args.newer.now

  abbrev v : List ℤ
  v = start.args.older.now

  ρ : Within (get_or u 0 (pos 0) ∷ get_or u 1 (pos 0) ∷ get_or v 0 (pos 0) ∷ get_or v 1 (pos 0) ∷ []) (1048576 ∷ 1048576 ∷ 1048576 ∷ 1048576 ∷ [])
  ρ = let a = newer-within start.requires.0 in let b = older-within start.requires.0 in a 1 ▹ a 2 ▹ b 1 ▹ b 2 ▹ ∅

bend_is : (x : List ℤ) → get_or x 1 (pos 0) -ℤ pos 2 *ℤ get_or x 0 (pos 0) ≡ bend (at x) 0
bend_is x = solve 2 (λ a b. b ⊖ # 2 ⊗ a ≐ # 0 ⊖ # 2 ⊗ a ⊕ b) tt (get_or x 0 (pos 0)) (get_or x 1 (pos 0))

pub loop-i-init : goal.loop-i-init
loop-i-init c =
    let a = c.before in
    let two = (start a).requires.1 in (
      omega arith,
      omega arith,
      held_is c.raised_product-total.type_inv c.raised_product-total.ensures
          ∙ ap₂ raised (result (ρ a) w32 bending tt ∙ bend_is (u a)) (result (ρ a) w32 old-bending tt ∙ bend_is (v a)) ∙ only-term (term (u a) (v a)),
    )

-- a turn
module _ (c : After-bend_product-total) where
  abbrev k : Start
  k = start c.before.before.before.before

  abbrev i : ℕ
  i = c.loop-i.i

  abbrev total : ℕ
  total = c.loop-i.total-bits

  abbrev terms : ℕ → ℤ
  terms = term k.args.newer.now k.args.older.now

  here : i < 129
  here = let l = c.loop-i-test.true in let m = k.requires.0.most in omega arith

  sofar : to_z w64 total ≡ sum i terms
  sofar = c.loop-i.invariant.2

  term_is : to_z w64 (of_z w64 c.bend_product-total.result) ≡ terms i
  term_is = held_is c.bend_product-total.type_inv c.bend_product-total.ensures

pub raised_product-total-requires : goal.raised_product-total-requires
raised_product-total-requires c = (wide (held-within (ρ c) w32 bending tt) tt, wide (held-within (ρ c) w32 old-bending tt) tt)

pub overflow_add-total : goal.overflow_add-total
overflow_add-total c = next_fits (terms c) (total c) (i c) (sofar c) (term_is c) (here c) (term-within (k c).requires.0)

pub loop-i-preserved : goal.loop-i-preserved
loop-i-preserved c = (omega arith, omega (arith, c.loop-i-test.true), next-sum (terms c) (total c) (i c) (sofar c) (term_is c) (here c) (term-within (k c).requires.0))

pub returns : goal.returns
returns c =
    let k = start c.before.before.before in
    let u = k.args.newer.now in
    let all : c.loop-i.i ≡ length u - 1 = let l = c.loop-i.invariant.1 in omega (arith, c.loop-i-test.false) in
    c.loop-i.invariant.2 ∙ ap (λ (n : ℕ). sum n (term u k.args.older.now)) all

pub overflow_mul-own : goal.overflow_mul-own
overflow_mul-own c = fits (ρ c) w32 (♯ 2 ⊠ var 0) tt

pub overflow_sub-right : goal.overflow_sub-right
overflow_sub-right c = fits (ρ c) w32 bending tt

pub overflow_mul-old : goal.overflow_mul-old
overflow_mul-old c = fits (ρ c) w32 (♯ 2 ⊠ var 2) tt

pub overflow_sub-old_right : goal.overflow_sub-old_right
overflow_sub-old_right c = fits (ρ c) w32 old-bending tt
