-- `weigh` meets its contract: what the products are raised by cancels, but for the tension's part.
use mathlib.Core.Path.{◌≡◌, ◌∙◌, ap}
use mathlib.Core.List.{List, [], ◌∷◌}
use Prim.Native.Nat.{◌*◌}
use native.Mathlib.Omega.{arith}
use lib.Dec.{T}
use lib.IntN.{ℤ, pos, ◌+ℤ◌, ◌-ℤ◌, ◌*ℤ◌}
use mir.Syntax.{w32, w64}
use Rattle.integers.specs.Solve.{◌⊕◌, ◌⊖◌, ◌⊗◌, #◌, ◌≐◌, solve}
use Rattle.integers.specs.Size.{◌within◌, natural, num, ◌⟨+⟩◌, ◌⟨*⟩◌}
use Rattle.integers.specs.Machine.{Code, var, nat, ♯◌, ◌⊞◌, ◌⊟◌, ◌⊠◌, Within, ∅, ◌▹◌, fits, result, held-within}
use Rattle.model.specs.Ranges.{displacement_ok}
use Rattle.laws.specs.Sizes.{inside-within}
use Rattle.laws.specs.Accepted.{SetupFacts, setup-facts}
use Rattle.motion.proofs.weighted.weigh.Goals as goal
use Rattle.motion.proofs.weighted.weigh.Goals.{After-raised_product-at_older, Start}

-- of left neighbour, own, right neighbour and older displacement
abbrev sides : Code
sides = var 0 ⊞ var 2

-- of the three products and the tension
abbrev body : Code
body = var 0 ⊟ var 1 ⊟ var 2 ⊟ ♯ 1048576 ⊠ nat 3

-- the three products without what they are raised by
cancels : (L M S left own right older : ℤ) {x y z : ℤ} → x ≡ (L +ℤ pos 2 *ℤ M +ℤ S) *ℤ (own +ℤ pos 1048576) → y ≡ M *ℤ (left +ℤ right +ℤ pos 2097152) → z ≡ S *ℤ (older +ℤ pos 1048576)
    → x -ℤ y -ℤ z -ℤ pos 1048576 *ℤ L ≡ L *ℤ own -ℤ M *ℤ (left -ℤ pos 2 *ℤ own +ℤ right) +ℤ S *ℤ (own -ℤ older)
cancels L M S left own right older e f g = rw (e, f, g)
    (solve 7 (λ L M S left own right older. (L ⊕ # 2 ⊗ M ⊕ S) ⊗ (own ⊕ # 1048576) ⊖ M ⊗ (left ⊕ right ⊕ # 2097152) ⊖ S ⊗ (older ⊕ # 1048576) ⊖ # 1048576 ⊗ L
    ≐ L ⊗ own ⊖ M ⊗ (left ⊖ # 2 ⊗ own ⊕ right) ⊕ S ⊗ (own ⊖ older)) tt L M S left own right older)

module _ (c : Start) where
  facts : SetupFacts c.args.setup
  facts = setup-facts c.args.setup c.requires.0

  displacements : Within (c.args.left ∷ c.args.own ∷ c.args.right ∷ c.args.older ∷ []) (1048576 ∷ 1048576 ∷ 1048576 ∷ 1048576 ∷ [])
  unfolding displacement_ok
  displacements =
      inside-within 1048576 c.args.left c.requires.1 ▹ inside-within 1048576 c.args.own c.requires.2
      ▹ inside-within 1048576 c.args.right c.requires.3 ▹ inside-within 1048576 c.args.older c.requires.4 ▹ ∅

  -- the coefficients
  abbrev L : ℤ
  L = pos c.args.setup.tension

  abbrev M : ℤ
  M = pos c.args.setup.stiffness

  abbrev S : ℤ
  S = pos c.args.setup.viscous

module _ (c : After-raised_product-at_older) where
  abbrev k : Start
  k = c.before.before.before

  abbrev products : List ℤ
  products = c.raised_product-at_own.result ∷ c.raised_product-at_sides.result ∷ c.raised_product-at_older.result ∷ L k ∷ []

  at_own : c.raised_product-at_own.result ≡ (L k +ℤ pos 2 *ℤ M k +ℤ S k) *ℤ (k.args.own +ℤ pos 1048576)
  at_own = c.raised_product-at_own.ensures ∙ ap (λ x. (L k +ℤ pos 2 *ℤ M k +ℤ S k) *ℤ (x +ℤ pos 1048576)) (result (displacements k) w32 (var 1) tt)

  at-sides : c.raised_product-at_sides.result ≡ M k *ℤ (k.args.left +ℤ k.args.right +ℤ pos 2097152)
  at-sides = c.raised_product-at_sides.ensures ∙ ap (λ x. M k *ℤ (x +ℤ pos 2097152)) (result (displacements k) w32 sides tt)

  at-older : c.raised_product-at_older.result ≡ S k *ℤ (k.args.older +ℤ pos 1048576)
  at-older = c.raised_product-at_older.ensures ∙ ap (λ x. S k *ℤ (x +ℤ pos 1048576)) (result (displacements k) w32 (var 3) tt)

  size : (i : ℤ) → T (displacement_ok i) → i within 1048576
  unfolding displacement_ok
  size = inside-within 1048576

  own-size : c.raised_product-at_own.result within (8192 * 2097152)
  own-size =
      let f = facts k in
      rw at_own ((natural f.tension ⟨+⟩ num 2 ⟨*⟩ natural f.stiffness ⟨+⟩ natural f.viscous) ⟨*⟩ (size k.args.own k.requires.2 ⟨+⟩ num 1048576))

  sides-size : c.raised_product-at_sides.result within (1024 * 4194304)
  sides-size = rw at-sides (natural (facts k).stiffness ⟨*⟩ (size k.args.left k.requires.1 ⟨+⟩ size k.args.right k.requires.3 ⟨+⟩ num 2097152))

  older-size : c.raised_product-at_older.result within (2048 * 2097152)
  older-size = rw at-older (natural (facts k).viscous ⟨*⟩ (size k.args.older k.requires.4 ⟨+⟩ num 1048576))

  ρ : Within products (8192 * 2097152 ∷ 1024 * 4194304 ∷ 2048 * 2097152 ∷ 4096 ∷ [])
  ρ = own-size ▹ sides-size ▹ older-size ▹ natural (facts k).tension ▹ ∅

pub returns : goal.returns
returns c = let a = (k c).args in result (ρ c) w64 body tt ∙ cancels (L (k c)) (M (k c)) (S (k c)) a.left a.own a.right a.older (at_own c) (at-sides c) (at-older c)

pub overflow_mul-m : goal.overflow_mul-m
overflow_mul-m c = let f = facts c in omega arith

pub overflow_add-l : goal.overflow_add-l
overflow_add-l c = let f = facts c in omega arith

pub overflow_add-l-2 : goal.overflow_add-l-2
overflow_add-l-2 c = let f = facts c in omega arith

pub raised_product-at_own-requires : goal.raised_product-at_own-requires
raised_product-at_own-requires c = let f = facts c in (omega arith, held-within (displacements c) w32 (var 1) tt, omega arith)

pub overflow_add-left : goal.overflow_add-left
overflow_add-left c = fits (displacements c.before) w32 sides tt

pub raised_product-at_sides-requires : goal.raised_product-at_sides-requires
raised_product-at_sides-requires c = let f = facts c.before in (omega arith, held-within (displacements c.before) w32 sides tt, omega arith)

pub raised_product-at_older-requires : goal.raised_product-at_older-requires
raised_product-at_older-requires c = let f = facts c.before.before in (omega arith, held-within (displacements c.before.before) w32 (var 3) tt, omega arith)

pub overflow_sub-result : goal.overflow_sub-result
overflow_sub-result c = fits (ρ c) w64 (var 0 ⊟ var 1) tt

pub overflow_sub-result-2 : goal.overflow_sub-result-2
overflow_sub-result-2 c = fits (ρ c) w64 (var 0 ⊟ var 1 ⊟ var 2) tt

pub overflow_cast-result : goal.overflow_cast-result
overflow_cast-result c = fits (ρ c) w64 (nat 3) tt

pub overflow_mul-result : goal.overflow_mul-result
overflow_mul-result c = fits (ρ c) w64 (♯ 1048576 ⊠ nat 3) tt

pub overflow_sub-result-3 : goal.overflow_sub-result-3
overflow_sub-result-3 c = fits (ρ c) w64 body tt
