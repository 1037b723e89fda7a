-- With the last point it is the sum over all of them.
use mathlib.Core.Path.{◌≡◌, ◌∙◌, ap, ap₂}
use mathlib.Core.List.{List, [], ◌∷◌}
use Prim.Native.Nat.{ℕ, suc, ◌-◌, ◌^◌, ◌≤◌, ◌<◌}
use native.Mathlib.Omega.{arith}
use lib.IntN.{ℤ, pos, ◌+ℤ◌, ◌-ℤ◌, ◌*ℤ◌}
use lib.ListN.{length, get_or}
use mir.Syntax.{w32, w64}
use mir.Val.{to_z, of_z}
use mir.Facts.{to_z-of_z}
use Rattle.integers.specs.Sum.{sum}
use Rattle.integers.specs.Size as Size
use Rattle.integers.specs.Size.{◌within◌, ◌⟨+⟩◌, ◌⟨-⟩◌, ◌⟨*⟩◌, num, wide}
use Rattle.integers.specs.Machine.{Code, var, ♯◌, ◌⊞◌, ◌⊟◌, ◌⊠◌, Within, ∅, ◌▹◌, fits, result, held-within, sized}
use Rattle.laws.specs.EnergySizes.{newer-within, older-within, spans-newer, spans-older}
use Rattle.energy_sums.specs.Raised.{raise, raised, raised-within}
use Rattle.energy_sums.specs.Ends.{last, last-bend, raised_bends, all-bends}
use Rattle.energy_sums.specs.Summing.{held_is, few-terms}
use Rattle.energy_sums.proofs.bends.many_bends.Goals as goal
use Rattle.energy_sums.proofs.bends.many_bends.Goals.{After-bend_products-total, After-raised_ends-ends, After-raised_product-last, Start}

-- first, left and own value of the newer string, then of the older one
abbrev bending : Code
bending = var 1 ⊟ ♯ 2 ⊠ var 2

abbrev old-bending : Code
old-bending = var 4 ⊟ ♯ 2 ⊠ var 5

module _ (k : Start) where
  abbrev u : List ℤ
  u = k.args.newer.now

  abbrev v : List ℤ
  v = k.args.older.now

  abbrev n : ℕ
  n = length u

  abbrev terms : ℕ → ℤ
  terms = raised_bends (spans-newer k.requires.0) (spans-older k.requires.0)

  two : 2 ≤ n
  two = k.requires.1

  in-older : n - 1 < length v
  in-older = let e = k.requires.0.same in let l = two in omega arith

  ρ : Within (get_or u 0 (pos 0) ∷ get_or u (n - 2) (pos 0) ∷ last u n ∷ get_or v 0 (pos 0) ∷ get_or v (n - 2) (pos 0) ∷ last v n ∷ []) (1048576 ∷ 1048576 ∷ 1048576 ∷ 1048576 ∷ 1048576 ∷ 1048576 ∷ [])
  ρ =
      let a = newer-within k.requires.0 in
      let b = older-within k.requires.0 in
      a 1 ▹ a (suc (n - 2)) ▹ a (suc (n - 1)) ▹ b 1 ▹ b (suc (n - 2)) ▹ b (suc (n - 1)) ▹ ∅

  few : n ≤ 128
  few = let l = k.requires.0.most in omega arith

  term-within : (j : ℕ) → terms j within 2 ^ 52
  term-within j =
      let a = newer-within k.requires.0 in
      let b = older-within k.requires.0 in
      wide (raised-within (a j ⟨-⟩ num 2 ⟨*⟩ a (suc j) ⟨+⟩ a (suc (suc j))) (b j ⟨-⟩ num 2 ⟨*⟩ b (suc j) ⟨+⟩ b (suc (suc j)))) tt

module _ (c : After-raised_product-last) where
  abbrev start : Start
  start = c.before.before.before.before.before.before.before.before

  abbrev total : ℤ
  total = to_z w64 (of_z w64 c.bend_products-total.result)

  abbrev end : ℤ
  end = to_z w64 (of_z w64 c.raised_product-last.result)

  total_is : total ≡ sum (n start - 1) (terms start)
  total_is = held_is c.bend_products-total.type_inv c.bend_products-total.ensures

  end_is : end ≡ terms start (n start - 1)
  end_is =
      let k = start in
      held_is c.raised_product-last.type_inv c.raised_product-last.ensures
      ∙ ap₂ raised (result (ρ k) w32 bending tt ∙ last-bend (spans-newer k.requires.0) (two k)) (result (ρ k) w32 old-bending tt ∙ last-bend (spans-older k.requires.0) (two k))

  total-within : total within 2 ^ 60
  total-within = rw total_is (few-terms (n start - 1) (let l = few start in omega arith) (term-within start))

  end-within : end within 2 ^ 52
  end-within = rw end_is (term-within start (n start - 1))

-- with what the bends sum to
module _ (c : After-raised_ends-ends) where
  abbrev here : Start
  here = start c.before

  abbrev ends : ℤ
  ends = to_z w64 (of_z w64 c.raised_ends-ends.result)

  ends_is : ends ≡ raise *ℤ (get_or (u here) 0 (pos 0) +ℤ last (u here) (n here) +ℤ get_or (v here) 0 (pos 0) +ℤ last (v here) (n here))
  ends_is =
      let r = ρ here in
      held_is c.raised_ends-ends.type_inv c.raised_ends-ends.ensures
      ∙ ap₂ (λ x y. raise *ℤ (x +ℤ y)) (ap₂ (λ x y. x +ℤ y) (ap₂ (λ x y. x +ℤ y) (result r w32 (var 0) tt) (result r w32 (var 2) tt)) (result r w32 (var 3) tt)) (result r w32 (var 5) tt)

  ends-within : ends within 2 ^ 45
  ends-within = rw ends_is (wide (num 4194304 ⟨*⟩ sized (ρ here) (var 0 ⊞ var 2 ⊞ var 3 ⊞ var 5)) tt)

  sum-within : (total c.before +ℤ end c.before) within 2 ^ 61
  sum-within = wide (total-within c.before ⟨+⟩ end-within c.before) tt

  sum_is : to_z w64 (of_z w64 (total c.before +ℤ end c.before)) ≡ total c.before +ℤ end c.before
  sum_is = to_z-of_z {w = w64} (Size.fits sum-within tt)

  whole-within : (to_z w64 (of_z w64 (total c.before +ℤ end c.before)) +ℤ ends) within 2 ^ 61
  whole-within = rw sum_is (wide (total-within c.before ⟨+⟩ end-within c.before ⟨+⟩ ends-within) tt)

pub returns : goal.returns
returns c =
    let d = c.before in
    let k = here d in
    held_is c.lowered.type_inv c.lowered.ensures
    ∙ ap (λ z. z -ℤ raise *ℤ raise *ℤ pos (n k)) (to_z-of_z {w = w64} (Size.fits (whole-within d) tt) ∙ ap₂ (λ a b. a +ℤ b) (sum_is d ∙ ap₂ (λ a b. a +ℤ b) (total_is d.before) (end_is d.before)) (ends_is d))
    ∙ all-bends (spans-newer k.requires.0) (spans-older k.requires.0) (omega (arith, two k))

abbrev after-total : After-bend_products-total → Start
after-total c = c.before.before.before.before.before.before.before

pub raised_product-last-requires : goal.raised_product-last-requires
raised_product-last-requires c = let r = ρ (after-total c) in (wide (held-within r w32 bending tt) tt, wide (held-within r w32 old-bending tt) tt)

pub raised_ends-ends-requires : goal.raised_ends-ends-requires
raised_ends-ends-requires c = let r = ρ (start c) in held-within r w32 (var 0) tt ▹ held-within r w32 (var 2) tt ▹ held-within r w32 (var 3) tt ▹ held-within r w32 (var 5) tt ▹ ∅

pub overflow_add-total : goal.overflow_add-total
overflow_add-total c = Size.fits (sum-within c) tt

pub overflow_add-total-2 : goal.overflow_add-total-2
overflow_add-total-2 c = Size.fits (whole-within c) tt

pub lowered-requires : goal.lowered-requires
lowered-requires c = (rw (to_z-of_z {w = w64} (Size.fits (whole-within c) tt)) (whole-within c), few (here c))

pub overflow_mul-own : goal.overflow_mul-own
overflow_mul-own c = fits (ρ (after-total c)) w32 (♯ 2 ⊠ var 2) tt

pub overflow_sub-left-2 : goal.overflow_sub-left-2
overflow_sub-left-2 c = fits (ρ (after-total c)) w32 bending tt

pub overflow_mul-old : goal.overflow_mul-old
overflow_mul-old c = fits (ρ (after-total c)) w32 (♯ 2 ⊠ var 5) tt

pub overflow_sub-old_left-2 : goal.overflow_sub-old_left-2
overflow_sub-old_left-2 c = fits (ρ (after-total c)) w32 old-bending tt
