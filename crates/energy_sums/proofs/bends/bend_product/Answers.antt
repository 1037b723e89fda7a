-- The values around index i are those around the place i + 1.
use mathlib.Core.Path.{◌≡◌, sym, ◌∙◌, ap, ap₂}
use mathlib.Core.List.{List, [], ◌∷◌}
use Prim.Native.Nat.{ℕ, suc, ◌+◌, ◌-◌, ◌<◌}
use native.Mathlib.Numerals.{add-one}
use native.Mathlib.Omega.{arith}
use lib.IntN.{ℤ, pos, ◌+ℤ◌, ◌-ℤ◌, ◌*ℤ◌}
use lib.ListN.{length, get_or}
use mir.Syntax.{w32}
use Rattle.integers.specs.Size.{wide}
use Rattle.integers.specs.Sum.{bend}
use Rattle.integers.specs.Machine.{Code, var, ♯◌, ◌⊞◌, ◌⊟◌, ◌⊠◌, Within, ∅, ◌▹◌, fits, result, held-within}
use Rattle.model.specs.Differences.{at}
use Rattle.laws.specs.EnergySizes.{newer-within, older-within}
use Rattle.laws.specs.Strings.{at-index}
use Rattle.energy_sums.specs.Raised.{raised}
use Rattle.energy_sums.specs.Summing.{held_is}
use Rattle.energy_sums.proofs.bends.bend_product.Goals as goal
use Rattle.energy_sums.proofs.bends.bend_product.Goals.{After-old_right-1, Start}

abbrev bending : Code
bending = var 0 ⊟ ♯ 2 ⊠ var 1 ⊞ var 2

abbrev old-bending : Code
old-bending = var 3 ⊟ ♯ 2 ⊠ var 4 ⊞ var 5

module _ (k : Start) where
  abbrev u : List ℤ
  u = k.args.newer.now

  abbrev v : List ℤ
  v = k.args.older.now

  abbrev i : ℕ
  i = k.args.i

  abbrev left : List ℤ → ℤ
  left x = get_or x (i - 1) (pos 0)

  abbrev own : List ℤ → ℤ
  own x = get_or x i (pos 0)

  abbrev right : List ℤ → ℤ
  right x = get_or x (i + 1) (pos 0)

  bend_is : (x : List ℤ) → left x -ℤ pos 2 *ℤ own x +ℤ right x ≡ bend (at x) i
  bend_is x = ap₂ (λ a b. a -ℤ pos 2 *ℤ own x +ℤ b) (sym (at-index x i k.requires.1)) (ap (λ (j : ℕ). get_or x j (pos 0)) (add-one i))

  ρ : Within (left u ∷ own u ∷ right u ∷ left v ∷ own v ∷ right v ∷ []) (1048576 ∷ 1048576 ∷ 1048576 ∷ 1048576 ∷ 1048576 ∷ 1048576 ∷ [])
  ρ =
      let a = newer-within k.requires.0 in
      let b = older-within k.requires.0 in
      a (suc (i - 1)) ▹ a (suc i) ▹ a (suc (i + 1)) ▹ b (suc (i - 1)) ▹ b (suc i) ▹ b (suc (i + 1)) ▹ ∅

  in-newer : i + 1 < length u
  in-newer = k.requires.2

  in-older : i + 1 < length v
  in-older = let e = k.requires.0.same in let l = k.requires.2 in omega arith

abbrev start : After-old_right-1 → Start
start c = c.before.before.before.before.before.before

pub returns : goal.returns
returns c =
    let k = start c.before in
    held_is c.raised_product.type_inv c.raised_product.ensures ∙ ap₂ raised (result (ρ k) w32 bending tt ∙ bend_is k (u k)) (result (ρ k) w32 old-bending tt ∙ bend_is k (v k))

pub overflow_mul-own : goal.overflow_mul-own
overflow_mul-own c = fits (ρ (start c)) w32 (♯ 2 ⊠ var 1) tt

pub overflow_sub-left-2 : goal.overflow_sub-left-2
overflow_sub-left-2 c = fits (ρ (start c)) w32 (var 0 ⊟ ♯ 2 ⊠ var 1) tt

pub overflow_add-left : goal.overflow_add-left
overflow_add-left c = fits (ρ (start c)) w32 bending tt

pub overflow_mul-old : goal.overflow_mul-old
overflow_mul-old c = fits (ρ (start c)) w32 (♯ 2 ⊠ var 4) tt

pub overflow_sub-old_left-2 : goal.overflow_sub-old_left-2
overflow_sub-old_left-2 c = fits (ρ (start c)) w32 (var 3 ⊟ ♯ 2 ⊠ var 4) tt

pub overflow_add-old_left : goal.overflow_add-old_left
overflow_add-old_left c = fits (ρ (start c)) w32 old-bending tt

pub raised_product-requires : goal.raised_product-requires
raised_product-requires c = (wide (held-within (ρ (start c)) w32 bending tt) tt, wide (held-within (ρ (start c)) w32 old-bending tt) tt)
