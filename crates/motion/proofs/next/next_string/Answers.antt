-- `next_string` meets its contract.
use mathlib.Core.Path.{◌≡◌, refl, sym, ◌∙◌, ap, subst}
use mathlib.Core.List.{List, [], ◌∷◌}
use Prim.Native.Nat.{ℕ, suc, ◌≤◌, ◌<◌}
use native.Mathlib.Nat.{le_refl}
use native.Mathlib.Omega.{arith}
use lib.IntN.{ℤ, pos, ◌+ℤ◌}
use lib.ListN.{length, get_or, take}
use mir.Syntax.{w32}
use Rattle.integers.specs.Machine.{Code, var, ◌⊞◌, Within, ∅, ◌▹◌, result, fits}
use Rattle.integers.specs.Filled.{Rewritten, rewritten-more, filled-first}
use Rattle.integers.specs.Size.{◌within◌}
use Rattle.model.specs.Differences.{at, plus}
use Rattle.laws.specs.MoveSizes.{move_size}
use Rattle.laws.specs.Sizes.{Bounded}
use Rattle.laws.specs.Strings.{◌spans◌, at-plus, spans-plus, by-places}
use Rattle.motion.specs.Front.{front-spans, front_at, front-within}
use Rattle.motion.proofs.next.next_string.Goals as goal

abbrev body : Code
body = var 0 ⊞ var 1

-- the strings that are added
module _ (older moves : List ℤ) (given : (length older ≤ 127) × (length moves ≡ 127) × Bounded older 1048576 × Bounded (take (length older) moves) move_size) where
  abbrev new : List ℤ
  new = plus older (take (length older) moves)

  older-spans : older spans length older
  older-spans = record { long = refl }

  moves-spans : take (length older) moves spans length older
  moves-spans = front-spans moves given.1 given.0

  pub all-places : {l : List ℤ} {i : ℕ} → length older ≤ i → Rewritten (pos 0) 127 moves (λ k. at new (suc k)) i l → take (length older) l ≡ new
  all-places h r = filled-first h given.0 r.filled ∙ by-places (spans-plus older-spans moves-spans)

  -- at a point
  module _ {string : List ℤ} {i : ℕ} (l : i < length older) (turn : Rewritten (pos 0) 127 moves (λ k. at new (suc k)) i string) where
    move_is : get_or string i (pos 0) ≡ get_or moves i (pos 0)
    move_is = turn.rest i (le_refl i)

    pub ρ : Within (get_or older i (pos 0) ∷ get_or string i (pos 0) ∷ []) (1048576 ∷ move_size ∷ [])
    ρ = given.2 (suc i) ▹ subst (λ z. z within move_size) (sym move_is) (front-within moves given.3 i l) ▹ ∅

    pub added : get_or older i (pos 0) +ℤ get_or string i (pos 0) ≡ at new (suc i)
    added = ap (λ z. get_or older i (pos 0) +ℤ z) move_is ∙ sym (at-plus older-spans moves-spans (suc i) ∙ ap (λ z. get_or older i (pos 0) +ℤ z) (front_at moves i l))

pub overflow_add-string : goal.overflow_add-string
overflow_add-string c = fits (ρ c.args.older.now c.args.string.now c.requires c.loop-i-test.true c.loop-i.invariant) w32 body tt

pub loop-i-preserved : goal.loop-i-preserved
loop-i-preserved c =
    let l = c.loop-i-test.true in
    let turn = c.loop-i.invariant in
    rewritten-more (omega (arith, c.requires.0)) turn (result (ρ c.args.older.now c.args.string.now c.requires l turn) w32 body tt ∙ added c.args.older.now c.args.string.now c.requires l turn)

pub returns : goal.returns
returns c = (c.loop-i.invariant.filled.len, all-places c.args.older.now c.args.string.now c.requires c.loop-i-test.false c.loop-i.invariant)
