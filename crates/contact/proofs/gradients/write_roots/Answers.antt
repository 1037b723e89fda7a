-- `write_roots` meets its contract.
use mathlib.Core.Path.{◌≡◌, sym, ◌∙◌, ap, subst}
use Prim.Native.Nat.{ℕ, ◌≤◌, ◌<◌}
use native.Mathlib.Nat.{le_refl}
use native.Mathlib.Omega.{arith}
use lib.ListN.{get_or}
use Rattle.integers.specs.Filled.{rewritten-none, rewritten-more}
use Rattle.model.specs.Gradient.{root}
use Rattle.contact.proofs.gradients.write_roots.Goals as goal
use Rattle.contact.proofs.gradients.write_roots.Goals.{In-loop-j, Start}

-- a turn
module _ (c : In-loop-j) where
  abbrev start : Start
  start = c.before.before

  abbrev j : ℕ
  j = c.loop-j.j

  in_array : j < 128
  in_array = let l = c.loop-j-test.true in let m = start.requires.0 in omega arith

  number_is : get_or c.loop-j.numbers j 0 ≡ get_or start.args.numbers.now j 0
  number_is = c.loop-j.invariant.rest j (le_refl j)

pub root-requires : goal.root-requires
root-requires c = let t = c.before.before.before in subst (λ (n : ℕ). n ≤ 1023) (sym (number_is t)) ((start t).requires.2 (j t))

pub loop-j-preserved : goal.loop-j-preserved
loop-j-preserved c = let t = c.before.before.before in rewritten-more (in_array t) t.loop-j.invariant (c.root.ensures ∙ ap root (number_is t))

pub returns : goal.returns
returns c = let filled = c.loop-j.invariant.filled in record { len = filled.len; each = λ m h. filled.each m (let l = c.loop-j-test.false in omega arith) }

pub loop-j-init : goal.loop-j-init
loop-j-init c = rewritten-none c.requires.1

pub bounds-numbers-j : goal.bounds-numbers-j
bounds-numbers-j c = in_array c.before.before

pub bounds-numbers-j-in-loop-j : goal.bounds-numbers-j-in-loop-j
bounds-numbers-j-in-loop-j c = in_array c.before.before.before
