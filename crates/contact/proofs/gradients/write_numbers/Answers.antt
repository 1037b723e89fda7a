-- `write_numbers` meets its contract.
use mathlib.Core.Path.{◌≡◌, sym, ◌∙◌, ap, subst}
use mathlib.Core.List.{List, [], ◌∷◌}
use Prim.Native.Nat.{ℕ, suc, ◌≤◌, ◌<◌}
use native.Mathlib.Omega.{arith}
use lib.IntN.{ℤ, pos}
use lib.ListN.{length, get_or, replicate}
use lib.Signed.{◌<ℤ◌}
use mir.Syntax.{w32}
use Rattle.integers.specs.Filled.{Begun, begun-none, begun_more}
use Rattle.integers.specs.Machine.{Code, var, ◌⊟◌, Within, ∅, ◌▹◌, held, fits, result}
use Rattle.model.specs.Ranges.{height_ok, displacement_ok}
use Rattle.laws.specs.LastMoves.{depth-above}
use Rattle.laws.specs.Refusals.{all-entry}
use Rattle.laws.specs.Sizes.{bounded, height-within}
use Rattle.contact.specs.Contacts.{OverNeck, root_number}
use Rattle.contact.specs.Pressed.{AllPressed, number_at}
use Rattle.contact.proofs.gradients.write_numbers.Goals as goal

abbrev depth : Code
depth = var 0 ⊟ var 1

-- the neck and the string at a listed point
module _ {k : List ℕ} {h u : List ℤ} {list numbers : List ℕ} (given : OverNeck k h u × AllPressed h u list × (length list ≤ 127) × (numbers ≡ replicate 128 0)) {j : ℕ} (l : j < length list) where
  in-heights : get_or list j 0 < length h
  in-heights = let b = given.1.below j l in let e = given.0.heights-length in omega arith

  in-stiffness : get_or list j 0 < length k
  in-stiffness = let b = given.1.below j l in let e = given.0.stiffness-length in omega arith

  ρ : Within (get_or h (get_or list j 0) (pos 0) ∷ get_or u (get_or list j 0) (pos 0) ∷ []) (1048576 ∷ 1048576 ∷ [])
  unfolding displacement_ok
  ρ = height-within _ (all-entry height_ok h (pos 0) given.0.heights (get_or list j 0) in-heights) ▹ bounded 1048576 u given.0.string (suc (get_or list j 0)) ▹ ∅

  above : pos 0 <ℤ held (get_or h (get_or list j 0) (pos 0) ∷ get_or u (get_or list j 0) (pos 0) ∷ []) w32 depth
  above = subst (λ d. pos 0 <ℤ d) (sym (result ρ w32 depth tt)) (depth-above (given.1.pressed j l))

pub loop-j-init : goal.loop-j-init
loop-j-init c = subst (Begun 0 128 _ 0) (sym c.requires.3) begun-none

pub bounds-newer-i : goal.bounds-newer-i
bounds-newer-i c = c.requires.1.below c.loop-j.j c.loop-j-test.true

pub overflow_sub-depth : goal.overflow_sub-depth
overflow_sub-depth c = fits (ρ c.requires c.loop-j-test.true) w32 depth tt

pub root_number-requires : goal.root_number-requires
root_number-requires c = above c.requires c.loop-j-test.true

pub loop-j-preserved : goal.loop-j-preserved
loop-j-preserved c =
    let l = c.loop-j-test.true in
    begun_more (omega (arith, c.requires.2)) c.loop-j.invariant (c.root_number.ensures ∙ ap (root_number (get_or c.args.neck.stiffness.now (get_or c.args.list.now c.loop-j.j 0) 0)) (result (ρ c.requires l) w32 depth tt))

pub returns : goal.returns
returns c =
    let e : c.loop-j.j ≡ length c.args.list.now = omega (arith, c.loop-j-test.false, c.loop-j.auto.j-end) in
    let k = c.args in
    subst (λ (n : ℕ). Begun 0 128 (λ m. number_at k.neck.stiffness.now k.neck.heights.now k.newer.now (get_or k.list.now m 0)) n c.loop-j.numbers) e c.loop-j.invariant
