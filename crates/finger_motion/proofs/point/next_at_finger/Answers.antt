-- `next_at_finger` meets its contract: nothing wraps, and 32 bits hold the point's move and contact variable.
use mathlib.Core.Path.{sym, ◌∙◌, ap, subst}
use mathlib.Core.List.{[], ◌∷◌}
use borrow.Author.Rules.{rules}
use lib.IntN.{ℤ, ◌-ℤ◌, ◌*ℤ◌}
use mir.Syntax.{w32, w64}
use mir.Val.{SFits, to_z, of_z}
use mir.Facts.{to_z-of_z}
use Rattle.integers.specs.Bits.{narrow-fits, narrow_is}
use Rattle.integers.specs.Machine.{Code, var, ◌⊟◌, ◌⊠◌, cast, Within, entry, fits, result, held-within}
use Rattle.integers.specs.Size as Size
use Rattle.integers.specs.Size.{◌within◌, ◌⟨-⟩◌}
use Rattle.laws.specs.MoveSizes.{change_size}
use Rattle.motion.specs.MoveRanges.{worked_sizes}
use Rattle.finger_motion.specs.declared.pair.WorkedPair.{WorkedPair}
use Rattle.finger_motion.proofs.point.next_at_finger.Goals as goal
use Rattle.finger_motion.proofs.point.next_at_finger.Goals.{After-struct_told-4-1}

-- from the contact variable, the two gradients and the two moves
abbrev change : Code
change = var 1 ⊠ var 3

abbrev next-variable : Code
next-variable = cast w32 (var 0) ⊟ change

module _ {ψ : ℤ} {w : WorkedPair} (given : Within (ψ ∷ w.left.own ∷ w.left.finger ∷ w.moves.delta ∷ w.moves.finger_delta ∷ []) worked_sizes × ((w.left.own *ℤ w.moves.delta) within change_size)) where
  move-fits : SFits w32 w.moves.delta
  move-fits = Size.fits (entry given.0 3) tt

  next_fits : SFits w32 (ψ -ℤ w.left.own *ℤ w.moves.delta)
  next_fits = Size.fits (entry given.0 0 ⟨-⟩ given.1) tt

pub new_finger-next-requires : goal.new_finger-next-requires
new_finger-next-requires c = (held-within c.requires.0 w64 (var 2) tt, entry c.requires.0 3, entry c.requires.0 4)

parts-fit : (c : After-struct_told-4-1) → SFits w64 c.new_finger-next.result.height × SFits w64 c.new_finger-next.result.contact
parts-fit c = search rules

pub returns : goal.returns
returns c =
    let k = c.requires in
    let a = c.args in
    let next = rw (result k.0 w64 (var 2) tt) at c.new_finger-next.ensures in
    let fit = parts-fit c in
    λ i. record {
      delta = narrow_is w64 tt (move-fits k) i;
      contact = (ap (λ z. to_z w32 (of_z w32 z)) (result k.0 w64 next-variable tt) ∙ to_z-of_z (next_fits k)) i;
      height = (to_z-of_z fit.0 ∙ ap (λ r. r.height) next) i;
      finger_contact = (to_z-of_z fit.1 ∙ ap (λ r. r.contact) next) i;
    }

pub overflow_cast-result : goal.overflow_cast-result
overflow_cast-result c = narrow-fits w64 tt (move-fits c.requires)

pub overflow_mul-result : goal.overflow_mul-result
overflow_mul-result c = fits c.requires.0 w64 change tt

pub overflow_sub-result : goal.overflow_sub-result
overflow_sub-result c = fits c.requires.0 w64 next-variable tt

pub overflow_cast-result-3 : goal.overflow_cast-result-3
overflow_cast-result-3 c = subst (λ z. SFits w32 z) (sym (result c.requires.0 w64 next-variable tt)) (next_fits c.requires)
