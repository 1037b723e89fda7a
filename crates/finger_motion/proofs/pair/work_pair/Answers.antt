-- `work_pair` meets its contract: the finger's system, solved, and what its moves leave of both gradients.
use mathlib.Core.Path.{◌≡◌, ◌∙◌, ap}
use mathlib.Core.List.{[], ◌∷◌}
use Prim.Native.Nat.{◌^◌}
use lib.Dec.{lit<}
use lib.IntN.{ℤ, ◌+ℤ◌, ◌-ℤ◌, ◌*ℤ◌}
use mir.Syntax.{w32, w64}
use mir.Val.{to_z, of_z}
use mir.Facts.{to_z-of_z}
use Rattle.integers.specs.Bits.{back}
use Rattle.integers.specs.Machine.{Code, var, ◌⊟◌, ◌⊠◌, Within, ∅, ◌▹◌, held, result, held-within, fits}
use Rattle.integers.specs.Size.{wide}
use Rattle.integers.specs.Solve.{◌⊕◌, ◌⊖◌, ◌⊗◌, ◌≐◌, solve}
use Rattle.model.specs.Ranges.{contact_ok, force_ok}
use Rattle.model.specs.Step.{factor, left, finger_system}
use Rattle.model.specs.System.{System, rounded₁, rounded₂}
use Rattle.model.specs.declared.Finger.{Finger}
use Rattle.model.specs.declared.Setup.{Setup}
use Rattle.laws.specs.Accepted.{setup-facts}
use Rattle.laws.specs.LastMoves.{with_contact, worked_system}
use Rattle.laws.specs.MoveSizes.{move_size}
use Rattle.laws.specs.Moves.{factor-positive}
use Rattle.laws.specs.Pulling.{pair_left}
use Rattle.laws.specs.Sizes.{factor-size, inside-within}
use Rattle.motion.specs.AtPoint.{read}
use Rattle.motion.specs.MoveRanges.{point_sizes}
use Rattle.finger_motion.specs.Moves.{moves_of}
use Rattle.finger_motion.specs.Pair.{PairRanges, Pair, whole-size, move-small, finger-move-size}
use Rattle.finger_motion.specs.declared.system.Moves.{Moves}
use Rattle.finger_motion.proofs.pair.work_pair.Goals as goal

-- old + new φ by what it falls by, as the code has it, and by what it rises by
falls : (φ g w y : ℤ) → φ +ℤ (φ -ℤ g *ℤ (w -ℤ y)) ≡ φ +ℤ (φ +ℤ g *ℤ (y -ℤ w))
falls = solve 4 (λ φ g w y. φ ⊕ (φ ⊖ g ⊗ (w ⊖ y)) ≐ φ ⊕ (φ ⊕ g ⊗ (y ⊖ w))) tt

abbrev change : Code
change = var 0 ⊠ var 2

abbrev finger-change : Code
finger-change = var 1 ⊠ (var 3 ⊟ var 2)

module _ {s : Setup} {b ψ : ℤ} {finger : Finger} {f own g : ℤ} (given : PairRanges s b ψ finger f × Pair (own, g)) where
  point-sizes : Within (b ∷ own ∷ ψ ∷ []) point_sizes
  point-sizes = let (r, h) = given in r.side ▹ h.own.0 ▹ r.contact ▹ ∅

  -- the arguments, read from their bits
  own-read : to_z w64 (of_z w64 own) ≡ own
  own-read = back w64 given.1.own.0 (lit< tt)

  gradient-read : to_z w64 (of_z w64 g) ≡ g
  gradient-read = back w64 given.1.gradient.0 (lit< tt)

  variable-read : to_z w32 (of_z w32 ψ) ≡ ψ
  variable-read = back w32 given.0.contact (lit< tt)

  held-read : to_z w32 (of_z w32 finger.contact) ≡ finger.contact
  unfolding contact_ok
  held-read = back w32 (inside-within 67108864 finger.contact given.0.held.contact) (lit< tt)

  force-read : to_z w32 (of_z w32 f) ≡ f
  unfolding force_ok
  force-read = back w32 (inside-within 1073741824 f given.0.force) (lit< tt)

  -- the equation of the point
  factor_is : {x : ℤ} → x ≡ factor s (to_z w64 (of_z w64 own)) → to_z w64 (of_z w64 x) ≡ factor s own
  factor_is e = read w64 (e ∙ ap (factor s) own-read) (factor-size (setup-facts s given.0.setup) given.1.own.0) (lit< tt)

  side_is : {x : ℤ} → x ≡ with_contact (to_z w64 (of_z w64 b)) (to_z w32 (of_z w32 ψ)) (to_z w64 (of_z w64 own)) → to_z w64 (of_z w64 x) ≡ with_contact b ψ own
  side_is e = read w64 (e ∙ (λ i. with_contact (back w64 given.0.side (lit< tt) i) (variable-read i) (own-read i))) (whole-size given.0 given.1) (lit< tt)

  abbrev pair : System
  pair = worked_system s b ψ finger f (own, g)

  solved : {x y : ℤ} {m : Moves} → x ≡ factor s (to_z w64 (of_z w64 own)) → y ≡ with_contact (to_z w64 (of_z w64 b)) (to_z w32 (of_z w32 ψ)) (to_z w64 (of_z w64 own))
      → m ≡ moves_of (finger_system s finger (to_z w64 (of_z w64 x)) (to_z w64 (of_z w64 y)) (to_z w64 (of_z w64 g)) (to_z w32 (of_z w32 f))) → m ≡ moves_of pair
  solved e k m = rw (factor_is e, side_is k, gradient-read, force-read) at m

  -- what the contact variables fall by
  module _ {m : Moves} (moved : m ≡ moves_of pair) where
    ρ : Within (own ∷ g ∷ m.delta ∷ m.finger_delta ∷ []) (255 ∷ 255 ∷ move_size ∷ 2 ^ 44 ∷ [])
    ρ = let (r, h) = given in rw moved (h.own.0 ▹ h.gradient.0 ▹ (move-small r h).move ▹ finger-move-size r h ▹ ∅)

    -- and what that leaves of the gradients
    own-left : {x : ℤ} → x ≡ left (to_z w64 (of_z w64 own)) (to_z w32 (of_z w32 ψ) +ℤ (to_z w32 (of_z w32 ψ) -ℤ held (own ∷ g ∷ m.delta ∷ m.finger_delta ∷ []) w64 change)) → x ≡ left own (ψ +ℤ (ψ -ℤ own *ℤ rounded₁ pair))
    own-left e = rw (result ρ w64 change tt ∙ ap (λ m. own *ℤ m.delta) moved, own-read, variable-read) at e

    finger-left : {x : ℤ} → x ≡ left (to_z w64 (of_z w64 g)) (to_z w32 (of_z w32 finger.contact) +ℤ (to_z w32 (of_z w32 finger.contact) -ℤ held (own ∷ g ∷ m.delta ∷ m.finger_delta ∷ []) w64 finger-change))
        → x ≡ left g (finger.contact +ℤ (finger.contact +ℤ g *ℤ (rounded₁ pair -ℤ rounded₂ pair)))
    finger-left e = rw (result ρ w64 finger-change tt ∙ ap (λ m. g *ℤ (m.finger_delta -ℤ m.delta)) moved, gradient-read, held-read, falls) at e

pub point_side-whole-requires : goal.point_side-whole-requires
point_side-whole-requires c = let sizes = point-sizes c.requires in held-within sizes w64 (var 0) tt ▹ held-within sizes w64 (var 1) tt ▹ held-within sizes w32 (var 2) tt ▹ ∅

pub finger_moves-moves-requires : goal.finger_moves-moves-requires
finger_moves-moves-requires c =
    let g = c.requires in
    let (r, h) = g in
    rw (factor_is g c.point_factor-factor.ensures, side_is g c.point_side-whole.ensures, gradient-read g, force-read g)
    (r.setup, r.held, factor-positive c.args.setup c.args.gradients.own, factor-size (setup-facts c.args.setup r.setup) h.own.0, wide (whole-size r h) tt, h.gradient.0, r.force)

pub overflow_mul-change : goal.overflow_mul-change
overflow_mul-change c = fits (ρ c.requires (solved c.requires c.point_factor-factor.ensures c.point_side-whole.ensures c.finger_moves-moves.ensures)) w64 change tt

pub overflow_sub-finger_change : goal.overflow_sub-finger_change
overflow_sub-finger_change c = fits (ρ c.requires (solved c.requires c.point_factor-factor.ensures c.point_side-whole.ensures c.finger_moves-moves.ensures)) w64 (var 3 ⊟ var 2) tt

pub overflow_mul-finger_change : goal.overflow_mul-finger_change
overflow_mul-finger_change c = fits (ρ c.requires (solved c.requires c.point_factor-factor.ensures c.point_side-whole.ensures c.finger_moves-moves.ensures)) w64 finger-change tt

pub gradient_left-own_left-requires : goal.gradient_left-own_left-requires
gradient_left-own_left-requires c =
    let moved = solved c.requires c.point_factor-factor.ensures c.point_side-whole.ensures c.finger_moves-moves.ensures in
    (rw (own-read c.requires) c.requires.1.own.1, wide (held-within (ρ c.requires moved) w64 change tt) tt)

pub gradient_left-finger_left-requires : goal.gradient_left-finger_left-requires
gradient_left-finger_left-requires c =
    let moved = solved c.requires c.point_factor-factor.ensures c.point_side-whole.ensures c.finger_moves-moves.ensures in
    (rw (gradient-read c.requires) c.requires.1.gradient.1, wide (held-within (ρ c.requires moved) w64 finger-change tt) tt)

pub returns : goal.returns
unfolding pair_left
returns c =
    let moved = solved c.requires c.point_factor-factor.ensures c.point_side-whole.ensures c.finger_moves-moves.ensures in
    record {
      gradients = λ i. (
        (to_z-of_z {w = w64} (record { sfits = c.gradient_left-own_left.type_inv }) ∙ own-left c.requires moved c.gradient_left-own_left.ensures) i,
        (to_z-of_z {w = w64} (record { sfits = c.gradient_left-finger_left.type_inv }) ∙ finger-left c.requires moved c.gradient_left-finger_left.ensures) i,
      );
      delta = ap (λ m. m.delta) moved;
      finger-delta = ap (λ m. m.finger_delta) moved;
    }
