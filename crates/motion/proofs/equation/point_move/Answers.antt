-- `point_move` meets its contract: both sides of the division are scaled alike.
use mathlib.Core.Path.{◌≡◌, sym, ◌∙◌, ap, ap₂, subst}
use mathlib.Core.List.{[], ◌∷◌}
use lib.IntN.{ℤ, pos, ◌*ℤ◌}
use lib.Signed.{◌<ℤ◌, lt_z_yes}
use mir.Syntax.{w32, w64}
use mir.Val.{SFits, to_z, of_z}
use mir.Facts.{to_z-of_z}
use Rattle.integers.specs.Order.{times-positive}
use Rattle.integers.specs.Bits.{narrow-fits, narrow_is}
use Rattle.integers.specs.Size as Size
use Rattle.integers.specs.Size.{◌within◌, wide}
use Rattle.integers.specs.Machine.{Code, var, ♯◌, ◌⊠◌, Within, ∅, ◌▹◌, entry, fits, result, held-within}
use Rattle.model.specs.Rounding.{nearest}
use Rattle.model.specs.Step.{factor}
use Rattle.laws.specs.Accepted.{setup-facts}
use Rattle.laws.specs.LastMoves.{with_contact}
use Rattle.laws.specs.MoveSizes.{away-small}
use Rattle.laws.specs.Moves.{factor-positive}
use Rattle.laws.specs.Nearest.{nearest-scaled}
use Rattle.laws.specs.Sizes.{side_size, side-size, factor-size}
use Rattle.motion.specs.MoveRanges.{point_sizes}
use Rattle.motion.proofs.equation.point_move.Goals as goal
use Rattle.motion.proofs.equation.point_move.Goals.{After-nearest, After-point_side-whole, Start}

module _ (a : Start) where
  abbrev c : ℤ
  c = with_contact a.args.side a.args.contact a.args.gradient

  abbrev A : ℤ
  A = factor a.args.setup a.args.gradient

  gradient-size : a.args.gradient within 255
  gradient-size = entry a.requires.1 1

  c-size : c within side_size
  c-size = side-size (entry a.requires.1 0) (entry a.requires.1 2) gradient-size

  A-size : A within 73217
  A-size = factor-size (setup-facts a.args.setup a.requires.0) gradient-size

  move-fits : SFits w32 (nearest c A)
  move-fits = Size.fits (away-small a.args.setup c-size gradient-size).move tt

  -- what the calls are given, read from its bits
  gradient-read : to_z w64 (of_z w64 a.args.gradient) ≡ a.args.gradient
  gradient-read = to_z-of_z a.ranges.gradient

  read : Within (to_z w64 (of_z w64 a.args.side) ∷ to_z w64 (of_z w64 a.args.gradient) ∷ to_z w32 (of_z w32 a.args.contact) ∷ []) point_sizes
  read = held-within a.requires.1 w64 (var 0) tt ▹ held-within a.requires.1 w64 (var 1) tt ▹ held-within a.requires.1 w32 (var 2) tt ▹ ∅

-- both sides of the equation
module _ (d : After-point_side-whole) where
  abbrev start : Start
  start = d.before.before

  whole_is : d.point_side-whole.result ≡ c start
  whole_is = let k = start in d.point_side-whole.ensures ∙ ap₂ (λ b ψ. with_contact b ψ (to_z w64 (of_z w64 k.args.gradient))) (to_z-of_z k.ranges.side) (to_z-of_z k.ranges.contact) ∙ ap (with_contact k.args.side k.args.contact) (gradient-read k)

  factor_is : d.point_factor-factor.result ≡ A start
  factor_is = d.point_factor-factor.ensures ∙ ap (factor start.args.setup) (gradient-read start)

  ρ : Within (d.point_side-whole.result ∷ d.point_factor-factor.result ∷ []) (side_size ∷ 73217 ∷ [])
  ρ = subst (λ z. z within side_size) (sym whole_is) (c-size start) ▹ subst (λ z. z within 73217) (sym factor_is) (A-size start) ▹ ∅

abbrev scaled-side : Code
scaled-side = ♯ 1048576 ⊠ var 0

abbrev scaled-factor : Code
scaled-factor = ♯ 1048576 ⊠ var 1

pub nearest-requires : goal.nearest-requires
nearest-requires d = (
  subst (λ z. pos 0 <ℤ z) (sym (result (ρ d) w64 scaled-factor tt ∙ ap (λ z. pos 1048576 *ℤ z) (factor_is d))) (times-positive {a = pos 1048576} (lt_z_yes tt) (factor-positive (start d).args.setup (start d).args.gradient)),
  wide (held-within (ρ d) w64 scaled-side tt) tt,
  wide (held-within (ρ d) w64 scaled-factor tt) tt,
)

moved : (e : After-nearest) → (let a = start e.before in e.nearest.result ≡ nearest (c a) (A a))
moved e =
    let d = e.before in
    let a = start d in
    e.nearest.ensures ∙ ap₂ nearest (result (ρ d) w64 scaled-side tt ∙ ap (λ z. pos 1048576 *ℤ z) (whole_is d)) (result (ρ d) w64 scaled-factor tt ∙ ap (λ z. pos 1048576 *ℤ z) (factor_is d))
    ∙ nearest-scaled (pos 1048576) (c a) (lt_z_yes tt) (factor-positive a.args.setup a.args.gradient)

pub returns : goal.returns
returns e = ap (λ z. to_z w32 (of_z w32 (to_z w64 (of_z w64 z)))) (moved e) ∙ narrow_is w64 tt (move-fits (start e.before))

pub point_factor-factor-requires : goal.point_factor-factor-requires
point_factor-factor-requires a = (a.requires.0, rw (gradient-read a) (gradient-size a))

pub point_side-whole-requires : goal.point_side-whole-requires
point_side-whole-requires d = read d.before

pub overflow_mul-whole : goal.overflow_mul-whole
overflow_mul-whole d = fits (ρ d) w64 scaled-side tt

pub overflow_mul-factor : goal.overflow_mul-factor
overflow_mul-factor d = fits (ρ d) w64 scaled-factor tt

pub overflow_cast-result : goal.overflow_cast-result
overflow_cast-result e = rw (moved e) (narrow-fits w64 tt (move-fits (start e.before)))
