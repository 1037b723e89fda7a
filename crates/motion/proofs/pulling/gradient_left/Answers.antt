-- `gradient_left` meets its contract: old and new variable sum below 0 just where twice the old one is below its change.
use mathlib.Core.Path.{◌≡◌, sym, ◌∙◌, ap₂}
use mathlib.Core.Bool.{Bool, true, false, cond}
use mathlib.Core.List.{[], ◌∷◌}
use Prim.Native.Nat.{◌^◌, pred}
use lib.IntN.{pos, ◌+ℤ◌, ◌-ℤ◌, ◌*ℤ◌}
use lib.Signed.{lt_z}
use mir.Syntax.{w32, w64}
use mir.Facts.{to_z-of_z}
use Rattle.integers.specs.Tests.{below}
use Rattle.integers.specs.Bits.{wide_fits}
use Rattle.integers.specs.Machine.{Code, var, ♯◌, ◌⊠◌, cast, Env, ∅, ◌▸◌, fits, result}
use Rattle.model.specs.Step.{left}
use Rattle.laws.specs.LastMoves.{left-by-test}
use Rattle.motion.proofs.pulling.gradient_left.Goals as goal
use Rattle.motion.proofs.pulling.gradient_left.Goals.{Start}

abbrev twice : Code
twice = ♯ 2 ⊠ cast w32 (var 0)

module _ (a : Start) where
  ρ : Env (a.args.contact ∷ []) (2 ^ 31 ∷ []) (pred (2 ^ 31) ∷ [])
  ρ = a.ranges.contact ▸ ∅

  left_is : (b : Bool) → below (pos 2 *ℤ a.args.contact) a.args.change ≡ b → left a.args.gradient (a.args.contact +ℤ (a.args.contact -ℤ a.args.change)) ≡ cond b (pos 0) a.args.gradient
  left_is b = left-by-test a.args.contact a.args.change a.requires.0 b

pub returns-then-twice-change : goal.returns-then-twice-change
unfolding below
returns-then-twice-change c = let a = c.before in sym (left_is a true (ap₂ lt_z (sym (result (ρ a) w64 twice tt)) (sym (to_z-of_z a.ranges.change)) ∙ c.if-twice-change.true))

pub returns-else-twice-change : goal.returns-else-twice-change
unfolding below
returns-else-twice-change c = let a = c.before in to_z-of_z a.ranges.gradient ∙ sym (left_is a false (ap₂ lt_z (sym (result (ρ a) w64 twice tt)) (sym (to_z-of_z a.ranges.change)) ∙ c.if-twice-change.false))

pub overflow_cast-twice : goal.overflow_cast-twice
overflow_cast-twice c = wide_fits w64 tt c.ranges.contact

pub overflow_mul-twice : goal.overflow_mul-twice
overflow_mul-twice c = fits (ρ c) w64 twice tt
