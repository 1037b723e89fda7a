-- `contact_kept` meets its contract: the depth is above 0 just where `low` is below `high`.
use mathlib.Core.Path.{◌≡◌, sym, ◌∙◌, ap}
use mathlib.Core.Bool.{Bool, true, false, cond}
use lib.IntN.{pos, ◌-ℤ◌}
use mir.Syntax.{w32}
use mir.Facts.{to_z-of_z}
use Rattle.integers.specs.Tests.{below, below_at}
use Rattle.model.specs.Step.{kept}
use Rattle.laws.specs.LastMoves.{kept_test}
use Rattle.contact.proofs.clearing.contact_kept.Goals as goal
use Rattle.contact.proofs.clearing.contact_kept.Goals.{Start}

kept_by : (a : Start) (b : Bool) → below a.args.low a.args.high ≡ b → cond b a.args.variable (pos 0) ≡ kept (a.args.high -ℤ a.args.low) a.args.variable
kept_by a b q = sym (kept_test a.args.high a.args.low a.args.variable ∙ ap (λ b. cond b a.args.variable (pos 0)) q)

pub returns-then-low-high : goal.returns-then-low-high
returns-then-low-high c = let a = c.before in to_z-of_z a.ranges.variable ∙ kept_by a true (below_at w32 true a.args.low a.args.high c.if-low-high.true a.ranges.low a.ranges.high)

pub returns-else-low-high : goal.returns-else-low-high
returns-else-low-high c = let a = c.before in kept_by a false (below_at w32 false a.args.low a.args.high c.if-low-high.false a.ranges.low a.ranges.high)
