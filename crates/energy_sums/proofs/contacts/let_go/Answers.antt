-- The depth is above 0 just where `low` is below `high`.
use mathlib.Core.Path.{◌≡◌, sym, ◌∙◌, ap}
use mathlib.Core.Bool.{Bool, true, false, cond}
use lib.IntN.{pos, ◌-ℤ◌}
use mir.Syntax.{w32}
use mir.Facts.{to_z-of_z}
use Rattle.integers.specs.Tests.{below, below_at}
use Rattle.model.specs.Step.{let_go}
use Rattle.laws.specs.LastMoves.{let_go-test}
use Rattle.energy_sums.proofs.contacts.let_go.Goals as goal
use Rattle.energy_sums.proofs.contacts.let_go.Goals.{Start}

gone-by : (a : Start) (b : Bool) → below a.args.low a.args.high ≡ b → cond b (pos 0) a.args.variable ≡ let_go (a.args.high -ℤ a.args.low) a.args.variable
gone-by a b q = sym (let_go-test a.args.high a.args.low a.args.variable ∙ ap (λ b. cond b (pos 0) a.args.variable) q)

pub returns-then-low-high : goal.returns-then-low-high
returns-then-low-high c = let a = c.before in gone-by a true (below_at w32 true a.args.low a.args.high c.if-low-high.true a.ranges.low a.ranges.high)

pub returns-else-low-high : goal.returns-else-low-high
returns-else-low-high c = let a = c.before in to_z-of_z a.ranges.variable ∙ gone-by a false (below_at w32 false a.args.low a.args.high c.if-low-high.false a.ranges.low a.ranges.high)
