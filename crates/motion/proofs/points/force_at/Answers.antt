-- `force_at` meets its contract: the comparison of places is `eqb`.
use mathlib.Core.Path.{sym, ◌∙◌, ap}
use mathlib.Core.Bool.{cond}
use lib.Dec.{eqb}
use lib.IntN.{pos}
use mir.Facts.{to_z-of_z, yes_eqb, no_eqb}
use Rattle.integers.specs.Tests.{is_true, is_false}
use Rattle.model.specs.Setup.{e}
use Rattle.motion.proofs.points.force_at.Goals as goal

pub returns-then-place-setup : goal.returns-then-place-setup
returns-then-place-setup c =
    let a = c.args in
    to_z-of_z c.ranges.pluck ∙ sym (ap (λ b. cond b a.pluck (pos 0)) (is_true (eqb a.place (e a.setup)) (yes_eqb c.if-place-setup.true)))

pub returns-else-place-setup : goal.returns-else-place-setup
returns-else-place-setup c =
    let a = c.args in
    sym (ap (λ b. cond b a.pluck (pos 0)) (is_false (eqb a.place (e a.setup)) (no_eqb c.if-place-setup.false)))
