-- `work_again` meets its contract: where the working before it leaves both gradients, it is also this one.
use mathlib.Core.Path.{sym, ◌∙◌, ap}
use mathlib.Core.List.{[], ◌∷◌}
use lib.IntN.{ℤ}
use mir.Syntax.{w64}
use mir.Val.{to_z}
use Rattle.integers.specs.Machine.{Code, var, ◌⊞◌, Within, ∅, ◌▹◌, result, fits}
use Rattle.finger_motion.specs.Pair.{Pair, left-pair, stays}
use Rattle.finger_motion.proofs.pair.work_again.Goals as goal

abbrev after : Code
after = var 0 ⊞ var 1

abbrev before : Code
before = var 2 ⊞ var 3

ρ : {a g a' g' : ℤ} → Pair (a', g') → Pair (a, g) → Within (a' ∷ g' ∷ a ∷ g ∷ []) (255 ∷ 255 ∷ 255 ∷ 255 ∷ [])
ρ left h = left.own.0 ▹ left.gradient.0 ▹ h.own.0 ▹ h.gradient.0 ▹ ∅

pub overflow_add-left : goal.overflow_add-left
overflow_add-left c = fits (ρ (left-pair c.requires.1 c.requires.2) c.requires.1) w64 after tt

pub work_pair-requires : goal.work_pair-requires
work_pair-requires c = (c.requires.0, left-pair c.requires.1 c.requires.2)

pub returns-then-left-gradients : goal.returns-then-left-gradients
returns-then-left-gradients c =
    let sizes = ρ (left-pair c.requires.1 c.requires.2) c.requires.1 in
    stays c.requires.1 c.requires.2 (sym (result sizes w64 after tt) ∙ ap (to_z w64) c.if-left-gradients.true ∙ result sizes w64 before tt)
