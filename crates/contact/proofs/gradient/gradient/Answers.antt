-- `gradient` meets its contract: at a depth above 0 it is the root of the number.
use mathlib.Core.Path.{◌≡◌, sym, ap, subst, ◌∙◌}
use native.Mathlib.Nat.{min-le_left}
use lib.IntN.{pos}
use lib.Signed.{◌<ℤ◌}
use mir.Syntax.{w32}
use mir.Facts.{to_z-of_z}
use Rattle.integers.specs.Machine.{var, ♯◌, ∅, ◌▸◌, if-le, else-le}
use Rattle.integers.specs.Size.{fits}
use Rattle.model.specs.Gradient.{root, gradient}
use Rattle.laws.specs.Gradient.{gradient-size, gradient_is}
use Rattle.contact.specs.Contacts.{root_number}
use Rattle.contact.specs.Pressed.{gradient-pressed}
use Rattle.contact.proofs.gradient.gradient.Goals as goal
use Rattle.contact.proofs.gradient.gradient.Goals.{After-root, After-root_number-q, Else-depth-le0}

pub returns-then-depth-le0 : goal.returns-then-depth-le0
returns-then-depth-le0 c = sym ((gradient_is _ _).free (if-le (c.ranges.depth ▸ ∅) w32 (var 0) (♯ 0) tt c.if-depth-le0.true))

above : (c : Else-depth-le0) → pos 0 <ℤ c.args.depth
above c = else-le (c.ranges.depth ▸ ∅) w32 (var 0) (♯ 0) tt c.if-depth-le0.false

pub root_number-q-requires : goal.root_number-q-requires
root_number-q-requires c = subst (λ d. pos 0 <ℤ d) (sym (to_z-of_z c.ranges.depth)) (above c)

number : (c : After-root_number-q) → let a = c.before.before in c.root_number-q.result ≡ root_number a.args.stiffness a.args.depth
number c = let a = c.before.before in c.root_number-q.ensures ∙ ap (root_number a.args.stiffness) (to_z-of_z a.ranges.depth)

pub root-requires : goal.root-requires
root-requires c = rw (number c) (min-le_left 1023 _)

entry : (c : After-root) → let a = c.before.before.before in pos c.root.result ≡ gradient a.args.stiffness a.args.depth
entry c = let a = c.before.before.before in ap pos (c.root.ensures ∙ ap root (number c.before)) ∙ sym (gradient-pressed a.args.stiffness a.args.depth (above c.before.before))

pub overflow_cast-result : goal.overflow_cast-result
overflow_cast-result c = rw (entry c) (fits (gradient-size _ _) tt)

pub returns : goal.returns
returns c = to_z-of_z (overflow_cast-result c) ∙ entry c
