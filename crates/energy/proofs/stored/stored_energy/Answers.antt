-- The two parts of the energy, each from its sums.
use Rattle.std.specs.Prelude.{◌+ℤ◌}
use Rattle.std.proofs.Common.{◌∙◌, ap₂}
use Rattle.integers.specs.Size.{wide}
use Rattle.laws.specs.EnergySizes.{strings, few-contacts}
use Rattle.energy_sums.specs.Summing.{held_is}
use Rattle.energy.specs.Parts.{energy-parts, string-within, string-size, rest-within, rest-size}
use Rattle.energy.proofs.stored.stored_energy.Goals as goal

pub changes-change-requires : goal.changes-change-requires
changes-change-requires c = strings c.requires

pub rises-tension-requires : goal.rises-tension-requires
rises-tension-requires c = strings c.requires

pub bends-stiffness-requires : goal.bends-stiffness-requires
bends-stiffness-requires c = strings c.requires

pub change_rises-viscous-requires : goal.change_rises-viscous-requires
change_rises-viscous-requires c = strings c.requires

pub contact_sum-contacts-requires : goal.contact_sum-contacts-requires
contact_sum-contacts-requires c = (few-contacts c.requires, c.requires.range.contact)

pub string_energy-string-requires : goal.string_energy-string-requires
string_energy-string-requires c =
    (c.requires.setup, rw (held_is c.changes-change.type_inv c.changes-change.ensures, held_is c.rises-tension.type_inv c.rises-tension.ensures, held_is c.bends-stiffness.type_inv c.bends-stiffness.ensures, held_is c.change_rises-viscous.type_inv c.change_rises-viscous.ensures) (string-within c.requires))

pub rest_energy-rest-requires : goal.rest_energy-rest-requires
rest_energy-rest-requires c = rw (held_is c.contact_sum-contacts.type_inv c.contact_sum-contacts.ensures) (rest-within c.requires)

pub add-requires : goal.add-requires
add-requires c =
    let e = rw (held_is c.changes-change.type_inv c.changes-change.ensures, held_is c.rises-tension.type_inv c.rises-tension.ensures, held_is c.bends-stiffness.type_inv c.bends-stiffness.ensures, held_is c.change_rises-viscous.type_inv c.change_rises-viscous.ensures) at c.string_energy-string.ensures in
    let f = rw (held_is c.contact_sum-contacts.type_inv c.contact_sum-contacts.ensures) at c.rest_energy-rest.ensures in
    (rw e (wide (string-size c.requires) tt), rw f (wide (rest-size c.requires) tt))

pub returns : goal.returns
returns c =
    let e = rw (held_is c.changes-change.type_inv c.changes-change.ensures, held_is c.rises-tension.type_inv c.rises-tension.ensures, held_is c.bends-stiffness.type_inv c.bends-stiffness.ensures, held_is c.change_rises-viscous.type_inv c.change_rises-viscous.ensures) at c.string_energy-string.ensures in
    let f = rw (held_is c.contact_sum-contacts.type_inv c.contact_sum-contacts.ensures) at c.rest_energy-rest.ensures in
    c.add.ensures ∙ ap₂ (λ a b. a +ℤ b) e f ∙ energy-parts c.requires
