-- Where no contact variable is other than 0, the sum is 0.
use Rattle.std.proofs.Common.{sym, refl}
use Rattle.model.specs.Ranges.{contact_ok}
use Rattle.laws.specs.Sizes.{bounded}
use Rattle.energy_sums.specs.Contacts.{all-zero, zero-sum}
use Rattle.energy_sums.proofs.contacts.contact_sum.Goals as goal

pub returns-then-all_zero : goal.returns-then-all_zero
returns-then-all_zero c = let ψ = c.args.contact.now in sym (zero-sum ψ c.requires.0 (all-zero ψ c.all_zero.ensures c.if-all_zero.true))

pub squares-requires : goal.squares-requires
unfolding contact_ok
squares-requires c = (tt, refl, c.requires.0, bounded 67108864 c.args.contact.now c.requires.1)
