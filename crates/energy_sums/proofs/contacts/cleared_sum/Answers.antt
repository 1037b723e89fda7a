-- Where no contact variable is other than 0, none is cleared to another number.
use Rattle.std.proofs.Common.{sym}
use Rattle.energy_sums.specs.Contacts.{cleared_contacts, all-zero, zero-sum, few-cleared, zero-cleared, spans-cleared, cleared-within}
use Rattle.energy_sums.proofs.contacts.cleared_sum.Goals as goal

pub returns-then-all_zero : goal.returns-then-all_zero
returns-then-all_zero c =
    let h = c.requires in
    let ψ = cleared_contacts c.args.heights.now c.args.newer.now c.args.contact.now in
    sym (zero-sum ψ (few-cleared h) (zero-cleared h (all-zero c.args.contact.now c.all_zero.ensures c.if-all_zero.true)))

pub squares-requires : goal.squares-requires
squares-requires c = let h = c.requires in (h, (spans-cleared h).long, h.most, cleared-within h)
