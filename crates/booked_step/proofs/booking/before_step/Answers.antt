-- The parts of what is kept are worked out of a ready voice's state.
use Rattle.std.proofs.Common.{◌≡◌, ◌≤◌, sym, ◌∙◌, arith, length, rules, to_z, of_z}
use Rattle.std.specs.Int.{w32, w64}
use Rattle.model.specs.Lending.{the_neck, the_state}
use Rattle.model.specs.State.{State, Neck}
use Rattle.model.specs.declared.Setup.{Setup}
use Rattle.laws.specs.Accepted.{setup-facts}
use Rattle.laws.specs.Booking.{ready_held, ready-examined}
use Rattle.laws.specs.EnergySizes.{few-contacts, finger-within}
use Rattle.laws.specs.Ready.{Ready}
use Rattle.energy.specs.Parts.{released_is}
use Rattle.booked_step.proofs.booking.before_step.Goals as goal

few : {s : Setup} {neck : Neck} {x : State} → Ready s neck x → length x.older ≤ 127
few ready = let h = ready_held ready in let f = setup-facts _ h.setup in let n = f.segments in let e = h.older-length in omega arith

pub stored_energy-requires : goal.stored_energy-requires
stored_energy-requires c = ready_held c.requires

pub released_energy-requires : goal.released_energy-requires
released_energy-requires c =
    let h = ready_held c.requires in
    let q = ready-examined c.requires in
    (h.setup, record { heights-length = q.heights.long ∙ sym h.contact-length; newer-length = h.newer-length ∙ sym h.contact-length; most = few-contacts h; range = h.range.contact }, h.newer-length, finger-within h)

pub copy_of-requires : goal.copy_of-requires
copy_of-requires c = few c.requires

pub returns : goal.returns
returns c =
    let released : to_z w64 (of_z w64 c.released_energy.result) ≡ c.released_energy.result = search rules in
    let height : to_z w32 (of_z w32 c.args.state.finger.older) ≡ c.args.state.finger.older = search rules in
    let released_is = released ∙ c.released_energy.ensures ∙ released_is c.args.setup (the_neck c.args.neck) (the_state c.args.state) in
    (c.copy_of.ensures.0, λ i. record { stored = c.stored_energy.ensures i; released = released_is i; older = c.copy_of.ensures.1 i; height = height i })
