-- The rows 7 and 11 are gone through; the strings are judged in the order in which they are lent.
use Rattle.std.proofs.Common.{sym, ◌∙◌, ap}
use Rattle.std.specs.Prelude.{not}
use Rattle.laws.specs.Advance.{same-state}
use Rattle.laws.specs.Call.{lent_with}
use Rattle.laws.specs.Refusals.{reached-top, row-passed-not, row-holds-not}
use Rattle.examination.proofs.arguments.examine_state.Goals as goal

pub returns-then-not-state_ok : goal.returns-then-not-state_ok
returns-then-not-state_ok c turn =
    let x = c.args.state in
    let after-7 = row-passed-not reached-top c.all_hold.ensures (ap not c.if-not-all_hold.false) in
    sym (row-holds-not after-7 (c.state_ok.ensures ∙ same-state (lent_with turn x.finger x.newer.now x.older.now x.contact.now)) (ap not c.if-not-state_ok.true))

pub returns : goal.returns
returns c turn =
    let x = c.args.state in
    let after-7 = row-passed-not reached-top c.all_hold.ensures (ap not c.if-not-all_hold.false) in
    sym (row-passed-not after-7 (c.state_ok.ensures ∙ same-state (lent_with turn x.finger x.newer.now x.older.now x.contact.now)) (ap not c.if-not-state_ok.false)).number
