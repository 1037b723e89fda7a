-- What is let go of the contact variable at each point.
use Rattle.std.proofs.Common.{◌∙◌, ap₂, sym, rules, arith, pos, ◌-ℤ◌, get_or, suc, w32, SFits, to_z-of_z}
use Rattle.model.specs.Step.{let_go}
use Rattle.energy_sums.specs.Contacts.{spans-cleared, at-cleared}
use Rattle.energy_sums.proofs.contacts.ClearedLine.number.Goals as goal

pub bounds-self-i : goal.bounds-self-i
bounds-self-i c = let h = c.requires.0 in let l = h.heights-length in let e = (spans-cleared h).long in omega (arith, c.requires.1)

pub bounds-self-i-2 : goal.bounds-self-i-2
bounds-self-i-2 c = let h = c.requires.0 in let l = h.newer-length in let e = (spans-cleared h).long in omega (arith, c.requires.1)

pub bounds-self-i-3 : goal.bounds-self-i-3
bounds-self-i-3 c = let e = (spans-cleared c.requires.0).long in omega (arith, c.requires.1)

pub offset_bounds-self-i : goal.offset_bounds-self-i
offset_bounds-self-i c = let h = c.requires.0 in let m = h.most in let e = (spans-cleared h).long in omega (arith, c.requires.1)

pub offset_bounds-self-i-2 : goal.offset_bounds-self-i-2
offset_bounds-self-i-2 c = let h = c.requires.0 in let m = h.most in let e = (spans-cleared h).long in omega (arith, c.requires.1)

pub offset_bounds-self-i-3 : goal.offset_bounds-self-i-3
offset_bounds-self-i-3 c = let h = c.requires.0 in let m = h.most in let e = (spans-cleared h).long in omega (arith, c.requires.1)

pub returns : goal.returns
returns c =
    let x = c.args.self.now in
    let i = c.args.i in
    let f : SFits w32 (get_or x.heights.now i (pos 0)) = search rules in
    let g : SFits w32 (get_or x.newer.now i (pos 0)) = search rules in
    let h : SFits w32 (get_or x.contact.now i (pos 0)) = search rules in
    to_z-of_z {w = w32} (record { sfits = c.let_go.type_inv }) ∙ c.let_go.ensures
    ∙ ap₂ let_go (ap₂ (λ x y. x -ℤ y) (to_z-of_z f) (to_z-of_z g)) (to_z-of_z h) ∙ sym (at-cleared c.requires.0 (suc i))
