-- The row 11 of a step and a block, as facts on each part of the state, and back.
use Rattle.std.specs.Prelude.{◌&&◌, List, [], ◌∷◌, ◌++◌, T, ℤ}
use Rattle.std.proofs.Math.Facts.{and_yes, yes_and, T_not-not}
use Rattle.model.specs.Ranges.{all, displacement_ok, contact_ok}
use Rattle.model.specs.State.{State}
use Rattle.model.specs.Step.{state_rule}
use Rattle.promises.specs.Promises.{Passed}
use Rattle.laws.specs.Refusals.{not-not, all_append, append-all}

pub record InRange (x : State) : Type 0 where
  pub newer : T (all displacement_ok x.newer)
  pub older : T (all displacement_ok x.older)
  pub height : T (displacement_ok x.finger.newer)
  pub older-height : T (displacement_ok x.finger.older)
  pub contact : T (all contact_ok x.contact)
  pub finger : T (contact_ok x.finger.contact)

module _ (x : State) where
  abbrev strings : List ℤ
  strings = x.newer ++ x.older

  abbrev displacements : List ℤ
  displacements = x.finger.newer ∷ x.finger.older ∷ strings

  abbrev contacts : List ℤ
  contacts = x.finger.contact ∷ x.contact

  pub in-range : Passed (state_rule x ∷ []) → InRange x
  in-range h =
      let both = and_yes (all displacement_ok displacements) (all contact_ok contacts) (T_not-not (all displacement_ok displacements && all contact_ok contacts) h.0) in
      let w = and_yes (displacement_ok x.finger.newer) (all displacement_ok (x.finger.older ∷ strings)) both.0 in
      let w' = and_yes (displacement_ok x.finger.older) (all displacement_ok strings) w.1 in
      let u = all_append displacement_ok x.newer x.older w'.1 in
      let φ = and_yes (contact_ok x.finger.contact) (all contact_ok x.contact) both.1 in
      record { newer = u.0; older = u.1; height = w.0; older-height = w'.0; contact = φ.1; finger = φ.0 }

  pub passed-range : InRange x → Passed (state_rule x ∷ [])
  passed-range r = (
    not-not (all displacement_ok displacements && all contact_ok contacts)
        (yes_and (all displacement_ok displacements) (all contact_ok contacts)
        (yes_and (displacement_ok x.finger.newer) (all displacement_ok (x.finger.older ∷ strings)) r.height
        (yes_and (displacement_ok x.finger.older) (all displacement_ok strings) r.older-height (append-all displacement_ok x.newer x.older r.newer r.older)))
        (yes_and (contact_ok x.finger.contact) (all contact_ok x.contact) r.finger r.contact)),
    tt,
  )
