-- `finger_contact` meets its contract.
use mathlib.Core.Path.{◌≡◌, sym, ◌∙◌, ap, ap₂}
use mathlib.Core.List.{List, [], ◌∷◌}
use Prim.Native.Nat.{suc, ◌-◌, ◌<◌}
use native.Mathlib.Omega.{arith}
use borrow.Author.Rules.{rules}
use lib.IntN.{ℤ, pos, ◌-ℤ◌}
use lib.Dec.{T}
use lib.ListN.{length, get_or}
use mir.Syntax.{w32, w64}
use mir.Val.{SFits}
use mir.Facts.{to_z-of_z}
use Rattle.integers.specs.Machine.{Code, var, ◌⊟◌, Within, ∅, ◌▹◌, fits, result}
use Rattle.model.specs.Differences.{at}
use Rattle.model.specs.Gradient.{gradient}
use Rattle.model.specs.Ranges.{all, displacement_ok}
use Rattle.model.specs.Setup.{K, p, points, setup_rules}
use Rattle.model.specs.Step.{kept}
use Rattle.model.specs.declared.Finger.{Finger}
use Rattle.model.specs.declared.Setup.{Setup}
use Rattle.promises.specs.Promises.{Passed}
use Rattle.laws.specs.Accepted.{SetupFacts, setup-facts}
use Rattle.laws.specs.Sizes.{bounded, inside-within}
use Rattle.laws.specs.Strings.{at-index}
use Rattle.contact.proofs.finger.finger_contact.Goals as goal
use Rattle.contact.proofs.finger.finger_contact.Goals.{After-contact_kept-variable}

abbrev depth : Code
depth = var 0 ⊟ var 1

module _ (s : Setup) (u : List ℤ) (finger : Finger) (given : Passed (setup_rules s) × (length u ≡ points s) × T (all displacement_ok u) × T (displacement_ok finger.newer)) where
  facts : SetupFacts s
  facts = setup-facts s given.0

  in-string : p s - 1 < length u
  in-string = omega (arith, facts.first, facts.last, given.1)

  -- the string at the finger's place
  abbrev own : ℤ
  own = get_or u (p s - 1) (pos 0)

  ρ : Within (own ∷ finger.newer ∷ []) (1048576 ∷ 1048576 ∷ [])
  unfolding displacement_ok
  ρ = bounded 1048576 u given.2 (suc (p s - 1)) ▹ inside-within 1048576 finger.newer given.3 ▹ ∅

  depth_is : own -ℤ finger.newer ≡ at u (p s) -ℤ finger.newer
  depth_is = ap (λ z. z -ℤ finger.newer) (sym (at-index u (p s) facts.first))

contact-fits : (a : After-contact_kept-variable) → SFits w32 a.args.state.finger.contact
contact-fits a = search rules

pub returns : goal.returns
returns c =
    let s = c.args.setup in
    let x = c.args.state in
    let sizes = ρ s x.newer.now x.finger c.requires in
    let deep = depth_is s x.newer.now x.finger c.requires in
    ap₂ (λ (g v : ℤ). record { gradient = g; variable = v })
    (to_z-of_z {w = w64} (record { sfits = c.gradient-gradient.type_inv }) ∙ c.gradient-gradient.ensures ∙ ap (gradient (K s)) (result sizes w32 depth tt ∙ deep))
    (to_z-of_z {w = w32} (record { sfits = c.contact_kept-variable.type_inv }) ∙ c.contact_kept-variable.ensures
    ∙ ap₂ kept (ap₂ ◌-ℤ◌ (result sizes w32 (var 0) tt) (result sizes w32 (var 1) tt) ∙ deep) (to_z-of_z {w = w32} (contact-fits c)))

pub overflow_sub-own : goal.overflow_sub-own
overflow_sub-own c = (facts c.args.setup c.args.state.newer.now c.args.state.finger c.requires).first

pub bounds-state-place : goal.bounds-state-place
bounds-state-place c = in-string c.args.setup c.args.state.newer.now c.args.state.finger c.requires

pub overflow_sub-own-2 : goal.overflow_sub-own-2
overflow_sub-own-2 c = fits (ρ c.args.setup c.args.state.newer.now c.args.state.finger c.requires) w32 depth tt
