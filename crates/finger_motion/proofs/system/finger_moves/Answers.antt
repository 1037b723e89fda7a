-- `finger_moves` meets its contract.
use mathlib.Core.Path.{◌≡◌, sym, subst, ◌∙◌, ap}
use mathlib.Core.List.{List, [], ◌∷◌}
use Prim.Native.Nat.{ℕ, ◌^◌}
use lib.IntN.{ℤ, pos, neg_ℤ, +ℤ_idl, ◌*ℤ◌}
use lib.Dec.{T}
use lib.Signed.{◌<ℤ◌}
use borrow.Author.Rules.{rules}
use mir.Syntax.{w32, w64}
use mir.Val.{SFits}
use mir.Facts.{to_z-of_z}
use Rattle.integers.specs.Size.{◌within◌, natural, wide}
use Rattle.integers.specs.Machine.{Code, var, nat, ♯◌, ◌⊞◌, ◌⊟◌, ◌⊠◌, cast, done, Within, ∅, ◌▹◌, held, result, held-within, fits}
use Rattle.model.specs.System.{System, det}
use Rattle.model.specs.Step.{finger_system}
use Rattle.model.specs.Ranges.{displacement_ok, contact_ok, force_ok}
use Rattle.model.specs.declared.Setup.{Setup}
use Rattle.model.specs.declared.Finger.{Finger}
use Rattle.promises.specs.Promises.{Passed}
use Rattle.model.specs.Setup.{setup_rules}
use Rattle.motion.specs.MoveRanges.{FingerRanges}
use Rattle.laws.specs.Accepted.{SetupFacts, setup-facts}
use Rattle.laws.specs.Moves.{regular-system}
use Rattle.laws.specs.Sizes.{inside-within}
use Rattle.rounding.specs.Same.{same-system}
use Rattle.rounding.specs.Systems.{rounded, Solvable}
use Rattle.finger_motion.proofs.system.finger_moves.Goals as goal
use Rattle.finger_motion.proofs.system.finger_moves.Goals.{After-struct_told-4-1}

-- factor, right side, gradient, mass, the finger's heights and contact variable, force
abbrev sizes : List ℕ
sizes = 73217 ∷ 2 ^ 37 ∷ 255 ∷ 1048576 ∷ 1048576 ∷ 1048576 ∷ 67108864 ∷ 1073741824 ∷ []

abbrev square : Code
square = var 2 ⊠ var 2

abbrev pull : Code
pull = ♯ 2 ⊠ var 2 ⊠ cast w32 (var 6)

abbrev change : Code
change = cast w32 (var 4) ⊟ cast w32 (var 5)

abbrev c₁₁ : Code
c₁₁ = var 0 ⊞ done square

abbrev c₁₂ : Code
c₁₂ = ♯ 0 ⊟ done square

abbrev c₂₂ : Code
c₂₂ = nat 3 ⊞ done square

abbrev c₁ : Code
c₁ = var 1 ⊟ done pull

abbrev c₂ : Code
c₂ = ♯ 2 ⊠ nat 3 ⊠ done change ⊞ cast w32 (var 7) ⊞ done pull

module _ (s : Setup) (force : ℤ) {finger : Finger} {factor side gradient : ℤ}
    (given : Passed (setup_rules s) × FingerRanges finger × (pos 0 <ℤ factor) × (factor within 73217) × (side within 2 ^ 37) × (gradient within 255) × T (force_ok force))
  where
    abbrev numbers : List ℤ
    numbers = factor ∷ side ∷ gradient ∷ pos s.finger.mass ∷ finger.newer ∷ finger.older ∷ finger.contact ∷ force ∷ []

    facts : SetupFacts s
    facts = setup-facts s given.0

    ρ : Within numbers sizes
    unfolding displacement_ok contact_ok force_ok
    ρ =
        let k = given in
        k.3 ▹ k.4 ▹ k.5 ▹ natural facts.mass
        ▹ inside-within 1048576 finger.newer k.1.newer ▹ inside-within 1048576 finger.older k.1.older ▹ inside-within 67108864 finger.contact k.1.contact
        ▹ inside-within 1073741824 force k.6 ▹ ∅

    -- the system as the code has it
    abbrev passed : System
    passed = let h = held numbers w64 in record { a₁₁ = h c₁₁; a₁₂ = h c₁₂; a₂₁ = h c₁₂; a₂₂ = h c₂₂; b₁ = h c₁; b₂ = h c₂ }

    minus-square : held numbers w64 c₁₂ ≡ neg_ℤ (gradient *ℤ gradient)
    minus-square = result ρ w64 c₁₂ tt ∙ +ℤ_idl _

    same : passed ≡ finger_system s finger factor side gradient force
    same = same-system (result ρ w64 c₁₁ tt) minus-square minus-square (result ρ w64 c₂₂ tt) (result ρ w64 c₁ tt) (result ρ w64 c₂ tt)

    solvable : Solvable passed
    solvable = record {
      regular = subst (λ (t : System). pos 0 <ℤ det t) (sym same) (regular-system s finger side gradient force given.2 facts.mass-low);
      sizes =
          let b₁ : held numbers w64 c₁ within 2 ^ 38 = wide (held-within ρ w64 c₁ tt) tt in
          let b₂ : held numbers w64 c₂ within 2 ^ 43 = wide (held-within ρ w64 c₂ tt) tt in
          held-within ρ w64 c₁₁ tt ▹ held-within ρ w64 c₁₂ tt ▹ held-within ρ w64 c₁₂ tt ▹ held-within ρ w64 c₂₂ tt ▹ b₁ ▹ b₂ ▹ ∅;
    }

parts-fit : (c : After-struct_told-4-1) → SFits w64 c.solve-solution.result.x × SFits w64 c.solve-solution.result.y
parts-fit c = search rules

pub returns : goal.returns
returns c =
    let solved = c.solve-solution.ensures ∙ ap rounded (same c.args.setup c.args.force c.requires) in
    let fit = parts-fit c in
    λ i. record { delta = (to_z-of_z fit.0 ∙ ap (λ q. q.x) solved) i; finger_delta = (to_z-of_z fit.1 ∙ ap (λ q. q.y) solved) i }

pub solve-solution-requires : goal.solve-solution-requires
solve-solution-requires c = solvable c.args.setup c.args.force c.requires

pub overflow_mul-pull-2 : goal.overflow_mul-pull-2
overflow_mul-pull-2 c = fits (ρ c.args.setup c.args.force c.requires) w64 pull tt

pub overflow_add-system : goal.overflow_add-system
overflow_add-system c = fits (ρ c.args.setup c.args.force c.requires) w64 c₁₁ tt

pub overflow_sub-system : goal.overflow_sub-system
overflow_sub-system c = fits (ρ c.args.setup c.args.force c.requires) w64 c₁₂ tt

pub overflow_sub-system-2 : goal.overflow_sub-system-2
overflow_sub-system-2 c = fits (ρ c.args.setup c.args.force c.requires) w64 c₁₂ tt

pub overflow_sub-system-3 : goal.overflow_sub-system-3
overflow_sub-system-3 c = fits (ρ c.args.setup c.args.force c.requires) w64 c₁ tt

pub overflow_mul-system-2 : goal.overflow_mul-system-2
overflow_mul-system-2 c = fits (ρ c.args.setup c.args.force c.requires) w64 (♯ 2 ⊠ nat 3 ⊠ done change) tt

pub overflow_add-system-3 : goal.overflow_add-system-3
overflow_add-system-3 c = fits (ρ c.args.setup c.args.force c.requires) w64 (♯ 2 ⊠ nat 3 ⊠ done change ⊞ cast w32 (var 7)) tt

pub overflow_add-system-4 : goal.overflow_add-system-4
overflow_add-system-4 c = fits (ρ c.args.setup c.args.force c.requires) w64 c₂ tt
