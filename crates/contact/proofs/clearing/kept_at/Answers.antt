-- `kept_at` meets its contract: each list at the point.
use mathlib.Core.Path.{◌≡◌, refl, sym, ◌∙◌, ap}
use mathlib.Core.List.{List}
use Prim.Native.Nat.{ℕ, suc}
use borrow.Author.Rules.{rules}
use lib.IntN.{ℤ, pos, ◌-ℤ◌}
use lib.ListN.{length, get_or}
use mir.Syntax.{w32}
use mir.Val.{SFits}
use mir.Facts.{to_z-of_z}
use Rattle.model.specs.Differences.{at}
use Rattle.model.specs.Step.{kept}
use Rattle.laws.specs.Strings.{at-zip}
use Rattle.contact.specs.Contacts.{kept_contacts}
use Rattle.contact.specs.Pressed.{depths-span, depth-at}
use Rattle.contact.proofs.clearing.kept_at.Goals as goal
use Rattle.contact.proofs.clearing.kept_at.Goals.{After-contact_kept}

kept_is : (h u ψ : List ℤ) (i : ℕ) → length h ≡ length u → length ψ ≡ length u → at (kept_contacts h u ψ) (suc i) ≡ kept (get_or h i (pos 0) -ℤ get_or u i (pos 0)) (get_or ψ i (pos 0))
unfolding kept
kept_is h u ψ i e k = at-zip kept refl (depths-span h u e) (record { long = k }) (suc i) ∙ ap (λ d. kept d (get_or ψ i (pos 0))) (depth-at h u e i)

-- the numbers at the point fit
numbers-fit : (c : After-contact_kept) → SFits w32 (get_or c.args.heights.now c.args.i (pos 0)) × SFits w32 (get_or c.args.state.newer.now c.args.i (pos 0)) × SFits w32 (get_or c.args.state.contact.now c.args.i (pos 0))
numbers-fit c = search rules

pub returns : goal.returns
returns c =
    let fit = numbers-fit c in
    to_z-of_z {w = w32} (record { sfits = c.contact_kept.type_inv })
    ∙ (rw (to_z-of_z fit.0, to_z-of_z fit.1, to_z-of_z fit.2) at c.contact_kept.ensures)
    ∙ sym (kept_is c.args.heights.now c.args.state.newer.now c.args.state.contact.now c.args.i c.requires.0 c.requires.1)
