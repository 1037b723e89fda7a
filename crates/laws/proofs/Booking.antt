-- 02, item 6: the rounding work of an accepted step, which rests on the balance of a step.
use Rattle.std.specs.Prelude.{◌≡◌, ◌+ℤ◌, ◌-ℤ◌}
use Rattle.std.proofs.Math.Path.{sym, ap}
use Rattle.std.proofs.Common.{◌∙◌}
use Prim.Native.Nat.{◌^◌}
use Rattle.integers.specs.Solve.{◌⊕◌, ◌⊖◌, ◌≐◌, solve}
use Rattle.integers.specs.Size.{◌within◌, ◌⟨+⟩◌, ◌⟨-⟩◌, wide}
use Rattle.model.specs.State.{State, Neck, Forces}
use Rattle.model.specs.Step.{worked_step}
use Rattle.model.specs.Energy.{stored_energy, work, loss, rounding_work}
use Rattle.model.specs.declared.Setup.{Setup}
use Rattle.laws.specs.Accepted.{StepFacts}
use Rattle.laws.proofs.Run.{step-balance}
use Rattle.laws.specs.EnergySizes.{Held, energy-size}
use Rattle.laws.specs.Booking.{loss-size, work-size}

module _ {s : Setup} {neck : Neck} {x : State} {F : Forces} {y : State} (h : StepFacts s neck x F y) where
  -- the rounding work is what the others leave: code needs no residuals for it
  pub rounding-left : let t = worked_step s neck x F in rounding_work t ≡ stored_energy s y -ℤ stored_energy s x -ℤ work t +ℤ loss t
  rounding-left =
      let t = worked_step s neck x F in
      solve 4 (λ e w l r. r ≐ e ⊕ w ⊖ l ⊕ r ⊖ e ⊖ w ⊕ l) tt (stored_energy s x) (work t) (loss t) (rounding_work t)
      ∙ ap (λ z. z -ℤ stored_energy s x -ℤ work t +ℤ loss t) (sym (step-balance h))

  module _ (before : Held s x) (after : Held s y) where
    pub rounding-size : rounding_work (worked_step s neck x F) within 2 ^ 67
    rounding-size = rw rounding-left (wide (energy-size after ⟨-⟩ energy-size before ⟨-⟩ work-size h before after ⟨+⟩ loss-size h before after) tt)
