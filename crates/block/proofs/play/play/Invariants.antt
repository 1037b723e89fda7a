-- The loop's invariant: what is left of the block comes to what the whole comes to, over the buffers that were lent.
use Rattle.std.specs.Prelude.{◌≡◌, List, ℕ, ◌-◌, ◌/◌, ◌≤◌, ℤ, Float, length}
use Rattle.model.specs.Block as Blocks
use Rattle.model.specs.Block.{pairs}
use Rattle.model.specs.Lending.{the_neck, the_lent, SameBuffers}
use Rattle.model.specs.State.{Lent, state_of, Neck}
use Rattle.model.specs.declared.Setup.{Setup}
use Rattle.laws.specs.Playing.{resumed}
use Rattle.laws.specs.Ready.{Ready}
use Rattle.block.proofs.play.play.Given as goal

-- n steps are made: v is what they left, and the samples hold their frames
pub record Playing (s : Setup) (neck : Neck) (forces : List ℤ) (v₀ : Lent) (samples₀ : List Float) (v : Lent) (samples : List Float) (n : ℕ) : Type 0 where
  pub most : n ≤ length forces / 2
  pub ready : Ready s neck (state_of v)
  pub room : length forces ≤ length samples
  pub rest : resumed s neck forces v samples n ≡ Blocks.play s neck v₀ (pairs forces) samples₀

abbrev pub invariant-loop-count : goal.invariant-loop-count
invariant-loop-count l = record {
  same : SameBuffers l.initial.lent l.lent;
  playing : Playing l.setup (the_neck l.neck) l.forces (the_lent l.initial.lent) l.initial.samples (the_lent l.lent) l.samples l.count;
}

abbrev pub decreases-loop-count : goal.decreases-loop-count
decreases-loop-count l = length l.forces / 2 - l.count
