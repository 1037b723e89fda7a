-- A neck written to the end is the one that the plan lays.
use Rattle.std.proofs.Common.{ap₂}
use Rattle.integers.proofs.Filled.{filled-all}
use Rattle.model.specs.Neck.{laid}
use Rattle.neck.proofs.laying.write_neck.Goals as goal

pub returns : goal.returns
unfolding laid
returns c =
    ap₂ (λ h k. record { heights = h; stiffness = k }) (filled-all c.loop-i-test.false c.loop-i.invariant.0) (filled-all c.loop-i-test.false c.loop-i.invariant.1)
