-- `next_finger` meets its contract: numbers that have been judged keep their value in 32 bits.
use mir.Syntax.{w32, w64}
use mir.Val.{SFits}
use mir.Facts.{to_z-of_z}
use Rattle.integers.specs.Bits.{narrow-fits, narrow_is}
use Rattle.integers.specs.Size.{fits}
use Rattle.model.specs.Ranges.{displacement_ok, contact_ok}
use Rattle.laws.specs.Sizes.{inside-within}
use Rattle.finger_motion.proofs.next.next_finger.Goals as goal
use Rattle.finger_motion.proofs.next.next_finger.Goals.{Start}

module _ (c : Start) where
  height-fits : SFits w32 c.args.next.height
  unfolding displacement_ok
  height-fits = fits (inside-within 1048576 c.args.next.height c.requires.0) tt

  contact-fits : SFits w32 c.args.next.contact
  unfolding contact_ok
  contact-fits = fits (inside-within 67108864 c.args.next.contact c.requires.1) tt

pub returns : goal.returns
returns c = let k = c.before.before.before.before in λ i. record { newer = narrow_is w64 tt (height-fits k) i; older = to_z-of_z k.ranges.newer i; contact = narrow_is w64 tt (contact-fits k) i }

pub overflow_cast-result : goal.overflow_cast-result
overflow_cast-result c = narrow-fits w64 tt (height-fits c.before.before.before)

pub overflow_cast-result-2 : goal.overflow_cast-result-2
overflow_cast-result-2 c = narrow-fits w64 tt (contact-fits c.before.before.before.before)
