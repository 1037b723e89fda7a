-- `frame` meets its contract.
use mathlib.Core.Path.{◌∙◌, ap}
use lib.Ieee.{binary32}
use mir.Facts.{to_z-of_z}
use Rattle.model.specs.Fraction.{fraction}
use Rattle.samples.proofs.frame.frame.Goals as goal

pub returns : goal.returns
returns c =
    let s = c.before.before in
    let bridge = c.single.ensures.0 ∙ ap (fraction binary32) (to_z-of_z s.ranges.bridge) in
    let neck = c.single-2.ensures.0 ∙ ap (fraction binary32) (to_z-of_z s.ranges.neck) in
    cc

pub single-requires : goal.single-requires
single-requires c = rw (to_z-of_z c.ranges.bridge) c.requires.0

pub single-requires-2 : goal.single-requires-2
single-requires-2 c = rw (to_z-of_z c.ranges.neck) c.requires.1
