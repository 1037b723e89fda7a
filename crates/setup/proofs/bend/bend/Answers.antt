-- `bend` meets its contract: the changed setup is examined.
use Rattle.std.proofs.Common.{◌∙◌, ap}
use Rattle.model.specs.Setup.{setup}
use Rattle.model.specs.Changes.{bend}
use Rattle.setup.proofs.bend.bend.Goals as goal

pub returns : goal.returns
unfolding bend
returns c = c.check_setup.ensures ∙ ap setup c.with_tension.ensures
