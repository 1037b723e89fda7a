-- `slide` meets its contract: the changed setup is examined.
use Rattle.model.specs.Changes.{slide}
use Rattle.setup.proofs.slide.slide.Goals as goal

pub returns : goal.returns
unfolding slide
returns c = c.check_setup.ensures
