-- `root` meets its contract: eight bits, each half of what the one before left open, find the root.
use Rattle.contact.specs.Halving.{root-found}
use Rattle.contact.proofs.root.root.Goals as goal

pub returns : goal.returns
returns c = root-found c.requires c.with_bit.ensures
