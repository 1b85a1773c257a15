-- What is read and put is what the definition says.
use Rattle.mapedit.specs.Passes.{linked_before}
use Rattle.mapedit.proofs.link_road.Goals as goal

pub returns : goal.returns
unfolding linked_before
returns c = cc
