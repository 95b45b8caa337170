use Rattle.image_laws.proofs.EachMade.{items_valid}
use Rattle.image_laws.proofs.valid.items_valid.Goals as goal

pub returns : goal.returns
returns c = items_valid c.lifted_blocks.ensures c.ready_keeps.ensures c.fragments_valid.ensures
