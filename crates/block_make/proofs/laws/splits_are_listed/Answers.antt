use Rattle.block_make.proofs.Closing.{split_is}
use Rattle.block_make.proofs.laws.splits_are_listed.Goals as goal

pub returns : goal.returns
returns c = split_is c.splits_are_closed.ensures
