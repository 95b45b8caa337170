use Rattle.block_make.proofs.Closing.{splits_closed}
use Rattle.block_make.proofs.laws.splits_are_closed.Goals as goal

pub returns : goal.returns
returns c = splits_closed c.split_serves.ensures.serves c.split_serves.ensures.listed
