use Rattle.block_cut.proofs.Unique.{has_one_block}
use Rattle.block_cut.proofs.block_law.one_block.Goals as goal

pub returns : goal.returns
returns c = has_one_block
