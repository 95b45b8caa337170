use Rattle.block_cut.proofs.Follows.{follows_above}
use Rattle.block_cut.proofs.block_law.following_above.Goals as goal

pub returns : goal.returns
returns c = follows_above c.encoding_length.ensures
