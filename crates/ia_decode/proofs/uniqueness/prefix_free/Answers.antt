use Rattle.ia_decode.proofs.PrefixFree.{nothing_more}
use Rattle.ia_decode.proofs.uniqueness.prefix_free.Goals as goal

pub returns : goal.returns
returns c = nothing_more
