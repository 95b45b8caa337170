use Rattle.ia_decode.proofs.PrefixFree.{no_other}
use Rattle.ia_decode.proofs.uniqueness.one_spelling.Goals as goal

pub returns : goal.returns
returns c = no_other
