use Rattle.ia_decode.proofs.PrefixFree.{same_instruction}
use Rattle.ia_decode.proofs.uniqueness.one_instruction.Goals as goal

pub returns : goal.returns
returns c = same_instruction
