use Rattle.ia_decode.proofs.DecodedInstruction.{decode_front}
use Rattle.ia_decode.proofs.decoded.encoding_decides.Goals as goal

pub returns : goal.returns
returns c = λ bytes rest i n e. decode_front bytes (i, n) e rest
