use Rattle.ia_decode.proofs.DecodedInstruction.{decode_length}
use Rattle.ia_decode.proofs.decoded.encoding_length.Goals as goal

pub returns : goal.returns
returns c = λ bytes i n e. decode_length bytes (i, n) e
