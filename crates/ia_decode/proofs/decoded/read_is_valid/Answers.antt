use Rattle.ia_decode.proofs.DecodedInstruction.{bytes_each, decode_valid}
use Rattle.ia_decode.proofs.decoded.read_is_valid.Goals as goal

pub returns : goal.returns
returns c = λ bytes i n all e. decode_valid bytes (i, n) (bytes_each bytes all) e
