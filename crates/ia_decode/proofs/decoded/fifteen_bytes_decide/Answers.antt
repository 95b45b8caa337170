use Rattle.ia_decode.proofs.DecodedInstruction.{decode_take}
use Rattle.ia_decode.proofs.decoded.fifteen_bytes_decide.Goals as goal

pub returns : goal.returns
returns c = decode_take
