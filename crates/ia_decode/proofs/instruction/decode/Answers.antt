use Rattle.std.proofs.Common.{arith, sym, ◌∙◌}
use Rattle.ia_decode.proofs.PrefixFree.{is_listed, is_found, is_only}
use Rattle.ia_decode.proofs.DecodedInstruction.{decode_take, is_valid, is_short}
use Rattle.ia_decode.proofs.instruction.decode.Goals as goal

pub returns-clause-listed : goal.returns-clause-listed
returns-clause-listed c = is_listed c.args.bytes.now c.decoded.result c.decoded.ensures

pub returns-clause-front : goal.returns-clause-front
returns-clause-front c = is_listed c.args.bytes.now c.decoded.result c.decoded.ensures ∙ sym (decode_take c.args.bytes.now)

pub returns-clause-valid : goal.returns-clause-valid
returns-clause-valid c = is_valid c.args.bytes.now c.decoded.result (λ i. omega (arith, c.type_inv.bytes i)) c.decoded.ensures

pub returns-clause-length : goal.returns-clause-length
returns-clause-length c = is_short c.args.bytes.now c.decoded.result c.decoded.ensures

pub returns-clause-found : goal.returns-clause-found
returns-clause-found c = is_found c.args.bytes.now c.decoded.result (λ i. omega (arith, c.type_inv.bytes i)) c.decoded.ensures

pub returns-clause-only : goal.returns-clause-only
returns-clause-only c = is_only c.args.bytes.now c.decoded.result c.decoded.ensures
