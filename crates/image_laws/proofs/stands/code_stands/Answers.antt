use Rattle.image_laws.proofs.Places.{JumpLengths}
use Rattle.image_laws.proofs.Standing.{code_stands}
use Rattle.image_laws.proofs.stands.code_stands.Goals as goal

pub returns : goal.returns
returns c =
    let lengths : JumpLengths = record { jcc = c.direct_lengths.ensures.jcc; jmp = c.direct_lengths.ensures.jmp } in
    code_stands lengths c.code_valid.ensures
