use Rattle.image_laws.proofs.Places.{JumpLengths}
use Rattle.image_laws.proofs.Making.{Makes, fragments_made}
use Rattle.image_laws.proofs.made.fragments_made.Goals as goal

pub returns : goal.returns
returns c =
    let lengths : JumpLengths = record { jcc = c.direct_lengths.ensures.jcc; jmp = c.direct_lengths.ensures.jmp } in
    let laws : Makes = record {
      lengths = lengths;
      stands = c.code_stands.ensures;
      serve = c.codings_serve.ensures;
      lifted = c.lifted_blocks.ensures;
      keeps = c.ready_keeps.ensures;
      joined = c.items_are_pieces.ensures;
      run = c.pieces_do.ensures;
      suit = c.suits_hold.ensures;
    } in
    fragments_made laws
