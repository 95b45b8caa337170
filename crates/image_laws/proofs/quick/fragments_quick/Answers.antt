use Rattle.image_laws.proofs.Making.{Makes}
use Rattle.image_laws.proofs.QuickPaths.{fragments_quick}
use Rattle.image_laws.proofs.quick.fragments_quick.Goals as goal

pub returns : goal.returns
returns c =
    let laws : Makes = record {
      lengths = record { jcc = c.direct_lengths.ensures.jcc; jmp = c.direct_lengths.ensures.jmp };
      stands = c.code_stands.ensures;
      serve = c.codings_serve.ensures;
      lifted = c.lifted_blocks.ensures;
      keeps = c.ready_keeps.ensures;
      joined = c.items_are_pieces.ensures;
      run = c.pieces_do.ensures;
      suit = c.suits_hold.ensures;
    } in
    fragments_quick laws c.codes_short.ensures.parts
