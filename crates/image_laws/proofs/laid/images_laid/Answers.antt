use Rattle.image_laws.proofs.NativeCode.{Decodes}
use Rattle.image_laws.proofs.Laying.{images_laid}
use Rattle.image_laws.proofs.laid.images_laid.Goals as goal

pub returns : goal.returns
returns c =
    let laws : Decodes = record {
      lengths = record { jcc = c.direct_lengths.ensures.jcc; jmp = c.direct_lengths.ensures.jmp };
      one = c.one_block.ensures;
      decides = c.encoding_decides.ensures;
      long = c.encoding_length.ensures;
    } in
    images_laid laws c.read_back.ensures c.sets_are_narrow.ensures.rows c.sets_are_narrow.ensures.closed
