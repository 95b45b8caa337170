use Rattle.image_laws.proofs.LiftedBlocks.{Lifts, lifted_blocks}
use Rattle.image_laws.proofs.serves.lifted_blocks.Goals as goal

pub returns : goal.returns
returns c =
    let laws : Lifts = record {
      one = c.one_block.ensures;
      long = c.encoding_length.ensures;
      valid = c.read_is_valid.ensures;
      whole = c.lines_mean.ensures.checked;
      few = c.lines_mean.ensures.few;
      words = c.lines_mean.ensures.words;
    } in
    lifted_blocks laws
