use Rattle.image_laws.proofs.NativeCode.{Decodes}
use Rattle.image_laws.proofs.Exchanging.{Exchanging, states_exchanged}
use Rattle.image_laws.proofs.exchanged.states_exchanged.Goals as goal

pub returns : goal.returns
returns c =
    let decodes : Decodes = record {
      lengths = record { jcc = c.direct_lengths.ensures.jcc; jmp = c.direct_lengths.ensures.jmp };
      one = c.one_block.ensures;
      decides = c.encoding_decides.ensures;
      long = c.encoding_length.ensures;
    } in
    let laws : Exchanging = record {
      decodes = decodes;
      valid = c.code_valid.ensures;
      stand = c.items_stand.ensures;
      opening = c.opens_joined.ensures;
      closing = c.captures_joined.ensures.closes;
      entering = c.captures_joined.ensures.enters;
      jumps = c.jumps_lead.ensures;
    } in
    states_exchanged laws
