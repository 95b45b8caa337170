use Rattle.asm_text.proofs.Found.{assembled_well}
use Rattle.asm_text.proofs.laws.asm_law.Goals as goal

pub returns : goal.returns
returns c = assembled_well c.lines_give_forms.ensures.valid c.lines_give_forms.ensures.short c.forms_give_bytes.ensures.sized c.forms_give_bytes.ensures.bytes c.transfers_are_valid.ensures c.round_trip.ensures c.encoding_length.ensures c.flat_accepted.ensures
