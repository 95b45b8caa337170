use Rattle.asm_inst.proofs.AsciiTexts.{texts_are_ascii}
use Rattle.asm_inst.proofs.laws.texts_are_ascii.Goals as goal

pub returns : goal.returns
returns c = texts_are_ascii
