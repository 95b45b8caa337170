use Rattle.asm_line.proofs.CodeBytes.{forms_give_bytes}
use Rattle.asm_line.proofs.LineSizes.{forms_are_sized}
use Rattle.asm_line.proofs.laws.forms_give_bytes.Goals as goal

pub returns : goal.returns
returns c = record { sized = forms_are_sized; bytes = forms_give_bytes }
