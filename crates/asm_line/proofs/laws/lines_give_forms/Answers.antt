use Rattle.asm_line.proofs.LineForms.{forms_are_valid}
use Rattle.asm_line.proofs.LineSizes.{forms_are_short}
use Rattle.asm_line.proofs.laws.lines_give_forms.Goals as goal

pub returns : goal.returns
returns c = record { valid = forms_are_valid; short = forms_are_short }
