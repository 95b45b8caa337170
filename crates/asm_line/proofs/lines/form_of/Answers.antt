use Rattle.asm_line.proofs.LineForms.{read_valid}
use Rattle.asm_line.proofs.lines.form_of.Goals as goal

pub returns-clause-valid : goal.returns-clause-valid
returns-clause-valid c = read_valid _ _ _ c.read_form.ensures
