use Rattle.asm_text.proofs.LabelMaps.{others}
use Rattle.asm_text.proofs.labels.add_form.Goals as goal

pub returns-in_default : goal.returns-in_default
returns-in_default c = λ before has. others c.args.labels.now before c.args.number c.args.at c.args.form.now c.in_default.not-Label has
