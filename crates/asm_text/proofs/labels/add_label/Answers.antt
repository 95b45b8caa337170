use Rattle.std.proofs.Common.{◌∙◌, sym}
use Rattle.asm_text.proofs.LabelMaps.{is_new, more}
use Rattle.asm_text.proofs.labels.add_label.Goals as goal

pub returns-in-Ok-None : goal.returns-in-Ok-None
returns-in-Ok-None c = λ before has. (
  is_new c.args.labels.now before c.args.number c.args.name.now has (sym c.in-Ok-None.ensures.old ∙ c.in-Ok-None.field-0-is),
  more c.args.labels.now c.insert.new.self before c.args.number c.args.at c.args.name has (sym c.in-Ok-None.ensures.old ∙ c.in-Ok-None.field-0-is) c.in-Ok-None.ensures.updates,
)
