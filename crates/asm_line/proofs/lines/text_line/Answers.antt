use Rattle.std.proofs.Common.{sym}
use Rattle.asm_line.proofs.LineTexts.{no_statement}
use Rattle.asm_line.proofs.lines.text_line.Goals as goal

pub returns-in-Err : goal.returns-in-Err
returns-in-Err c = sym (no_statement c.args.text.now c.args.at c.in-Err.ensures.cases.0)
