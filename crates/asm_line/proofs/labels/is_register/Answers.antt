use Rattle.std.proofs.Common.{sym}
use Rattle.asm_line.proofs.LineTexts.{no_register}
use Rattle.asm_line.proofs.labels.is_register.Goals as goal

pub returns-in-Err : goal.returns-in-Err
returns-in-Err c = sym (no_register c.args.name.now c.in-Err.ensures.cases.0)
