use Rattle.asm_line.proofs.CodeBytes.{transfers_are_valid}
use Rattle.asm_line.proofs.laws.transfers_are_valid.Goals as goal

pub returns : goal.returns
returns c = transfers_are_valid
