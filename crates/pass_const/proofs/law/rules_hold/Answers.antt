use Rattle.pass_const.proofs.Ruling.{holds}
use Rattle.pass_const.proofs.Operands.{operands}
use Rattle.pass_const.proofs.law.rules_hold.Goals as goal

pub returns : goal.returns
returns c = record { holds = holds; operand = operands }
