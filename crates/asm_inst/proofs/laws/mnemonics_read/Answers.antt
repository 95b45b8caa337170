use Rattle.asm_inst.proofs.Words.{one_read, one_ok_read, one_back}
use Rattle.asm_inst.proofs.laws.mnemonics_read.Goals as goal

pub returns : goal.returns
returns c = record { read = λ s o e. ((one_read s).read o e, (one_ok_read s).read o e); back = one_back }
