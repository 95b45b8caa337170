use Rattle.asm_inst.proofs.Places.{any_register_read, any_register_back}
use Rattle.asm_inst.proofs.laws.registers_read.Goals as goal

pub returns : goal.returns
returns c = record { read = λ s r e. (any_register_read s).read r e; back = any_register_back }
