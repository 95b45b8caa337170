use Rattle.ia_inst.proofs.Asked.{asked_is_read}
use Rattle.ia_inst.proofs.laws.asks_exactly.Goals as goal

pub returns : goal.returns
returns c = λ i n s. asked_is_read i n s.cpu.regs s.eip s.cpu.df s.cpu.flags s.regions
