use Rattle.elf_write.proofs.ReadBack as Proved
use Rattle.elf_write.proofs.law.read_back.Goals as goal

pub returns : goal.returns
returns c = Proved.read_back
