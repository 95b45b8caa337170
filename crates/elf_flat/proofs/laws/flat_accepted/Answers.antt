use Rattle.elf_flat.proofs.InCode as Proved
use Rattle.elf_flat.proofs.laws.flat_accepted.Goals as goal

pub returns : goal.returns
returns c = Proved.is_accepted
