use Rattle.trace_file.proofs.ReadBack as Proved
use Rattle.trace_file.proofs.law.read_back.Goals as goal

pub returns : goal.returns
returns c = Proved.read_back
