use Rattle.code_laws.proofs.Own as own
use Rattle.code_laws.proofs.own_found.Goals as goal

pub returns : goal.returns
returns c = own.own_found c.bytes_read.ensures
