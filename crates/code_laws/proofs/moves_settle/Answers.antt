use Rattle.code_laws.proofs.Settle as settle
use Rattle.code_laws.proofs.moves_settle.Goals as goal

pub returns : goal.returns
returns c = record { given = settle.moves_given; settled = settle.moves_settle c.moves_at_once.ensures }
