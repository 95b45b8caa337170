use Rattle.cold_code.proofs.CopyCode.{copies_linkable}
use Rattle.cold_code.proofs.DispatcherCode.{dispatchers_linkable}
use Rattle.cold_code.proofs.linking.copies_are_code.Goals as goal

pub returns-clause-copies : goal.returns-clause-copies
returns-clause-copies c = copies_linkable c.encoding_length.ensures c.read_is_valid.ensures

pub returns-clause-dispatchers : goal.returns-clause-dispatchers
returns-clause-dispatchers c = dispatchers_linkable
