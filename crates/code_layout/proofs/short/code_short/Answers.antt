use Rattle.code_layout.proofs.ShortCode.{code_short}
use Rattle.code_layout.proofs.short.code_short.Goals as goal

pub returns : goal.returns
returns c = code_short c.codes_short.ensures.bytes
