use Rattle.code_layout.proofs.NextKeys.{grow}
use Rattle.code_layout.proofs.growth.layouts_grow.Goals as goal

pub returns : goal.returns
returns c = grow
