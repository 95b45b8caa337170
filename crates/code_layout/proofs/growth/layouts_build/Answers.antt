use Rattle.code_layout.proofs.Builds.{builds}
use Rattle.code_layout.proofs.growth.layouts_build.Goals as goal

pub returns : goal.returns
returns c = builds c.layout_links.ensures
