use Rattle.std.proofs.Common.{◌∙◌}
use Rattle.cold_set.proofs.Leading.{full_goes}
use Rattle.cold_set.proofs.ways.cold_ways.Goals as goal

pub returns-in-Full : goal.returns-in-Full
returns-in-Full c =
    c.one.ensures ∙ full_goes c.args.exe.now c.args.start c.cut_cold-block.result c.cut_cold-block.ensures.block c.in-Full.is
