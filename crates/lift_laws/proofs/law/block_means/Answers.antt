use Rattle.lift_laws.proofs.StepsMean.{block_gives}
use Rattle.lift_laws.proofs.law.block_means.Goals as goal

pub returns : goal.returns
returns c = λ exe s p guest h r n a z w. block_gives c.asks_exactly.ensures c.read_is_valid.ensures c.lines_mean.ensures.means c.lines_mean.ensures.checked c.runs_through.ensures.plain exe guest c.one_block.ensures s p h r n a z w
