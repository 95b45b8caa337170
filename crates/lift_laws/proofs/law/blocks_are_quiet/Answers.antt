use Rattle.lift_laws.proofs.StepsMean.{block_quiet}
use Rattle.lift_laws.proofs.law.blocks_are_quiet.Goals as goal

pub returns : goal.returns
returns c = λ exe s j guest h r n l w. block_quiet c.asks_exactly.ensures c.read_is_valid.ensures c.lines_mean.ensures.means c.lines_mean.ensures.checked c.runs_through.ensures.plain exe guest c.one_block.ensures s j h r n l w
