use Rattle.lift_flow.proofs.FewLines.{few_lines}
use Rattle.lift_flow.proofs.law.lines_few.Goals as goal

pub returns : goal.returns
returns c = few_lines c.lines_mean.ensures.few c.lines_mean.ensures.checked
