use Rattle.pass_dead.proofs.Keeping.{prune_keeps}
use Rattle.pass_dead.proofs.Checking.{pruned_checked, kept_length}
use Rattle.pass_dead.proofs.law.prune_keeps.Goals as goal

pub returns : goal.returns
returns c = record { keeps = prune_keeps; checked = pruned_checked; form = λ b. kept_length _ 0 b.lines }
