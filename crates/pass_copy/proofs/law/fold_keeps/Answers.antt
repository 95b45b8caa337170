use Rattle.pass_copy.proofs.Keeping.{fold_keeps, folded_length}
use Rattle.pass_copy.proofs.Checking.{folded_checked, same_kind}
use Rattle.pass_copy.specs.Folded.{stands}
use Rattle.std.proofs.Common.{[]}
use Rattle.pass_copy.proofs.law.fold_keeps.Goals as goal

pub returns : goal.returns
returns c = record {
  keeps = fold_keeps c.rules_hold.ensures.holds c.rules_hold.ensures.operand;
  checked = folded_checked c.rules_hold.ensures.operand;
  form = λ b. (folded_length b.lines [], same_kind (stands [] b.lines) b.exit);
}
