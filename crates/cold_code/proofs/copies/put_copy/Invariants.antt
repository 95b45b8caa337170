use Rattle.std.proofs.Common.{◌-◌, ◌≤◌}
use Rattle.cold_code.specs.Linkable.{AreLinkable}
use Rattle.cold_code.proofs.CopyCode.{Room}
use Rattle.cold_code.specs.Around.{around}
use Rattle.cold_code.specs.Copies.{copy_of}
use Rattle.cold_code.proofs.Upto.{Upto}
use Rattle.cold_code.proofs.Walking.{to_come}
use Rattle.cold_code.proofs.copies.put_copy.Given as goal

abbrev pub invariant-loop-count : goal.invariant-loop-count
invariant-loop-count l = record {
  few : l.count ≤ 64;
  upto : Upto l.fn.p l.p (copy_of l.exe (around l.starts) l.start) (to_come l.exe (around l.starts) (64 - l.count) l.at);
  linkable : Room l.exe (around l.starts) (64 - l.count) l.at → AreLinkable (copy_of l.exe (around l.starts) l.start) 2048;
}

abbrev pub decreases-loop-count : goal.decreases-loop-count
decreases-loop-count l = 64 - l.count
