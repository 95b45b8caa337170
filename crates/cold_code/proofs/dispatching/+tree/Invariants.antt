use Rattle.std.proofs.Common.{length}
use Rattle.cold_code.proofs.dispatching.+tree.Given as goal

abbrev pub decreases-tree : goal.decreases-tree
decreases-tree l = length l.list.now
