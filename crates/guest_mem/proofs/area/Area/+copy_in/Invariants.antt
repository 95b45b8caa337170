use Rattle.std.proofs.Common.{length}
use Rattle.guest_mem.proofs.area.Area.+copy_in.Given as goal

abbrev pub decreases-copy_in : goal.decreases-copy_in
decreases-copy_in l = length l.from.now
