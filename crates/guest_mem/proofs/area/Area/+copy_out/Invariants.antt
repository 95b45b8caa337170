use Rattle.std.proofs.Common.{length}
use Rattle.guest_mem.proofs.area.Area.+copy_out.Given as goal

abbrev pub decreases-copy_out : goal.decreases-copy_out
decreases-copy_out l = length l.into.now
