use Rattle.std.proofs.Common.{◌-◌}
use Rattle.guest_mem.proofs.Growing.{IsFilled}
use Rattle.guest_mem.proofs.area.zero_pages.Given as goal

abbrev pub invariant-loop-done : goal.invariant-loop-done
invariant-loop-done l = IsFilled l.first l.room l.done l.size l.pages.items

abbrev pub decreases-loop-done : goal.decreases-loop-done
decreases-loop-done l = l.size - l.done
