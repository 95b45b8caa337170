use Rattle.guest_mem.proofs.Apart.{lie-apart}
use Rattle.guest_mem.proofs.memory.Memory.regions_lie_apart.Goals as goal

pub returns : goal.returns
returns c = rw (← c.self.view_is) (lie-apart c.self.inside.brk_start c.self.inside.areas.items c.self.invariant.1)
