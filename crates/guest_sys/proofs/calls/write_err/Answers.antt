use Rattle.std.proofs.Common.{refl}
use Rattle.guest_sys.proofs.WriteCalls.{err_done, err_fails, err_no_memory}
use Rattle.guest_sys.proofs.calls.write_err.Goals as goal

pub returns-in-Ok : goal.returns-in-Ok
returns-in-Ok g c i o = err_done _ _ _ _ i o _ _ _ c.requires.number c.requires.descriptor refl c.in-Ok.ensures

pub returns-in-Err-Failed : goal.returns-in-Err-Failed
returns-in-Err-Failed g c i o = err_fails _ _ _ i o _ _ _ c.requires.number c.requires.descriptor refl (rw c.in-Err-Failed.field-0-is at c.in-Err-Failed.ensures)

pub returns-in-Err-Memory : goal.returns-in-Err-Memory
returns-in-Err-Memory g c i o = err_no_memory _ _ _ i o _ _ _ c.requires.number c.requires.descriptor refl (rw c.in-Err-Memory.field-0-is at c.in-Err-Memory.ensures)
