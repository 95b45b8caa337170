use Rattle.guest_sys.specs.declared.answers.Called.TheVariants.{Goes, Exit}
use Rattle.guest_run.proofs.CallSteps.{trap_done, trap_fault, trap_fails}
use Rattle.guest_run.proofs.InstructionSteps.{trap_as}
use Rattle.guest_run.proofs.advance.trap.Goals as goal

pub returns-in-Err : goal.returns-in-Err
returns-in-Err g c = trap_fails c.args.at c.args.cpu.now c.system.new.cpu c.args.memory.now c.system.new.m _ _ _ _ _ _ c.in-Err.error c.in-Err.ensures

pub returns-in-Ok-Fault : goal.returns-in-Ok-Fault
returns-in-Ok-Fault g c = trap_as _ _ _ _ _ c.faulted.ensures
    (trap_fault c.args.at c.args.cpu.now c.system.new.cpu c.args.memory.now c.system.new.m _ _ _ _ _ _ c.in-Ok-Fault.fault (rw c.in-Ok-Fault.field-0-is at c.in-Ok-Fault.ensures))

pub returns-in-Ok-Goes : goal.returns-in-Ok-Goes
returns-in-Ok-Goes g c = trap_done c.args.at c.args.cpu.now c.system.new.cpu c.args.memory.now c.system.new.m _ _ _ _ _ _ Goes tt (rw c.in-Ok-Goes.field-0-is at c.in-Ok-Goes.ensures)

pub returns-in-Ok-Exit : goal.returns-in-Ok-Exit
returns-in-Ok-Exit g c = trap_done c.args.at c.args.cpu.now c.system.new.cpu c.args.memory.now c.system.new.m _ _ _ _ _ _ (Exit c.in-Ok-Exit.status) tt (rw c.in-Ok-Exit.field-0-is at c.in-Ok-Exit.ensures)
