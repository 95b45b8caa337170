use Rattle.guest_run.proofs.InstructionSteps.{trap_carries, carries_on, faults_at, ok_as, edged}
use Rattle.guest_run.proofs.advance.carry_out.Goals as goal

pub returns-in-Trap : goal.returns-in-Trap
returns-in-Trap g c = trap_carries c.args.inst.now c.args.len c.args.choice c.args.cpu.now c.execute.new.cpu c.args.memory.now c.execute.new.m _ c.trap.result _ c.in-Trap.ensures.effect c.in-Trap.ensures.undefined c.trap.ensures

pub returns-in-Fault : goal.returns-in-Fault
returns-in-Fault g c = ok_as _ _ _ _ _ _ c.faulted.ensures
    (faults_at c.args.inst.now c.args.len c.args.choice c.args.cpu.now c.execute.new.cpu c.args.memory.now c.execute.new.m _ c.in-Fault.fault c.in-Fault.ensures.effect c.in-Fault.ensures.undefined)

pub returns-in-Next : goal.returns-in-Next
returns-in-Next g c = ok_as _ _ _ _ _ _ (edged _ _ c.edge.ensures)
    (carries_on c.args.inst.now c.args.len c.args.choice c.args.cpu.now c.execute.new.cpu c.args.memory.now c.execute.new.m _ c.in-Next.ensures.effect c.in-Next.ensures.undefined)
