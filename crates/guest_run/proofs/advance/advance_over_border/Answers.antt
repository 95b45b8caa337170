use Rattle.guest_run.proofs.InstructionSteps.{found_as, ok_as, no_code, no_inst, missing, unreadable}
use Rattle.guest_run.proofs.advance.advance_over_border.Goals as goal

pub returns-in-Missing : goal.returns-in-Missing
returns-in-Missing g c = found_as _ _ _ _ _ _ (missing _ c.in-Missing.ensures) (ok_as _ _ _ _ _ _ c.faulted.ensures (no_code c.args.choice c.args.cpu.now c.args.memory.now _))

pub returns-in-Unreadable : goal.returns-in-Unreadable
returns-in-Unreadable g c = found_as _ _ _ _ _ _ (unreadable _ c.in-Unreadable.ensures) (ok_as _ _ _ _ _ _ c.faulted-in-Unreadable.ensures (no_inst c.args.choice c.args.cpu.now c.args.memory.now _))
