use Rattle.std.proofs.Common.{arith}
use Rattle.guest_sys.proofs.DoneCalls.{exits, answers_as, bad_write, bad_number}
use Rattle.guest_sys.proofs.calls.system.Goals as goal

pub returns-in-1 : goal.returns-in-1
returns-in-1 g c = exits _ _ _ _ _ c.in-1.is

pub returns-in_default-regs : goal.returns-in_default-regs
returns-in_default-regs g c = answers_as _ _ _ _ _ _ _ _ _ c.answer.ensures.goes c.answer.ensures.eax
    (bad_write c.args.cpu.now c.args.m.now _ _ _ c.in-4.is (λ h. omega arith) (λ h. omega arith))

pub returns-in_default : goal.returns-in_default
returns-in_default g c = answers_as _ _ _ _ _ _ _ _ _ c.answer-in_default.ensures.goes c.answer-in_default.ensures.eax
    (bad_number c.args.cpu.now c.args.m.now _ _ _ (λ h. omega arith) (λ h. omega arith) (λ h. omega arith) (λ h. omega arith))
