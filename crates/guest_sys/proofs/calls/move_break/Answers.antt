use Rattle.guest_sys.proofs.DoneCalls.{breaks, breaks_not, answers_as}
use Rattle.guest_sys.proofs.calls.move_break.Goals as goal

pub returns-in-Err : goal.returns-in-Err
returns-in-Err c i o e = breaks_not c.args.cpu.now c.args.m.now c.set_break.new.self i o e c.requires c.in-Err.ensures.err

pub returns-in-Ok : goal.returns-in-Ok
returns-in-Ok c i o e = answers_as _ _ _ _ _ i o e _ c.answer.ensures.goes c.answer.ensures.eax
    (breaks c.args.cpu.now c.args.m.now c.set_break.new.self i o e c.in-Ok.now c.requires c.in-Ok.ensures.ok c.in-Ok.ensures.value)
