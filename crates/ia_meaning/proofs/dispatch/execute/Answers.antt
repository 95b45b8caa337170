use Rattle.std.proofs.Common.{ℕ, Ok, subst}
use Rattle.guest_mem.specs.View.{MemoryView}
use Rattle.ia_inst.specs.Act.{Completion, Next, Denied, Divided, Called, perform}
use Rattle.ia_inst.specs.Meaning.{meaning}
use Rattle.ia_meaning.specs.declared.cpu.Cpu.{Cpu}
use Rattle.ia_meaning.specs.declared.cpu.Outcome.TheVariants as outcome
use Rattle.ia_meaning.specs.Effect.{view, Goes, Does, Comes}
use Rattle.ia_meaning.proofs.dispatch.execute.Goals as goal

-- what goes on after a step was counted is what goes on from the state before
comes : (e : Completion) (old new : Cpu) (x : ℕ) (m n : MemoryView) → Goes e (Ok tt) (record old { undefined = x }) m new n → Comes e outcome.Next old m new n
comes (Next u rs to) old new x m n h = (h.0, h.1, h.3)
comes (Denied at) old new x m n h = absurd h
comes Divided old new x m n h = absurd h
comes (Called k) old new x m n h = absurd h

pub returns-in-Ok-clause-effect : goal.returns-in-Ok-clause-effect
returns-in-Ok-clause-effect c =
    let old = c.args.cpu.now in let i = c.args.i.now in let m = c.args.m.now in let n = c.carry_out.new.m in
    let P : Cpu → Type 0 = λ u. Does i c.args.len c.args.choice (Ok tt) u m c.carry_out.new.cpu n in
    comes (perform (meaning i c.args.len old.regs old.eip old.df) c.args.choice (view old) m.regions) old c.carry_out.new.cpu _ m n (subst P c.count_undefined.ensures c.in-Ok.ensures)
