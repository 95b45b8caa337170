use Rattle.std.proofs.Common.{[], ap, refl, arith}
use Rattle.run_model.specs.Run.{observed}
use Rattle.sim_laws.proofs.Widen.{every_high}
use Rattle.sim_laws.proofs.choices.choices_agree.Goals as goal

pub returns : goal.returns
returns c = λ n s choices t.
    let f = c.runs_wider.ensures 0 [] n s s.cpu.flags choices tt (record { regions = every_high s.regions; brk = omega arith }) (record { cf = λ _. refl; pf = λ _. refl; zf = λ _. refl; sf = λ _. refl; of = λ _. refl }) t in
    (ap observed f.same, ap (λ s. s.eip) f.same, ap (λ s. s.cpu.regs) f.same, ap (λ s. s.cpu.marks) f.same, ap (λ s. s.regions) f.same)
