use Rattle.std.proofs.Common.{◌∙◌, ap, arith}
use Rattle.std.specs.Prelude.{◌||◌}
use Rattle.ssa_form.specs.Agree.{every}
use Rattle.pass_dead.specs.Names.{set_of, has}
use Rattle.pass_dead.proofs.Steps.{outs_same, all_on}
use Rattle.pass_dead.proofs.marks.mark_all_outs.Goals as goal

pub returns : goal.returns
returns c = λ j l. c.mark_outs.ensures j l ∙ ap (λ b. set_of c.args.marks.now j || b) (outs_same 0 c.args.outs.now (has 0x3FFF) every j (λ v m. all_on v (omega (arith, c.told-outs))))
