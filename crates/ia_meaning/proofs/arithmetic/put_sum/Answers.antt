use Rattle.std.proofs.Common.{◌≡◌, false, ap, ◌∙◌, arith}
use Rattle.std.specs.Prelude.{◌==◌}
use Rattle.std.proofs.lemmas.Bool.Decides.{nat_tests}
use Rattle.ia_inst.specs.Meaning.{Result}
use Rattle.ia_meaning.specs.Effect.{status_after}
use Rattle.ia_meaning.proofs.arithmetic.put_sum.Goals as goal

pub returns : goal.returns
returns c r k e =
    let t : (c.args.op == 7) ≡ false = grind (arith, nat_tests) in
    rw t (c.finish.ensures r k (ap (λ (r : Result). r.value) e) (c.set-after.ensures ∙ ap (λ (r : Result). status_after r.changes c.args.cpu.now k) e))
