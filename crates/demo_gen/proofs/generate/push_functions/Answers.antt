use Rattle.demo_gen.proofs.Steps.{functions_step}
use Rattle.demo_gen.proofs.generate.push_functions.Goals as goal

pub loop-function-preserved : goal.loop-function-preserved
loop-function-preserved c = functions_step c.args.count c.loop-function.number c.loop-function._function _ _ _ c.loop-function-test.true c.loop-function.invariant c.in_ok-push_function.ensures
