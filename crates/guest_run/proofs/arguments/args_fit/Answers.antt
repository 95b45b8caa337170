use Rattle.std.proofs.Common.{arith, string_bytes}
use Rattle.guest_run.proofs.ArgumentTexts.{fits}
use Rattle.guest_run.proofs.arguments.args_fit.Goals as goal

pub returns : goal.returns
returns c = fits string_bytes c.args.args.now c.loop-arg.arg-index c.loop-arg.total (omega arith) (omega arith) c.loop-arg.invariant
