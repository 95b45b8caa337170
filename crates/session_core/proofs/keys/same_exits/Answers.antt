use Rattle.std.proofs.Common.{sym, arith}
use Rattle.session_core.proofs.Ordered.{exits_differ}
use Rattle.session_core.proofs.keys.same_exits.Goals as goal

pub returns-then-left-right : goal.returns-then-left-right
returns-then-left-right c = sym (exits_differ c.args.left.now c.args.right.now (λ e. omega (arith, e, c.if-left-right.true)))
