use Rattle.std.proofs.Common.{refl}
use Rattle.top_files.specs.TracesPart.{counted}
use Rattle.top_plan.proofs.Checking.{blames_on, checks_on}
use Rattle.top_files.proofs.traces.counted_edges.Goals as goal

pub returns-in_err-edges-clause-checks : goal.returns-in_err-edges-clause-checks
returns-in_err-edges-clause-checks c = checks_on (λ es. es) _ c.from_residual.result _ (blames_on (counted c.args.before) _ _ (λ cause. refl) c.in_err-edges.ensures) c.from_residual.ensures.1
