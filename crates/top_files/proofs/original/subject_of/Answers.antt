use Rattle.std.proofs.Common.{Ok, refl, sym, ◌∙◌, ap}
use Rattle.top_files.specs.OriginalPart.{with_digest}
use Rattle.top_plan.proofs.Checking.{blames_on, checks_on}
use Rattle.top_files.proofs.original.subject_of.Goals as goal

pub returns-in_err-exe-clause-checks : goal.returns-in_err-exe-clause-checks
returns-in_err-exe-clause-checks c = checks_on (λ subject. subject) _ c.from_residual.result _ (blames_on (with_digest c.args.bytes.now) _ _ (λ cause. refl) c.in_err-exe.ensures.checks) c.from_residual.ensures.1

pub returns-clause-checks : goal.returns-clause-checks
returns-clause-checks c = ap (with_digest c.args.bytes.now) c.in_ok-exe.ensures.checks ∙ ap (λ d. Ok (record { exe = c.in_ok-exe.exe; digest = d })) (sym c.digest.ensures)
