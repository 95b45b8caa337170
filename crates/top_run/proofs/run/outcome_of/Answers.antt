use Rattle.top_run.specs.RunPlan.{stands}
use Rattle.top_plan.proofs.Passes.{runs_out}
use Rattle.top_run.proofs.GuestRuns.{stood}
use Rattle.top_run.proofs.run.outcome_of.Goals as goal

pub returns-in-Ok : goal.returns-in-Ok
returns-in-Ok c w = stood c.args.guest.now c.stop-stand.result c.finish_of.result _ c.steps.result c.undefined.result w c.stop-stand.ensures c.steps.ensures c.undefined.ensures c.finish_of.ensures c.in-Ok.ensures

pub returns-in-Err : goal.returns-in-Err
returns-in-Err c w = runs_out (stands c.args.guest.now) w
