use Rattle.std.proofs.Common.{Some, refl, ◌∙◌, ap}
use Rattle.top_demo.proofs.CalmRuns.{has_run}
use Rattle.top_demo.proofs.runs.run.Goals as goal

pub returns-in-Ok : goal.returns-in-Ok
returns-in-Ok c =
    has_run c.args.exe.now c.args.budget _ c.in-Ok._stop c.in_ok-guest.guest c.run.new.self _ _ (record { out = c.run.new.out; steps = c.steps-steps.result })
    (c.new-input.ensures ∙ c.new.ensures.items) c.in_ok-guest.ensures (ap Some c.new-out.ensures) refl c.steps-steps.ensures c.in-Ok.ensures.told.told
