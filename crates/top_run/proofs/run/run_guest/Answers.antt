use Rattle.std.proofs.Common.{map, string_bytes}
use Rattle.guest_run.specs.Guest.{beginning}
use Rattle.top_plan.specs.World.{world}
use Rattle.top_run.specs.RunPlan.{guest_plan}
use Rattle.top_plan.proofs.Passes.{memory_ends}
use Rattle.top_plan.proofs.Outcomes.{ends_on}
use Rattle.top_run.proofs.GuestRuns.{guest_as}
use Rattle.top_run.proofs.run.run_guest.Goals as goal

pub returns-in_err-guest : goal.returns-in_err-guest
returns-in_err-guest g c v = ends_on _ _ _ _ c.from_residual.result (memory_ends (guest_plan c.args.steps (beginning c.args.exe.now (map string_bytes c.args.args.now))) _ _ _ c.in_err-guest.ensures) c.from_residual.ensures.1

pub returns : goal.returns
returns g c v = guest_as c.args.steps (beginning c.args.exe.now (map string_bytes c.args.args.now)) c.in_ok-guest.guest _ _ _ c.in_ok-guest.ensures
    (c.in_ok-take_turns.ensures v _ _ (c.outcome_of.ensures (world v (g.I.Source.seen c.take_turns.new.input) (g.O.Sink.seen c.take_turns.new.out) (g.R.Sink.seen c.take_turns.new.report))))
