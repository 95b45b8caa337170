use Rattle.std.proofs.Common.{map, string_bytes}
use Rattle.guest_run.specs.Guest.{beginning}
use Rattle.top_plan.specs.World.{world}
use Rattle.top_run.specs.RunPlan.{guest_plan}
use Rattle.top_plan.specs.Texts.{end_of}
use Rattle.top_plan.proofs.Outcomes.{ends_on}
use Rattle.top_run.proofs.run.run_command.Goals as goal

pub returns-in_err-exe : goal.returns-in_err-exe
returns-in_err-exe g c =
    let s = world (g.F.Shelf.seen c.args.shelf.now) (g.I.Source.seen c.args.input.now) (g.O.Sink.seen c.args.out.now) (g.R.Sink.seen c.args.report.now) in
    ends_on _ _ _ _ c.from_residual.result (c.in_err-exe.ensures.goes s (λ exe. guest_plan c.args.steps (beginning exe (map string_bytes c.args.args.now)))) c.from_residual.ensures.1

pub returns : goal.returns
returns g c =
    let s = world (g.F.Shelf.seen c.args.shelf.now) (g.I.Source.seen c.args.input.now) (g.O.Sink.seen c.args.out.now) (g.R.Sink.seen c.args.report.now) in
    let t = world (g.F.Shelf.seen c.fetch_guest.new.shelf) (g.I.Source.seen c.run_guest.new.input) (g.O.Sink.seen c.run_guest.new.out) (g.R.Sink.seen c.run_guest.new.report) in
    c.in_ok-exe.ensures.goes s (λ exe. guest_plan c.args.steps (beginning exe (map string_bytes c.args.args.now))) (end_of c.run_guest.result) t (c.run_guest.ensures (g.F.Shelf.seen c.fetch_guest.new.shelf))
