use Rattle.top_plan.specs.Plan.{Plan, Script}
use Rattle.top_plan.specs.Texts.{end_of}
use Rattle.top_plan.proofs.Outcomes.{ends_on}
use Rattle.top_files.specs.declared.original.Subject.{Subject}
use Rattle.session_core.specs.Session.{new_session}
use Rattle.top_session.specs.Lines.{lines_end}
use Rattle.top_session.specs.SessionPlan.{lines_part}
use Rattle.top_session.specs.Parts.{on_three}
use Rattle.top_session.proofs.session.session_command.Goals as goal

-- what comes behind the original
abbrev script_of : Subject → Plan
script_of subject = Script (lines_part subject.digest 1048576 0 (new_session subject.exe) lines_end)

pub returns-in_err-subject : goal.returns-in_err-subject
returns-in_err-subject g c w =
    let s = on_three w (g.F.Shelf.seen c.args.shelf.now) (g.I.Source.seen c.args.input.now) (g.O.Sink.seen c.args.out.now) in
    ends_on _ _ _ _ c.from_residual.result (c.in_err-subject.ensures.goes s script_of) c.from_residual.ensures.1

pub returns : goal.returns
returns g c w =
    let s = on_three w (g.F.Shelf.seen c.args.shelf.now) (g.I.Source.seen c.args.input.now) (g.O.Sink.seen c.args.out.now) in
    c.in_ok-subject.ensures.goes s script_of (end_of c.follow_script.result) _ (c.follow_script.ensures w)
