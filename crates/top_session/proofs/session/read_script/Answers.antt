use Rattle.std.proofs.Common.{string_bytes, refl}
use Rattle.session_core.specs.Session.{new_session}
use Rattle.top_plan.specs.declared.ends.Finish.TheVariants.{Done}
use Rattle.top_plan.proofs.Passes.{runs_out, memory_ends}
use Rattle.top_plan.proofs.Outcomes.{ends_on, ended_as}
use Rattle.top_session.specs.Lines.{lines_line, lines_end}
use Rattle.top_session.specs.SessionPlan.{lines_part}
use Rattle.top_session.proofs.LinesRun.{begun_as}
use Rattle.top_session.proofs.session.read_script.Goals as goal

pub returns-in_err-session : goal.returns-in_err-session
returns-in_err-session g c w = ends_on (lines_part c.args.subject.digest 1048576 0 (new_session c.args.subject.exe) lines_end) _ _ _ c.from_residual.result (runs_out _ _) c.from_residual.ensures.1

pub returns-in_err-count : goal.returns-in_err-count
returns-in_err-count g c w = ends_on _ _ _ _ c.from_residual-in_err-count.result
    (begun_as c.args.subject.digest 1048576 0 c.in_ok-session.session (new_session c.args.subject.exe) lines_end _ _ _ c.in_ok-session.ensures (c.in_err-count.ensures w lines_end)) c.from_residual-in_err-count.ensures.1

pub returns-in_err-line : goal.returns-in_err-line
returns-in_err-line g c w = ends_on _ _ _ _ c.from_residual-in_err-line.result
    (begun_as c.args.subject.digest 1048576 0 c.in_ok-session.session (new_session c.args.subject.exe) lines_end _ _ _ c.in_ok-session.ensures
    (c.in_ok-count.ensures w lines_end _ _ (memory_ends (lines_end c.in_ok-count.count) _ _ (lines_line c.in_ok-count.count) c.in_err-line.ensures))) c.from_residual-in_err-line.ensures.1

pub returns : goal.returns
returns g c w =
    begun_as c.args.subject.digest 1048576 0 c.in_ok-session.session (new_session c.args.subject.exe) lines_end _ _ _ c.in_ok-session.ensures
    (c.in_ok-count.ensures w lines_end _ _ (ended_as Done Done (lines_line c.in_ok-count.count) (string_bytes c.in_ok-line.line) _ refl c.in_ok-line.ensures))
