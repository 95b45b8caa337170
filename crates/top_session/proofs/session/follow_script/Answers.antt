use Rattle.std.proofs.Common.{◌≡◌, ◌≤◌, length, arith}
use Rattle.session_core.specs.Session.{new_session}
use Rattle.top_session.specs.Lines.{lines_end}
use Rattle.top_session.specs.SessionPlan.{lines_part}
use Rattle.top_session.proofs.LinesRun.{script_run}
use Rattle.top_session.proofs.session.follow_script.Goals as goal

pub returns : goal.returns
returns g c w =
    let count : c.ahead-ahead.result ≡ length c.read_script-end.new.reader = c.ahead-ahead.ensures.count in
    let few : c.ahead-ahead.result ≤ 4096 = c.ahead-ahead.ensures.few in
    script_run (lines_part c.args.subject.digest 1048576 0 (new_session c.args.subject.exe) lines_end) w _ _ _ c.read_script-end.new.reader _ _ _ _ _ c.new-reader.ensures (omega (arith, count, few)) (c.read_script-end.ensures w)
