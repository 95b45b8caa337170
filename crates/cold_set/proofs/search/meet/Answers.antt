use Rattle.std.proofs.Common.{sym, ◌∙◌}
use Rattle.flow_graph.specs.Graph.{starts_in}
use Rattle.cold_set.proofs.Meeting.{meets_new, meets_old, meets_taken}
use Rattle.cold_set.proofs.search.meet.Goals.{else-is_free-via-then-is_free+in_ok-insert+else-branch, else-is_free-via-else-is_free}
use Rattle.cold_set.proofs.search.meet.Goals as goal

pub returns-in_ok-push : goal.returns-in_ok-push
returns-in_ok-push c =
    meets_new c.args.exe.now (starts_in c.args.graph.now.nodes) c.args.way c.in-Some.address c.args.found.now c.insert.new.self c.args.todo.now.items c.push.new.self.items c.in_ok-insert.field-0 c.in-Some.is (sym c.is_free.ensures ∙ c.if-is_free.true) c.in_ok-insert.ensures.updates c.in_ok-insert.ensures.len c.if-branch.true c.in_ok-push.ensures.items

pub returns-else-is_free : goal.returns-else-is_free
returns-else-is_free c = elim c.else-is_free.branch [
  | else-is_free-via-then-is_free+in_ok-insert+else-branch w ↦ meets_old c.args.exe.now (starts_in c.args.graph.now.nodes) c.args.way c.in-Some.address c.args.found.now w.insert.new.self c.else-is_free.found c.args.todo.now.items w.in_ok-insert.field-0 c.in-Some.is w.in_ok-insert.ensures.added w.if-branch.false w.in_ok-insert.ensures.unchanged w.found-is
  | else-is_free-via-else-is_free w ↦ meets_taken c.args.exe.now (starts_in c.args.graph.now.nodes) c.args.way c.in-Some.address c.args.found.now c.else-is_free.found c.args.todo.now.items c.in-Some.is (sym c.is_free.ensures ∙ w.if-is_free.false) w.found-is
]
