use Rattle.std.proofs.Common.{◌∙◌}
use Rattle.flow_graph.specs.Graph.{starts_in}
use Rattle.cold_set.proofs.Meeting.{is_list, is_many}
use Rattle.cold_set.proofs.search.cold_starts.Goals as goal

pub returns-in-Err-clause-many : goal.returns-in-Err-clause-many
returns-in-Err-clause-many c = λ e. is_many c.args.exe.now (starts_in c.args.graph.now.nodes) c.meet_roots.new.found c.requires.guest (c.in-Err.ensures.many e)

pub returns-clause-list : goal.returns-clause-list
returns-clause-list c =
    c.in_ok-listed.ensures.items ∙ is_list c.args.exe.now (starts_in c.args.graph.now.nodes) c.meet_all.new.found c.requires.guest c.in_ok-listed.ensures.ordered c.in-Ok-meet_all.ensures.all

pub returns-in-Err-meet_all-clause-many : goal.returns-in-Err-meet_all-clause-many
returns-in-Err-meet_all-clause-many c = λ e. is_many c.args.exe.now (starts_in c.args.graph.now.nodes) c.meet_all.new.found c.requires.guest (c.in-Err-meet_all.ensures.many e)
