use Rattle.std.specs.Prelude.{option_to_list}
use Rattle.flow_graph.specs.Graph.{starts_in}
use Rattle.cold_set.proofs.Meeting.{goes_on, then_met}
use Rattle.cold_set.proofs.search.meet_ways.Goals as goal

pub returns : goal.returns
returns c =
    goes_on c.meet-2.result c.meet-2.ensures (λ m. then_met c.args.exe.now (starts_in c.args.graph.now.nodes) (option_to_list c.args.ways.first) (option_to_list c.args.ways.second) c.args.found.now.keys c.args.todo.now.items c.meet.new.found.keys c.meet.new.todo.items c.meet-2.new.found.keys c.meet-2.new.todo.items c.in_ok-meet.ensures m)
