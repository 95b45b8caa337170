use Rattle.std.proofs.Common.{[], ◌≤◌}
use Rattle.std.specs.BTreeSet.{btree_set_len}
use Rattle.flow_graph.specs.Graph.{starts_in}
use Rattle.cold_set.specs.Meets.{Meets}
use Rattle.cold_set.proofs.Meeting.{first_roots}
use Rattle.cold_set.proofs.search.meet_roots.Given as goal

abbrev pub invariant-loop-index : goal.invariant-loop-index
invariant-loop-index l = record {
  few : btree_set_len l.found ≤ 65536;
  met : Meets l.exe (starts_in l.graph.nodes) (first_roots l.exe (starts_in l.graph.nodes) l.index) [] [] l.found.keys l.todo.items;
}
