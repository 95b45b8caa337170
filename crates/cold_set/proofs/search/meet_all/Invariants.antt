use Rattle.std.proofs.Common.{◌+◌, ◌-◌, ◌*◌, ◌≤◌, length}
use Rattle.std.specs.BTreeSet.{btree_set_len}
use Rattle.flow_graph.specs.Graph.{starts_in}
use Rattle.cold_set.proofs.Meeting.{Pending}
use Rattle.cold_set.proofs.search.meet_all.Given as goal

abbrev pub invariant-loop-address : goal.invariant-loop-address
invariant-loop-address l = record {
  few : btree_set_len l.found ≤ 65536;
  pending : Pending l.exe (starts_in l.graph.nodes) l.found.keys l.todo.items;
}

-- what can still be found counts twice: an address that is found joins the list
abbrev pub decreases-loop-address : goal.decreases-loop-address
decreases-loop-address l = 2 * (65536 - btree_set_len l.found) + length l.todo.items
