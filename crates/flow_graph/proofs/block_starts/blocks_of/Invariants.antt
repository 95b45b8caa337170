use Rattle.std.proofs.Common.{ℕ, ◌≤◌, take}
use Rattle.std.specs.Prelude.{IsTrue, Contains}
use Rattle.std.specs.BTreeMap.{btree_map_len}
use Rattle.run_model.specs.Edges.{Edge}
use Rattle.flow_graph.specs.Graph.{IsStart}
use Rattle.flow_graph.specs.CutStarts.{has_start, AreCut, FollowEach}
use Rattle.flow_graph.proofs.block_starts.blocks_of.Given as goal

abbrev pub invariant-loop-edge : goal.invariant-loop-edge
invariant-loop-edge l = record {
  few : btree_map_len l.blocks ≤ 65536;
  cut : AreCut l.exe l.blocks;
  sound : (s : ℕ) → IsTrue (has_start l.blocks s) → IsStart l.exe (take l.edge-index l.counted) s;
  targets : (e : Edge) → Contains (take l.edge-index l.counted) e → IsTrue (has_start l.blocks e.1);
  closed : FollowEach l.exe l.blocks;
}
