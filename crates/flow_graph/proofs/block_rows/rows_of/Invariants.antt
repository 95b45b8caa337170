use Rattle.std.proofs.Common.{◌+◌, ◌-◌, ◌<◌, ◌^◌, length, take}
use Rattle.std.specs.Prelude.{vec_len}
use Rattle.flow_graph.specs.Graph.{known_of}
use Rattle.flow_graph.specs.BlockRows.{Holds, AreMade}
use Rattle.flow_graph.proofs.block_rows.rows_of.Given as goal

abbrev pub invariant-loop-block : goal.invariant-loop-block
invariant-loop-block l = record {
  room : vec_len l.targets + (length l.blocks - l.block-index) < 2 ^ 32;
  holds : Holds l.counted l.targets.items;
  made : AreMade l.targets.items (take l.block-index l.blocks) (known_of l.exe l.counted) l.rows.items;
}
