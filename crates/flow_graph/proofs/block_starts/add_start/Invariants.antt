use Rattle.std.proofs.Common.{◌≡◌, ℕ, ◌-◌, ◌≤◌, ◌⊎◌, Some}
use Rattle.std.specs.Prelude.{IsTrue}
use Rattle.elf_read.specs.Elf.{is_exec}
use Rattle.std.specs.BTreeMap.{btree_map_len}
use Rattle.block_cut.specs.Blocks.{follow_of}
use Rattle.flow_graph.specs.Graph.{IsReached}
use Rattle.flow_graph.specs.CutStarts.{has_start, AreCut}
use Rattle.flow_graph.proofs.block_starts.add_start.Given as goal

abbrev pub invariant-loop-block : goal.invariant-loop-block
invariant-loop-block l = record {
  few : btree_map_len l.blocks ≤ 65536;
  code : IsTrue (is_exec l.next l.exe.segments);
  cut : AreCut l.exe l.blocks;
  reached : IsReached l.exe l.start l.next;
  sound : (t : ℕ) → IsTrue (has_start l.blocks t) → IsTrue (has_start l.initial.blocks t) ⊎ IsReached l.exe l.start t;
  keeps : (t : ℕ) → IsTrue (has_start l.initial.blocks t) → IsTrue (has_start l.blocks t);
  added : IsTrue (has_start l.blocks l.start) ⊎ (l.start ≡ l.next);
  closed : (s t : ℕ) → IsTrue (has_start l.blocks s) → follow_of l.exe s ≡ Some t → IsTrue (has_start l.blocks t) ⊎ (t ≡ l.next);
}

abbrev pub decreases-loop-block : goal.decreases-loop-block
decreases-loop-block l = 65536 - btree_map_len l.blocks
