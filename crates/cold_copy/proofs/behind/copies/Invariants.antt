use Rattle.std.proofs.Common.{◌≡◌, ◌+◌, ◌≤◌, ◌++◌, map, drop}
use Rattle.code_layout.specs.declared.place.TheConstants.{MAX_CODE}
use Rattle.code_layout.specs.Layout.{added_length}
use Rattle.cold_code.specs.Copies.{by_blocks}
use Rattle.cold_copy.specs.ColdCode.{copy_piece, copies_by}
use Rattle.cold_copy.specs.Behind.{opened}
use Rattle.cold_copy.proofs.behind.copies.Given as goal

abbrev pub invariant-loop-start : goal.invariant-loop-start
invariant-loop-start l = record {
  pieces : l.pieces.items ++ map opened (map (copy_piece l.exe (by_blocks l.starts.blocks.now l.starts.cold.now)) (drop l.start-index l.start-items))
      ≡ map opened (copies_by l.exe l.starts.blocks.now l.starts.cold.now);
  len : l.len ≡ l.at + added_length l.pieces.items;
  short : l.len ≤ MAX_CODE;
}
