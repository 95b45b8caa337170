use Rattle.std.proofs.Common.{◌≡◌, ◌+◌, ◌≤◌, ◌++◌, map, drop}
use Rattle.code_layout.specs.declared.place.TheConstants.{MAX_CODE}
use Rattle.code_layout.specs.Layout.{added_length}
use Rattle.cold_copy.specs.ColdCode.{reentry_at}
use Rattle.cold_copy.specs.Behind.{opened}
use Rattle.cold_copy.proofs.behind.reentries.Given as goal

abbrev pub invariant-loop-start : goal.invariant-loop-start
invariant-loop-start l = record {
  pieces : l.pieces.items ++ map opened (map reentry_at (drop l.start-index l.starts)) ≡ map opened (map reentry_at l.starts);
  len : l.len ≡ l.at + added_length l.pieces.items;
  short : l.len ≤ MAX_CODE;
}
