use Rattle.std.proofs.Common.{◌≡◌, ◌≤◌, false, ◌++◌, drop}
use Rattle.code_layout.specs.declared.place.TheConstants.{MAX_CODE}
use Rattle.code_layout.specs.Layout.{code_length, added_of}
use Rattle.code_layout.proofs.laid.layout_of.Given as goal

abbrev pub invariant-loop-key : goal.invariant-loop-key
invariant-loop-key l = record {
  entry : l.layout.entry ≡ l.exe.entry;
  known : l.layout.known ≡ l.known;
  added : l.layout.added ++ added_of l.exe (drop l.key-index l.keys) ≡ added_of l.exe l.keys;
  fresh : l.layout.spent ≡ false;
  short : code_length l.layout ≤ MAX_CODE;
}
