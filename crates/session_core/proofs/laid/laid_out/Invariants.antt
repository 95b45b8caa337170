use Rattle.std.proofs.Common.{◌≡◌, ◌+◌, ◌≤◌, false, ◌++◌, drop, length}
use Rattle.code_layout.specs.declared.place.TheConstants.{MAX_CODE}
use Rattle.code_layout.specs.Layout.{code_length, added_of}
use Rattle.session_core.specs.Session.{fresh}
use Rattle.session_core.specs.Kept.{codes_of}
use Rattle.session_core.proofs.laid.laid_out.Given as goal

abbrev pub invariant-loop-key : goal.invariant-loop-key
invariant-loop-key g l = record {
  entry : l.layout.entry ≡ l.exe.entry;
  known : l.layout.known ≡ l.known;
  added : l.layout.added ++ added_of l.exe (drop l.key-index l.keys) ≡ added_of l.exe l.keys;
  unspent : l.layout.spent ≡ false;
  short : code_length l.layout ≤ MAX_CODE;
  fragments : l.fragments.items ++ codes_of l.exe (drop l.key-index l.keys) ≡ codes_of l.exe l.keys;
  within : l.at ≤ length l.before;
  count : l.made + fresh (drop l.at l.before) (drop l.key-index l.keys) ≡ fresh l.before l.keys;
  few : l.made ≤ l.key-index;
  ticks : l.steps ≡ l.fn.steps + l.made;
}
