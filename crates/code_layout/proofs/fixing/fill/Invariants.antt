use Rattle.std.proofs.Common.{◌≡◌, drop}
use Rattle.code_layout.specs.declared.place.TheConstants.{CODE_START}
use Rattle.code_layout.specs.Linked.{goes_out}
use Rattle.code_layout.specs.Layout.{filled}
use Rattle.code_layout.specs.Places.{place_in}
use Rattle.code_layout.specs.Rows.{row_address}
use Rattle.code_layout.proofs.fixing.fill.Given as goal

abbrev pub invariant-loop-fix : goal.invariant-loop-fix
invariant-loop-fix l = filled (goes_out (row_address l.rows) (place_in l.out)) CODE_START (drop l.fix-index l.fixes) l.code ≡ filled (goes_out (row_address l.rows) (place_in l.out)) CODE_START l.fixes l.initial.code
