use Rattle.std.proofs.Common.{◌≡◌, ◌++◌, map, drop}
use Rattle.code_layout.specs.Rows.{forth}
use Rattle.code_layout.proofs.fixing.push_fixes.Given as goal

abbrev pub invariant-loop-fix : goal.invariant-loop-fix
invariant-loop-fix l = l.out.items ++ map (forth l.at) (drop l.fix-index l.fixes) ≡ l.initial.out.items ++ map (forth l.at) l.fixes
