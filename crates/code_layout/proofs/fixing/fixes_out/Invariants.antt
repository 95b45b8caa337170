use Rattle.std.proofs.Common.{◌≡◌, ◌++◌, drop}
use Rattle.code_layout.specs.Layout.{fixes_out}
use Rattle.code_layout.proofs.fixing.fixes_out.Given as goal

abbrev pub invariant-loop-fix : goal.invariant-loop-fix
invariant-loop-fix l = l.outs.items ++ fixes_out (drop l.fix-index l.fixes) ≡ fixes_out l.fixes
