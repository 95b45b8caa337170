use Rattle.std.proofs.Common.{◌≡◌, drop}
use Rattle.ia_encode.specs.Items.{goes_to}
use Rattle.code_layout.specs.Layout.{filled}
use Rattle.cold_copy.specs.Linking.{stands_to}
use Rattle.cold_copy.proofs.linking.fill.Given as goal

abbrev pub invariant-loop-fix : goal.invariant-loop-fix
invariant-loop-fix l = filled (goes_to (stands_to l.stands)) l.at (drop l.fix-index l.fixes) l.code ≡ filled (goes_to (stands_to l.stands)) l.at l.fixes l.initial.code
