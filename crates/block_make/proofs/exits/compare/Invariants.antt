use Rattle.std.proofs.Common.{◌≡◌, ◌+◌, ◌++◌, drop}
use Rattle.block_make.specs.FragmentItems.{compare_items}
use Rattle.block_make.proofs.exits.compare.Given as goal

abbrev pub invariant-loop-index : goal.invariant-loop-index
invariant-loop-index l = l.fn.p ++ compare_items 1 l.exits ≡ l.p ++ compare_items (l.index + 1) (drop l.index l.exits)
