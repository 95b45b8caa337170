use Rattle.std.proofs.Common.{◌≡◌, ◌+◌, ◌++◌, drop}
use Rattle.block_make.specs.FragmentItems.{tails_items}
use Rattle.block_make.specs.Prepared.{choice_in}
use Rattle.block_make.proofs.exits.tails.Given as goal

abbrev pub invariant-loop-index : goal.invariant-loop-index
invariant-loop-index l = l.fn.p ++ tails_items (choice_in l.of) 1 l.exits ≡ l.p ++ tails_items (choice_in l.of) (l.index + 1) (drop l.index l.exits)
