use Rattle.std.proofs.Common.{◌≡◌, ◌∙◌, ap}
use Rattle.block_make.specs.FragmentCode.{code_of_items, coded}
use Rattle.block_make.proofs.fragment.code_of.Goals as goal

pub returns : goal.returns
unfolding coded
returns c = c.in_ok-code.ensures ∙ ap code_of_items c.in_ok-piece.ensures.items
