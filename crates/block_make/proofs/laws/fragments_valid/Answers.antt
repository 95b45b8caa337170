use Rattle.block_make.proofs.Fragments.{items_valid}
use Rattle.block_make.proofs.Distinct.{all_distinct, all_end}
use Rattle.block_make.proofs.laws.fragments_valid.Goals as goal

pub returns : goal.returns
returns c = record { valid = items_valid c.splits_are_closed.ensures c.lines_placed.ensures.each c.places_lie.ensures.places c.places_lie.ensures.homes; distinct = all_distinct; ends = all_end }
