use Rattle.cold_code.proofs.Trees.{length_merged}
use Rattle.cold_code.proofs.Joined.{members_of_both, merged_ascends, merged_below}
use Rattle.cold_code.proofs.joining.merged_lists.Goals as goal

pub returns-clause-members : goal.returns-clause-members
returns-clause-members c = members_of_both

pub returns-clause-length : goal.returns-clause-length
returns-clause-length c = length_merged

pub returns-clause-ascends : goal.returns-clause-ascends
returns-clause-ascends c = merged_ascends

pub returns-clause-below : goal.returns-clause-below
returns-clause-below c = merged_below
