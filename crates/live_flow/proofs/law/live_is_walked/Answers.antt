use Rattle.live_flow.proofs.Living.{walk_law, long_walks, are_live}
use Rattle.live_flow.proofs.Numbers.{numbers}
use Rattle.live_flow.proofs.law.live_is_walked.Goals as goal

pub returns : goal.returns
returns c = record { walked = walk_law; longer = λ rows n i v w. long_walks rows v n i w; closed = are_live; numbers = numbers }
