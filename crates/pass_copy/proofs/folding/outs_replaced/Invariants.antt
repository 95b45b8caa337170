use Rattle.std.proofs.Common.{◌≡◌, ◌++◌, map, take, drop}
use Rattle.pass_copy.specs.Folded.{replaced}
use Rattle.pass_copy.proofs.folding.outs_replaced.Given as goal

abbrev pub invariant-loop-out : goal.invariant-loop-out
invariant-loop-out l = l.out-items ≡ map (replaced l.stands) (take l.out-index l.outs) ++ drop l.out-index l.outs
