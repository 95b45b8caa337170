use Rattle.std.proofs.Common.{◌+◌, drop}
use Rattle.block_cut.specs.Transfers.{is_among}
use Rattle.cold_code.specs.Around.{named}
use Rattle.cold_code.specs.Dispatcher.{hits}
use Rattle.cold_code.proofs.Upto.{Upto}
use Rattle.cold_code.proofs.dispatching.hits.Given as goal

abbrev pub invariant-loop-index : goal.invariant-loop-index
invariant-loop-index l =
    Upto l.fn.p l.p (hits (named l.around.naming) (is_among l.around.blocks.now) l.all 0 l.label) (hits (named l.around.naming) (is_among l.around.blocks.now) (drop l.index l.all) l.index (l.label + l.index))
