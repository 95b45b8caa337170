use Rattle.std.proofs.Common.{ℕ, List, sym, subst}
use Rattle.live_flow.specs.Growing.{IsUnder}
use Rattle.live_flow.proofs.Growth.{begin}
use Rattle.live_flow.proofs.sets.live.Goals as goal

pub settle-requires-clause-under : goal.settle-requires-clause-under
settle-requires-clause-under c =
    let P : List ℕ → Type 0 = λ t. IsUnder c.args.rows.now t c.in_ok-queue.queue.items in
    subst P (sym c.as_mut_slice.ensures.value) (begin c.args.rows.now c.in_ok-sets.sets.items c.in_ok-queue.queue.items c.requires.starts c.in_ok-sets.ensures.length c.in_ok-sets.ensures.needed c.in_ok-queue.ensures.within c.in_ok-queue.ensures.all)
