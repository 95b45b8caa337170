use Rattle.std.proofs.lemmas.Result.{err_from_is_err_and}
use Rattle.br_outside.proofs.Stores.{failed_store, kept_store, done_store}
use Rattle.br_outside.proofs.shelves.MemShelfShelf.store.Goals as goal

pub returns-then-next_fails-clause-stored : goal.returns-then-next_fails-clause-stored
returns-then-next_fails-clause-stored c = failed_store _ _ _ _ _ c.next_fails.ensures.bounded c.if-next_fails.ensures.counted

pub returns-in_err-put_pair-clause-stored : goal.returns-in_err-put_pair-clause-stored
returns-in_err-put_pair-clause-stored c =
    let p = err_from_is_err_and c.from_residual.result c.from_residual.ensures.1 in rw (p.1, p.2, c.if-next_fails.ensures.counted) (kept_store _ _ _ _ _ _ c.in_err-put_pair.ensures.err c.next_fails.ensures.bounded)

pub returns-in_err-put_pair-clause-stay : goal.returns-in_err-put_pair-clause-stay
returns-in_err-put_pair-clause-stay c =
    let p = err_from_is_err_and c.from_residual.result c.from_residual.ensures.1 in rw p.1 c.in_err-put_pair.ensures.err

pub returns-clause-stored : goal.returns-clause-stored
returns-clause-stored c = rw c.if-next_fails.ensures.counted (done_store _ _ _ _ _ _ c.in_ok-put_pair.ensures.ok c.next_fails.ensures.bounded)
