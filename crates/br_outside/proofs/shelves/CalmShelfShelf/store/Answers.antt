use Rattle.std.proofs.Common.{arith}
use Rattle.std.proofs.lemmas.Result.{err_from_is_err_and}
use Rattle.br_outside.proofs.Stores.{kept_store}
use Rattle.br_outside.proofs.shelves.CalmShelfShelf.store.Goals as goal

pub returns-in_err-put_pair : goal.returns-in_err-put_pair
returns-in_err-put_pair c =
    let p = err_from_is_err_and c.from_residual.result c.from_residual.ensures.1 in rw (p.1, p.2) (kept_store _ _ _ _ _ _ c.in_err-put_pair.ensures.err (omega arith))
