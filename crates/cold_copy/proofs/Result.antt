-- What is told of an error whatever it is.
use Rattle.std.proofs.Common.{Result, Ok, Err, IfErr, ◌≡◌}

pub told : {X E P : Type 0} (Q : E → Type 0) (r : Result X E) → P → IfErr r (λ e. Q e → P)
told Q (Ok x) p = tt
told Q (Err e) p = λ q. p
