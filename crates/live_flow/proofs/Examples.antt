-- The rows of the tests can be looked up.
use Rattle.std.proofs.Common.{◌≡◌, ℕ, zero, suc, ◌<◌, length, arith, ⊎_elim}
use Rattle.live_flow.specs.Live.{row_at, ways, StartsAscend, NextAreStarts, IsAmong}
use Rattle.live_flow.specs.Examples.{chain}

pub ascend : StartsAscend chain
ascend i zero l k = absurd (omega arith)
ascend zero (suc zero) l k = omega arith
ascend (suc i) (suc zero) l k = absurd (omega arith)
ascend zero (suc (suc zero)) l k = omega arith
ascend (suc zero) (suc (suc zero)) l k = omega arith
ascend (suc (suc i)) (suc (suc zero)) l k = absurd (omega arith)
ascend i (suc (suc (suc j))) l k = absurd (omega arith)

pub starts : NextAreStarts chain
starts zero j h = absurd h
starts (suc zero) j h = ⊎_elim (λ e. omega arith) (λ n. absurd n) h
starts (suc (suc zero)) j h = ⊎_elim (λ e. omega arith) (λ t. ⊎_elim (λ e. omega arith) (λ n. absurd n) t) h
starts (suc (suc (suc i))) j h = absurd h
