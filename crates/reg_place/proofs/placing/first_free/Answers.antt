use Rattle.std.proofs.Common.{length, arith, get_or}
use Rattle.std.specs.Prelude.{nat_lt}
use Rattle.std.proofs.lemmas.Bool.{lt-ltb, le-ltb}
use Rattle.reg_place.proofs.First.{first_is}
use Rattle.reg_place.proofs.placing.first_free.Goals as goal

pub returns-then-until-position-clause-value : goal.returns-then-until-position-clause-value
returns-then-until-position-clause-value c =
    first_is (λ until. nat_lt c.args.position until) c.args.busy.now c.loop-k.k (omega arith)
    (λ j l. lt-ltb c.args.position (get_or c.args.busy.now j 0) (c.loop-k.invariant j l))
    (λ l. le-ltb c.args.position (get_or c.args.busy.now c.loop-k.k 0) (omega arith))

pub returns-clause-value : goal.returns-clause-value
returns-clause-value c =
    first_is (λ until. nat_lt c.args.position until) c.args.busy.now (length c.args.busy.now) (omega arith)
    (λ j l. lt-ltb c.args.position (get_or c.args.busy.now j 0) (c.loop-k.invariant j (omega arith)))
    (λ l. absurd (omega arith))
