use Rattle.std.proofs.Common.{◌∙◌, sym, arith}
use Rattle.br_outside.proofs.Firsts.{none_up_to, first_here}
use Rattle.br_outside.proofs.pairs.place_of.Goals as goal

pub returns-then-eq-clause-first : goal.returns-then-eq-clause-first
returns-then-eq-clause-first c = first_here _ _ _ c.index-files-place.result c.loop-place-test.true (rw (← c.as_str.ensures.value) (sym c.eq.ensures ∙ c.if-eq.true)) c.loop-place.invariant.1

pub loop-place-preserved : goal.loop-place-preserved
loop-place-preserved c =
    (omega arith, none_up_to _ _ _ c.index-files-place.result c.loop-place-test.true (rw (← c.as_str.ensures.value) (sym c.eq.ensures ∙ c.if-eq.false)) c.loop-place.invariant.1)
