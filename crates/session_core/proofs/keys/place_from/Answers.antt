use Rattle.std.proofs.Common.{◌<◌, ◌∙◌, sym, subst}
use Rattle.ssa_form.specs.declared.form.BlockKey.{BlockKey}
use Rattle.session_core.proofs.Ordered.{past_one}
use Rattle.session_core.proofs.keys.place_from.Goals as goal

pub loop-at-preserved : goal.loop-at-preserved
loop-at-preserved c = λ later h.
    past_one c.args.keys.now c.loop-at.at c.args.start c.index-keys-at.result later c.loop-at-test.true c.index-keys-at.is
    (subst (λ (k : BlockKey). k.start < c.args.start) (sym c.index-keys-at.is) c.if-start-keys.false) h
    ∙ c.loop-at.invariant later h
