use Rattle.std.proofs.Common.{◌<◌, length, sym, ◌∙◌, arith}
use Rattle.session_core.proofs.Ordered.{kept_here, is_there}
use Rattle.session_core.proofs.keys.is_kept.Goals as goal

pub returns-clause-value : goal.returns-clause-value
returns-clause-value c =
    let l : c.args.at < length c.args.keys.now = omega (arith, c.requires.within, c.if-at-keys.false) in
    c.same_key.ensures ∙ sym (kept_here c.args.keys.now c.args.at c.index-keys-at.result c.args.key.now l c.index-keys-at.is c.requires.order (c.requires.reached l))

pub returns-clause-there : goal.returns-clause-there
returns-clause-there c = λ e.
    let l : c.args.at < length c.args.keys.now = omega (arith, c.requires.within, c.if-at-keys.false) in
    (l, is_there c.args.keys.now c.args.at c.index-keys-at.result c.args.key.now l c.index-keys-at.is (sym c.same_key.ensures ∙ e))
