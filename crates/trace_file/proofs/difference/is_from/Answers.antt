use Rattle.std.proofs.Common.{◌≡◌, ◌+◌, ◌<◌, true, length, arith, sym, ap, ◌∙◌, rules}
use Rattle.std.proofs.lemmas.Grind.{common_steps}
use Rattle.trace_file.proofs.Without.{stands_here}
use Rattle.trace_file.proofs.difference.is_from.Goals as goal

pub returns : goal.returns
returns c =
    let l : c.args.at < length c.args.gone.now = omega (arith, c.requires.within, c.if-at-gone.false) in
    stands_here c.args.gone.now c.args.at _ c.args.edge c.is_before.result c.is_before.ensures l c.requires.reached c.requires.order
