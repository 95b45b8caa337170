use Rattle.std.proofs.Common.{◌≡◌, ◌+◌, ◌<◌, true, length, arith, sym, ap, ◌∙◌, rules}
use Rattle.std.proofs.lemmas.Grind.{common_steps}
use Rattle.trace_file.proofs.Without.{skipped_one}
use Rattle.trace_file.proofs.difference.skipped.Goals as goal

pub loop-at-preserved : goal.loop-at-preserved
loop-at-preserved c = λ es a.
    let t : c.is_before.result ≡ true = grind (arith, common_steps) in
    let l : c.loop-at.at < length c.args.gone.now = grind (arith, common_steps) in
    skipped_one c.args.gone.now c.loop-at.at _ c.args.edge c.is_before.result c.is_before.ensures t l es a ∙ c.loop-at.invariant es a
