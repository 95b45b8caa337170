use Rattle.std.proofs.Common.{◌∙◌, ap, arith}
use Rattle.std.specs.Prelude.{◌||◌}
use Rattle.ssa_form.specs.Agree.{every}
use Rattle.pass_dead.specs.Names.{outs_name}
use Rattle.pass_dead.specs.Needed.{always, roots_of}
use Rattle.pass_dead.proofs.Steps.{needed_same}
use Rattle.pass_dead.proofs.pruning.mark_block.Goals as goal

pub returns : goal.returns
returns c = λ j l.
    let b = c.args.b.now in
    c.mark_needed.ensures j l ∙ needed_same b.lines _ (roots_of every b) (λ k m. c.mark_all_outs.ensures k (omega arith) ∙ ap (λ x. x || outs_name every 0 b.outs k) (c.mark_always.ensures k (omega arith)) ∙ ap (λ x. (x || always b k) || outs_name every 0 b.outs k) (c.requires.none k)) j l
