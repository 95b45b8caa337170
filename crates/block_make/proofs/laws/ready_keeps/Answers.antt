use Rattle.block_make.proofs.Passed.{Passes, ready_keeps}
use Rattle.block_make.proofs.laws.ready_keeps.Goals as goal

pub returns : goal.returns
returns c =
    let laws : Passes = record {
      holds = c.rules_hold.ensures.holds;
      fold_keeps = c.fold_keeps.ensures.keeps;
      fold_checked = c.fold_keeps.ensures.checked;
      fold_form = c.fold_keeps.ensures.form;
      prune_keeps = c.prune_keeps.ensures.keeps;
      prune_checked = c.prune_keeps.ensures.checked;
      prune_form = c.prune_keeps.ensures.form;
    } in
    ready_keeps laws
