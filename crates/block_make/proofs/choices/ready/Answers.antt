use Rattle.std.proofs.Common.{◌≡◌, ◌≤◌, true, length, ap, sym, subst, ◌∙◌}
use Rattle.ssa_form.specs.declared.form.Block.{Block}
use Rattle.ssa_form.specs.Checked.{checked}
use Rattle.ssa_form.specs.Same.{SpellsWords}
use Rattle.pass_copy.specs.Folded.{folded}
use Rattle.pass_dead.specs.Needed.{pruned}
use Rattle.block_make.specs.Choices.{ready}
use Rattle.block_make.proofs.Passed.{Passes, passed_checked, passed_words, passed_few}
use Rattle.block_make.proofs.choices.ready.Goals as goal

pub returns-clause-block : goal.returns-clause-block
unfolding ready
returns-clause-block c = c.in_ok-block.ensures ∙ ap pruned (c.in_ok-folded.ensures ∙ ap folded c.in_ok-lifted.ensures.lines)

pub returns-clause-whole : goal.returns-clause-whole
returns-clause-whole c =
    let b = c.in_ok-lifted.lifted in
    let same = c.in_ok-block.ensures ∙ ap pruned c.in_ok-folded.ensures in
    let laws : Passes = record {
      holds = c.rules_hold.ensures.holds;
      fold_keeps = c.fold_keeps.ensures.keeps;
      fold_checked = c.fold_keeps.ensures.checked;
      fold_form = c.fold_keeps.ensures.form;
      prune_keeps = c.prune_keeps.ensures.keeps;
      prune_checked = c.prune_keeps.ensures.checked;
      prune_form = c.prune_keeps.ensures.form;
    } in
    subst (λ (x : Block). checked x ≡ true) (sym same) (passed_checked laws b c.in_ok-lifted.ensures.whole)

pub returns-clause-words : goal.returns-clause-words
returns-clause-words c =
    let b = c.in_ok-lifted.lifted in
    let same = c.in_ok-block.ensures ∙ ap pruned c.in_ok-folded.ensures in
    let laws : Passes = record {
      holds = c.rules_hold.ensures.holds;
      fold_keeps = c.fold_keeps.ensures.keeps;
      fold_checked = c.fold_keeps.ensures.checked;
      fold_form = c.fold_keeps.ensures.form;
      prune_keeps = c.prune_keeps.ensures.keeps;
      prune_checked = c.prune_keeps.ensures.checked;
      prune_form = c.prune_keeps.ensures.form;
    } in
    subst SpellsWords (sym same) (passed_words laws b c.in_ok-lifted.ensures.words)

pub returns-clause-few : goal.returns-clause-few
returns-clause-few c =
    let b = c.in_ok-lifted.lifted in
    let same = c.in_ok-block.ensures ∙ ap pruned c.in_ok-folded.ensures in
    let laws : Passes = record {
      holds = c.rules_hold.ensures.holds;
      fold_keeps = c.fold_keeps.ensures.keeps;
      fold_checked = c.fold_keeps.ensures.checked;
      fold_form = c.fold_keeps.ensures.form;
      prune_keeps = c.prune_keeps.ensures.keeps;
      prune_checked = c.prune_keeps.ensures.checked;
      prune_form = c.prune_keeps.ensures.form;
    } in
    subst (λ (x : Block). length x.lines ≤ 2048) (sym same) (passed_few laws b c.in_ok-lifted.ensures.few)
