use Rattle.block_make.proofs.CodesShort.{Forms, codes_short, parts_short}
use Rattle.block_make.proofs.Fragments.{short}
use Rattle.block_make.proofs.short.codes_short.Goals as goal

pub returns-clause-bytes : goal.returns-clause-bytes
returns-clause-bytes c =
    let forms : Forms = record {
      fold_checked = c.fold_keeps.ensures.checked;
      fold_form = c.fold_keeps.ensures.form;
      prune_checked = c.prune_keeps.ensures.checked;
      prune_form = c.prune_keeps.ensures.form;
    } in
    codes_short (short c.round_trip.ensures c.encoding_length.ensures) c.lines_few.ensures forms c.one_block.ensures c.encoding_length.ensures

pub returns-clause-parts : goal.returns-clause-parts
returns-clause-parts c =
    let forms : Forms = record {
      fold_checked = c.fold_keeps.ensures.checked;
      fold_form = c.fold_keeps.ensures.form;
      prune_checked = c.prune_keeps.ensures.checked;
      prune_form = c.prune_keeps.ensures.form;
    } in
    parts_short c.lines_few.ensures forms c.one_block.ensures c.encoding_length.ensures
