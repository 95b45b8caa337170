use Rattle.std.proofs.Common.{◌≡◌, map, ap, subst, ◌∙◌}
use Rattle.live_flow.specs.declared.row.LiveRow.{LiveRow}
use Rattle.live_flow.specs.Live.{no_row, row_at, place_of, IsAmong}
use Rattle.block_make.proofs.Behind.{any_default}
use Rattle.code_layout.proofs.LiveRows.{among_ways}
use Rattle.code_layout.proofs.keys.key_at.Goals as goal

pub exits_of-requires-clause-starts : goal.exits_of-requires-clause-starts
exits_of-requires-clause-starts c k d l =
    let rows = c.args.rows.now in
    let same : c.as_slice.result.now ≡ (row_at rows c.args.index).next =
    c.as_slice.ensures ∙ ap (λ (r : LiveRow). r.next) (any_default rows c.args.index _ no_row c.requires.index) in
    c.requires.starts c.args.index _ (subst (λ ys. IsAmong (map (place_of rows) ys) (place_of rows (Rattle.std.specs.Prelude.get_or c.as_slice.result.now k d))) same (among_ways rows c.as_slice.result.now k d l))
