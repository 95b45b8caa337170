use Rattle.std.proofs.Common.{◌<◌, List, length, inr, sym, subst}
use Rattle.trace_file.specs.Edges.{Edge}
use Rattle.trace_set.specs.Rows.{shown_rows}
use Rattle.trace_set.proofs.Kept.{row_shown, next_row, longer_rows, kept_row, shown_row}
use Rattle.trace_set.proofs.rows.EdgeRows.reach.Goals as goal

pub returns-then-self-row-clause-ok : goal.returns-then-self-row-clause-ok
returns-then-self-row-clause-ok c = row_shown c.args.self.now c.args.row c.requires.kept c.if-self-row.true

pub returns-in-Ok-clause-kept : goal.returns-in-Ok-clause-kept
returns-in-Ok-clause-kept c = kept_row c.args.self.now c.fresh_row.new.self c.requires.kept c.facts.ensures c.in-Ok.ensures.ok

pub returns-in-Ok-clause-rows : goal.returns-in-Ok-clause-rows
returns-in-Ok-clause-rows c = inr (next_row c.args.self.now c.args.row c.requires.kept c.if-self-row.false c.requires.row, shown_row c.args.self.now c.fresh_row.new.self c.in-Ok.ensures.ok)

pub returns-in-Ok-clause-ok : goal.returns-in-Ok-clause-ok
returns-in-Ok-clause-ok c =
    subst (λ (d : List (List Edge)). c.args.row < length d) (sym (shown_row c.args.self.now c.fresh_row.new.self c.in-Ok.ensures.ok))
    (longer_rows (shown_rows c.args.self.now) c.args.row (next_row c.args.self.now c.args.row c.requires.kept c.if-self-row.false c.requires.row))
