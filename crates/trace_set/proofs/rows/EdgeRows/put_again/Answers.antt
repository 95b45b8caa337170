use Rattle.trace_set.specs.Rows.{edge_at}
use Rattle.trace_set.proofs.Kept.{column_there, few_nodes, kept_again, shown_put}
use Rattle.trace_set.proofs.rows.EdgeRows.put_again.Goals as goal

pub add-requires-clause-column : goal.add-requires-clause-column
add-requires-clause-column c = column_there c.args.self.now (edge_at c.args.self.now.columns.items c.args.column) c.args.column c.requires.kept c.facts.ensures c.requires.column

pub want_of_memory-requires : goal.want_of_memory-requires
want_of_memory-requires c = few_nodes c.args.self.now c.in-Err.error c.requires.room c.in-Err.ensures.full.0

pub returns-in-Ok-clause-kept : goal.returns-in-Ok-clause-kept
returns-in-Ok-clause-kept c = kept_again c.args.self.now c.add.new.self c.args.row c.args.column c.in-Ok.field-0 c.requires.kept c.requires.row c.requires.column c.in-Ok.ensures.ok

pub returns-in-Ok-clause-ok : goal.returns-in-Ok-clause-ok
returns-in-Ok-clause-ok c = shown_put c.args.self.now.columns.items c.args.self.now.links c.add.new.self c.args.row c.args.column c.in-Ok.field-0 c.in-Ok.ensures.ok
