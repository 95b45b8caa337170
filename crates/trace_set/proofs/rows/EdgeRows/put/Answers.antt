use Rattle.std.proofs.Common.{◌≡◌, ℕ, ◌<◌, List, length, Some, ap, sym, ◌∙◌, subst}
use Rattle.std.specs.Prelude.{OnOk}
use Rattle.trace_file.specs.Edges.{Edge}
use Rattle.trace_set.specs.Rows.{column_of, shown_rows, put_edge}
use Rattle.trace_set.proofs.Kept.{row_there}
use Rattle.trace_set.proofs.rows.EdgeRows.put.Goals as goal

pub put_again-requires-clause-row : goal.put_again-requires-clause-row
put_again-requires-clause-row c = row_there c.args.self.now c.args.row c.requires.row

pub put_again-requires-clause-column : goal.put_again-requires-clause-column
put_again-requires-clause-column c =
    let h : column_of c.args.self.now.names c.args.edge ≡ Some c.in-Some.column = sym c.get.ensures.value ∙ sym c.in-Some.ensures in
    ap (column_of c.args.self.now.names) (c.requires.kept.0.found c.args.edge c.in-Some.column h).0 ∙ h

pub put_first-requires-clause-row : goal.put_first-requires-clause-row
put_first-requires-clause-row c = subst (λ (d : List (List (ℕ × ℕ))). c.args.row < length d) (sym c.in_ok-see_spare-in-None.ensures.links) (row_there c.args.self.now c.args.row c.requires.row)

pub returns-in-Some-clause-ok : goal.returns-in-Some-clause-ok
returns-in-Some-clause-ok c =
    let h : column_of c.args.self.now.names c.args.edge ≡ Some c.in-Some.column = sym c.get.ensures.value ∙ sym c.in-Some.ensures in
    subst (λ (e : Edge). OnOk c.put_again.result (shown_rows c.put_again.new.self ≡ put_edge (shown_rows c.args.self.now) c.args.row e))
    (c.requires.kept.0.found c.args.edge c.in-Some.column h).0 c.put_again.ensures.ok
