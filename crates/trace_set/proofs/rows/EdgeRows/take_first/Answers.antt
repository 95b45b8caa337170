use Rattle.std.proofs.Common.{◌≡◌, ℕ, ◌+◌, ◌<◌, ◌≤◌, List, [], length, None, ap, sym, ◌∙◌, subst, arith}
use Rattle.std.specs.Prelude.{vec_len, vec_capacity}
use Rattle.std.specs.BTreeMap.{Updates, btree_map_len}
use Rattle.link_table.specs.Table.{Table}
use Rattle.trace_file.specs.Edges.{Edge}
use Rattle.trace_set.specs.Rows.{edge_cmp, column_of, shown_rows}
use Rattle.trace_set.proofs.Tables.{is_there, length-others}
use Rattle.trace_set.proofs.Kept.{row_there, value_small, value_in, edge_is, first_has, has_first, has_none, kept_fewer, kept_gone, shown_out, shown_some, shown_none, behead_none, one_less}
use Rattle.trace_set.proofs.rows.EdgeRows.take_first.Goals as goal

pub row-requires : goal.row-requires
row-requires c = c.requires.kept.0.alive c.args.row (row_there c.args.self.now c.args.row c.requires.row)

pub overflow_cast-column : goal.overflow_cast-column
overflow_cast-column c =
    let l : c.in-Some.value < length c.args.self.now.links.columns = value_small c.args.self.now c.args.row c.in-Some.node c.in-Some.value c.next-first.new.self c.requires.kept c.facts.ensures (sym c.row.ensures ∙ c.in-Some.ensures.steps) in
    let m : length c.args.self.now.links.columns ≤ 16777216 = c.facts.ensures.few_columns in
    omega (arith, l, m)

pub unlink-requires : goal.unlink-requires
unlink-requires c = is_there c.args.self.now.links.rows c.args.row c.in-Some.node c.in-Some.value c.next-first.new.self (sym c.row.ensures ∙ c.in-Some.ensures.steps)

pub column-requires : goal.column-requires
column-requires c =
    let l : c.in-Some.value < length c.args.self.now.links.columns = value_small c.args.self.now c.args.row c.in-Some.node c.in-Some.value c.next-first.new.self c.requires.kept c.facts.ensures (sym c.row.ensures ∙ c.in-Some.ensures.steps) in
    let m : length c.unlink.new.self.columns ≡ length c.args.self.now.links.columns = ap (λ (d : Table). length d.columns) c.unlink.ensures ∙ length-others c.in-Some.node c.args.self.now.links.columns in
    omega (arith, l, m)

pub returns-then-is_some-clause-kept : goal.returns-then-is_some-clause-kept
returns-then-is_some-clause-kept c =
    let some : 0 < length c.column.result = has_first c.column.result c.next.new.self c.next.result c.next.ensures.steps (sym c.is_some.ensures ∙ c.if-is_some.true) in
    kept_fewer c.args.self.now c.unlink.new.self c.args.row c.in-Some.node c.in-Some.value c.next-first.new.self c.requires.kept c.facts.ensures c.facts-in-Some.ensures (sym c.row.ensures ∙ c.in-Some.ensures.steps) c.unlink.ensures
    (subst (λ (d : List (ℕ × ℕ)). 0 < length d) c.column.ensures some)

pub returns-then-is_some-clause-rows : goal.returns-then-is_some-clause-rows
returns-then-is_some-clause-rows c = shown_out c.args.self.now c.unlink.new.self c.args.row c.in-Some.node c.in-Some.value c.next-first.new.self c.facts.ensures (sym c.row.ensures ∙ c.in-Some.ensures.steps) c.unlink.ensures

pub returns-then-is_some-clause-some : goal.returns-then-is_some-clause-some
returns-then-is_some-clause-some c = λ _. shown_some c.args.self.now c.args.row c.in-Some.node c.in-Some.value c.next-first.new.self (sym c.row.ensures ∙ c.in-Some.ensures.steps)

pub index-requires : goal.index-requires
index-requires c =
    let l : c.in-Some.value < length c.args.self.now.links.columns = value_small c.args.self.now c.args.row c.in-Some.node c.in-Some.value c.next-first.new.self c.requires.kept c.facts.ensures (sym c.row.ensures ∙ c.in-Some.ensures.steps) in
    let m : length c.args.self.now.columns.items ≡ length c.args.self.now.links.columns = c.requires.kept.0.named in
    let o : vec_len c.args.self.now.columns ≡ length c.args.self.now.columns.items = c.args.self.now.columns.ok.0 in
    omega (arith, l, m, o)

pub push_reserved-requires : goal.push_reserved-requires
push_reserved-requires c =
    let k : btree_map_len c.args.self.now.names + length c.args.self.now.spare.items ≡ length c.args.self.now.columns.items = c.requires.kept.0.sized in
    let f : length c.args.self.now.columns.items ≤ vec_capacity c.args.self.now.spare = c.requires.kept.0.fits in
    let o : vec_len c.args.self.now.spare ≡ length c.args.self.now.spare.items = c.args.self.now.spare.ok.0 in
    let less : btree_map_len c.remove.new.self + 1 ≡ btree_map_len c.args.self.now.names = (one_less c.args.self.now.names c.remove.new.self c.index.result.now c.remove.result c.in-Some.value (ap (column_of c.args.self.now.names) (edge_is c.args.self.now c.in-Some.value c.index.result.now (value_in c.args.self.now c.in-Some.value c.requires.kept (value_small c.args.self.now c.args.row c.in-Some.node c.in-Some.value c.next-first.new.self c.requires.kept c.facts.ensures (sym c.row.ensures ∙ c.in-Some.ensures.steps))) c.index.ensures) ∙ c.requires.kept.0.keyed c.in-Some.value (first_has c.args.self.now c.args.row c.in-Some.node c.in-Some.value c.next-first.new.self c.requires.kept (sym c.row.ensures ∙ c.in-Some.ensures.steps))) c.remove.ensures.value c.remove.ensures.len) in
    omega (arith, k, f, o, less)

pub returns-in-None-clause-rows : goal.returns-in-None-clause-rows
returns-in-None-clause-rows c = behead_none (shown_rows c.args.self.now) c.args.row (shown_none c.args.self.now c.args.row (sym c.row.ensures ∙ c.in-None.ensures.steps.0))

pub returns-in-None-clause-none : goal.returns-in-None-clause-none
returns-in-None-clause-none c = λ _. shown_none c.args.self.now c.args.row (sym c.row.ensures ∙ c.in-None.ensures.steps.0)

pub returns-else-is_some-clause-kept : goal.returns-else-is_some-clause-kept
returns-else-is_some-clause-kept c =
    let none : c.column.result ≡ [] = has_none c.column.result c.next.new.self c.next.result c.next.ensures.steps (sym c.is_some.ensures ∙ c.if-is_some.false) in
    kept_gone c.args.self.now c.unlink.new.self c.args.row c.in-Some.node c.in-Some.value c.next-first.new.self c.remove.new.self c.push_reserved.new.self.items (vec_capacity c.push_reserved.new.self)
    c.requires.kept c.facts.ensures c.facts-in-Some.ensures (sym c.row.ensures ∙ c.in-Some.ensures.steps) c.unlink.ensures (sym c.column.ensures ∙ none)
    (subst (λ (e : Edge). Updates edge_cmp c.args.self.now.names c.remove.new.self e None) (edge_is c.args.self.now c.in-Some.value c.index.result.now (value_in c.args.self.now c.in-Some.value c.requires.kept (value_small c.args.self.now c.args.row c.in-Some.node c.in-Some.value c.next-first.new.self c.requires.kept c.facts.ensures (sym c.row.ensures ∙ c.in-Some.ensures.steps))) c.index.ensures) c.remove.ensures.updates)
    (one_less c.args.self.now.names c.remove.new.self c.index.result.now c.remove.result c.in-Some.value (ap (column_of c.args.self.now.names) (edge_is c.args.self.now c.in-Some.value c.index.result.now (value_in c.args.self.now c.in-Some.value c.requires.kept (value_small c.args.self.now c.args.row c.in-Some.node c.in-Some.value c.next-first.new.self c.requires.kept c.facts.ensures (sym c.row.ensures ∙ c.in-Some.ensures.steps))) c.index.ensures) ∙ c.requires.kept.0.keyed c.in-Some.value (first_has c.args.self.now c.args.row c.in-Some.node c.in-Some.value c.next-first.new.self c.requires.kept (sym c.row.ensures ∙ c.in-Some.ensures.steps))) c.remove.ensures.value c.remove.ensures.len) c.push_reserved.ensures.items c.push_reserved.ensures.capacity

pub returns-else-is_some-clause-rows : goal.returns-else-is_some-clause-rows
returns-else-is_some-clause-rows c = shown_out c.args.self.now c.unlink.new.self c.args.row c.in-Some.node c.in-Some.value c.next-first.new.self c.facts.ensures (sym c.row.ensures ∙ c.in-Some.ensures.steps) c.unlink.ensures

pub returns-else-is_some-clause-some : goal.returns-else-is_some-clause-some
returns-else-is_some-clause-some c = λ _. shown_some c.args.self.now c.args.row c.in-Some.node c.in-Some.value c.next-first.new.self (sym c.row.ensures ∙ c.in-Some.ensures.steps)
