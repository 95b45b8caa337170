use Rattle.std.proofs.Common.{◌≡◌, ℕ, ◌+◌, ◌-◌, ◌<◌, [], ◌∷◌, ◌++◌, length, get_or, Option, refl, ap, sym, ◌∙◌, arith, rules}
use Rattle.std.specs.Prelude.{vec_len, vec_capacity}
use Rattle.std.specs.Option.{option_to_list}
use Rattle.std.specs.BTreeMap.{btree_map_len}
use Rattle.trace_set.proofs.Kept.{spare_free, spare_column, few_nodes, kept_first, shown_first, kept_back, shown_back, same_names, back_names, one_added, one_less}
use Rattle.trace_set.proofs.rows.EdgeRows.put_first.Goals as goal

pub index_mut-requires : goal.index_mut-requires
index_mut-requires c =
    let f : c.index-column.result.now < length c.args.self.now.columns.items = (spare_free c.args.self.now c.index-column.result.now c.len.result c.requires.kept (c.len.ensures ∙ c.args.self.now.spare.ok.0) c.requires.spare c.index-column.ensures).0 in
    let o : vec_len c.args.self.now.columns ≡ length c.args.self.now.columns.items = c.args.self.now.columns.ok.0 in
    omega (arith, f, o)

pub returns-in_err-insert-clause-kept : goal.returns-in_err-insert-clause-kept
returns-in_err-insert-clause-kept c =
    kept_back c.args.self.now c.args.self.now.links c.index-column.result.now c.args.edge c.insert.new.self c.requires.kept
    (spare_free c.args.self.now c.index-column.result.now c.len.result c.requires.kept (c.len.ensures ∙ c.args.self.now.spare.ok.0) c.requires.spare c.index-column.ensures).1
    (same_names c.args.self.now.names c.insert.new.self c.in_err-insert.ensures.err) (ap length c.in_err-insert.ensures.err) refl

pub returns-in_err-insert-clause-err : goal.returns-in_err-insert-clause-err
returns-in_err-insert-clause-err c =
    let v = shown_back c.args.self.now c.args.self.now.links c.index-column.result.now c.args.edge
    (spare_free c.args.self.now c.index-column.result.now c.len.result c.requires.kept (c.len.ensures ∙ c.args.self.now.spare.ok.0) c.requires.spare c.index-column.ensures).1 refl in
    search (rules, v)

pub add-requires-clause-column : goal.add-requires-clause-column
add-requires-clause-column c = spare_column c.args.self.now c.index-column.result.now c.requires.kept (spare_free c.args.self.now c.index-column.result.now c.len.result c.requires.kept (c.len.ensures ∙ c.args.self.now.spare.ok.0) c.requires.spare c.index-column.ensures).0

pub want_of_memory-requires : goal.want_of_memory-requires
want_of_memory-requires c = few_nodes c.args.self.now c.in-Err.error c.requires.room c.in-Err.ensures.full.0

pub returns-in-Ok-clause-kept : goal.returns-in-Ok-clause-kept
returns-in-Ok-clause-kept c =
    let l : c.len.result ≡ vec_len c.args.self.now.spare = c.len.ensures in
    let o : vec_len c.args.self.now.spare ≡ length c.args.self.now.spare.items = c.args.self.now.spare.ok.0 in
    let p : 0 < length c.args.self.now.spare.items = c.requires.spare in
    let last : get_or c.args.self.now.spare.items (vec_len c.args.self.now.spare - 1) c.index-column.result.now ≡ c.index-column.result.now =
    ap (λ (n : ℕ). get_or c.args.self.now.spare.items (n - 1) c.index-column.result.now) (sym l) ∙ sym c.index-column.ensures in
    let split : c.args.self.now.spare.items ≡ c.pop.new.self.items ++ c.index-column.result.now ∷ [] =
    c.pop.ensures.items ∙ ap (λ (x : Option ℕ). c.pop.new.self.items ++ option_to_list x) (c.pop.ensures.value c.index-column.result.now (omega (arith, o, p)))
    ∙ ap (λ (x : ℕ). c.pop.new.self.items ++ x ∷ []) last in
    kept_first c.args.self.now c.add.new.self c.args.row c.index-column.result.now c.in-Ok.field-0 c.args.edge c.insert.new.self c.pop.new.self.items (vec_capacity c.pop.new.self)
    c.requires.kept c.requires.row c.requires.edge split c.in_ok-insert.ensures.updates
    (one_added c.args.self.now.names c.insert.new.self c.args.edge c.in_ok-insert.field-0 c.requires.edge c.in_ok-insert.ensures.old c.in_ok-insert.ensures.len)
    c.pop.ensures.capacity c.in-Ok.ensures.ok

pub returns-in-Ok-clause-ok : goal.returns-in-Ok-clause-ok
returns-in-Ok-clause-ok c =
    shown_first c.args.self.now c.add.new.self c.args.row c.index-column.result.now c.in-Ok.field-0 c.args.edge
    (spare_free c.args.self.now c.index-column.result.now c.len.result c.requires.kept (c.len.ensures ∙ c.args.self.now.spare.ok.0) c.requires.spare c.index-column.ensures)
    c.in-Ok.ensures.ok

pub returns-in-Err-clause-kept : goal.returns-in-Err-clause-kept
returns-in-Err-clause-kept c =
    let more : btree_map_len c.insert.new.self ≡ btree_map_len c.args.self.now.names + 1 =
    one_added c.args.self.now.names c.insert.new.self c.args.edge c.in_ok-insert.field-0 c.requires.edge c.in_ok-insert.ensures.old c.in_ok-insert.ensures.len in
    let less : btree_map_len c.remove.new.self + 1 ≡ btree_map_len c.insert.new.self =
    one_less c.insert.new.self c.remove.new.self c.args.edge c.remove.result c.index-column.result.now c.in_ok-insert.ensures.updates.1 c.remove.ensures.value c.remove.ensures.len in
    kept_back c.args.self.now c.add.new.self c.index-column.result.now c.args.edge c.remove.new.self c.requires.kept
    (spare_free c.args.self.now c.index-column.result.now c.len.result c.requires.kept (c.len.ensures ∙ c.args.self.now.spare.ok.0) c.requires.spare c.index-column.ensures).1
    (back_names c.args.self.now.names c.insert.new.self c.remove.new.self c.args.edge c.index-column.result.now c.requires.edge c.in_ok-insert.ensures.updates c.remove.ensures.updates)
    (omega (arith, more, less)) c.in-Err.ensures.err

pub returns-in-Err-clause-err : goal.returns-in-Err-clause-err
returns-in-Err-clause-err c =
    shown_back c.args.self.now c.add.new.self c.index-column.result.now c.args.edge
    (spare_free c.args.self.now c.index-column.result.now c.len.result c.requires.kept (c.len.ensures ∙ c.args.self.now.spare.ok.0) c.requires.spare c.index-column.ensures).1
    c.in-Err.ensures.err
