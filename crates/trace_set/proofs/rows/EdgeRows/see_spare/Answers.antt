use Rattle.std.proofs.Common.{◌≡◌, ℕ, ◌+◌, ◌≤◌, List, [], ◌∷◌, ◌++◌, length, ap, sym, ◌∙◌, subst, arith}
use Rattle.std.specs.Prelude.{vec_len, vec_capacity}
use Rattle.link_table.specs.Table.{Table}
use Rattle.trace_set.proofs.Kept.{Stays, few_columns, kept_room, kept_column, shown_column, popped}
use Rattle.trace_set.proofs.rows.EdgeRows.see_spare.Goals as goal

pub returns-in_err-push-clause-kept : goal.returns-in_err-push-clause-kept
returns-in_err-push-clause-kept c = kept_room c.args.self.now c.push.new.self.items c.reserve.new.self.items (vec_capacity c.reserve.new.self) c.requires.kept c.in_err-push.ensures.items c.in_ok-reserve.ensures.items c.in_ok-reserve.ensures.capacity

pub want_of_memory-requires : goal.want_of_memory-requires
want_of_memory-requires c = few_columns c.args.self.now c.in-Err.error c.requires.kept c.len-ordered.ensures.ordered
    (let o : vec_len c.args.self.now.spare ≡ length c.args.self.now.spare.items = c.args.self.now.spare.ok.0 in let l : c.len.result ≡ vec_len c.args.self.now.spare = c.len.ensures in let f : c.len.result ≤ 0 = c.if-len-gt0.false in omega (arith, o, l, f))
    c.requires.room c.in-Err.ensures.full.0

pub returns-in-Ok-clause-kept : goal.returns-in-Ok-clause-kept
returns-in-Ok-clause-kept c = kept_column c.args.self.now c.fresh_column.new.self c.push.new.self.items c.push_reserved.new.self.items (vec_capacity c.push_reserved.new.self) c.in-Ok.column
    c.requires.kept c.facts.ensures
    (let o : vec_len c.args.self.now.spare ≡ length c.args.self.now.spare.items = c.args.self.now.spare.ok.0 in let l : c.len.result ≡ vec_len c.args.self.now.spare = c.len.ensures in let f : c.len.result ≤ 0 = c.if-len-gt0.false in omega (arith, o, l, f))
    c.in-Ok.ensures.ok c.in_ok-push.ensures.items c.in-Ok.ensures.name
    (c.push_reserved.ensures.items ∙ ap (λ (d : List ℕ). d ++ c.in-Ok.column ∷ []) c.in_ok-reserve.ensures.items)
    (let o : vec_len c.args.self.now.columns ≡ length c.args.self.now.columns.items = c.args.self.now.columns.ok.0 in
    let l : c.len-2.result ≡ vec_len c.args.self.now.columns = c.len-2.ensures in
    let r : vec_len c.reserve.new.self + (c.len-2.result + 1) ≤ vec_capacity c.reserve.new.self = c.in_ok-reserve.ensures.ok in
    let p : vec_capacity c.push_reserved.new.self ≡ vec_capacity c.reserve.new.self = c.push_reserved.ensures.capacity in
    omega (arith, o, l, r, p))

pub returns-in-Ok-clause-rows : goal.returns-in-Ok-clause-rows
returns-in-Ok-clause-rows c = shown_column c.args.self.now c.fresh_column.new.self c.push.new.self.items c.in-Ok.ensures.ok c.in_ok-push.ensures.items

pub returns-in-Err-clause-kept : goal.returns-in-Err-clause-kept
returns-in-Err-clause-kept c =
    subst (λ (d : Table). Stays c.args.self.now d c.pop.new.self.items c.args.self.now.names c.reserve.new.self.items (vec_capacity c.reserve.new.self)) (sym c.in-Err.ensures.err)
    (kept_room c.args.self.now c.pop.new.self.items c.reserve.new.self.items (vec_capacity c.reserve.new.self) c.requires.kept
    (popped c.args.self.now.columns.items c.push.new.self.items c.pop.new.self.items (0, 0) (vec_len c.push.new.self) c.in_ok-push.ensures.items c.push.new.self.ok.0 c.pop.ensures.rest)
    c.in_ok-reserve.ensures.items c.in_ok-reserve.ensures.capacity)
