use Rattle.std.proofs.Common.{◌≡◌, ◌<◌, ◌^◌, length, sym, ap, refl, ◌∙◌, arith, List, rules}
use Rattle.std.proofs.lemmas.Grind.{common_steps}
use Rattle.link_table.proofs.Linked.{table, roomier_shows}
use Rattle.link_table.proofs.Named.{rows_shown, room_for_row, row_shows}
use Rattle.link_table.proofs.links.Links.fresh_row.Goals as goal

pub returns-then-row-clause-full : goal.returns-then-row-clause-full
returns-then-row-clause-full c = let q : c.len-row.result ≡ length c.self.inside.alive.items = search (rules, c.len-row.ensures) in ((λ _. rows_shown c.self.inside.rows c.self.inside.columns c.self.inside.alive.items c.self.inside.values.items c.self.inside.used c.self.inside.live c.args.self.now c.self.view_is c.self.invariant ∙ sym q ∙ c.if-row.true), (λ _. refl))

pub returns-in_err-free_list-clause-full : goal.returns-in_err-free_list-clause-full
returns-in_err-free_list-clause-full c = let q : c.len-row.result ≡ length c.self.inside.alive.items = search (rules, c.len-row.ensures) in let l : length c.args.self.now.rows ≡ c.len-row.result = rows_shown c.self.inside.rows c.self.inside.columns c.self.inside.alive.items c.self.inside.values.items c.self.inside.used c.self.inside.live c.args.self.now c.self.view_is c.self.invariant ∙ sym q in grind (arith, common_steps)

pub returns-in_err-free_list-clause-err : goal.returns-in_err-free_list-clause-err
returns-in_err-free_list-clause-err c = let e : _ = (roomier_shows c.self.inside.rows c.self.inside.columns c.self.inside.alive.items c.self.inside.values.items c.self.inside.used c.self.inside.live c.free_list.new.rows c.free_list.new.columns c.free_list.new.values.items c.self.invariant c.in_err-free_list.ensures.rows c.in_err-free_list.ensures.columns c.in_err-free_list.ensures.values) ∙ c.self.view_is in grind (arith, common_steps, e)

pub new_row-requires-clause-room : goal.new_row-requires-clause-room
new_row-requires-clause-room c = let q : c.len-row.result ≡ length c.self.inside.alive.items = search (rules, c.len-row.ensures) in room_for_row c.free_list.new.rows c.free_list.new.columns c.self.inside.alive.items c.free_list.new.values.items c.free_list.new.used c.self.inside.live c.in_ok-free_list.ensures.linked c.facts.ensures (λ e. c.if-row.false (q ∙ e))

pub overflow_cast-result : goal.overflow_cast-result
overflow_cast-result c = let q : c.len-row.result ≡ length c.self.inside.alive.items = search (rules, c.len-row.ensures) in let r : length c.self.inside.alive.items < 2 ^ 24 = room_for_row c.free_list.new.rows c.free_list.new.columns c.self.inside.alive.items c.free_list.new.values.items c.free_list.new.used c.self.inside.live c.in_ok-free_list.ensures.linked c.facts.ensures (λ e. c.if-row.false (q ∙ e)) in grind (arith, common_steps)

pub returns-in_err-new_row-clause-full : goal.returns-in_err-new_row-clause-full
returns-in_err-new_row-clause-full c = let q : c.len-row.result ≡ length c.self.inside.alive.items = search (rules, c.len-row.ensures) in let l : length c.args.self.now.rows ≡ c.len-row.result = rows_shown c.self.inside.rows c.self.inside.columns c.self.inside.alive.items c.self.inside.values.items c.self.inside.used c.self.inside.live c.args.self.now c.self.view_is c.self.invariant ∙ sym q in grind (arith, common_steps)

pub returns-in_err-new_row-clause-err : goal.returns-in_err-new_row-clause-err
returns-in_err-new_row-clause-err c =
    let e : table c.new_row.new.rows c.new_row.new.columns c.new_row.new.alive.items c.new_row.new.values.items ≡ c.args.self.now = ap (λ (a : List _). table c.new_row.new.rows c.new_row.new.columns a c.new_row.new.values.items) c.in_err-new_row.ensures.alive_stays ∙ roomier_shows c.free_list.new.rows c.free_list.new.columns c.self.inside.alive.items c.free_list.new.values.items c.free_list.new.used c.self.inside.live c.new_row.new.rows c.new_row.new.columns c.new_row.new.values.items c.in_ok-free_list.ensures.linked c.in_err-new_row.ensures.rows_stay c.in_err-new_row.ensures.columns c.in_err-new_row.ensures.values ∙ (roomier_shows c.self.inside.rows c.self.inside.columns c.self.inside.alive.items c.self.inside.values.items c.self.inside.used c.self.inside.live c.free_list.new.rows c.free_list.new.columns c.free_list.new.values.items c.self.invariant c.in_ok-free_list.ensures.rows c.in_ok-free_list.ensures.columns c.in_ok-free_list.ensures.values) ∙ c.self.view_is in grind (arith, common_steps, e)

pub returns-clause-full : goal.returns-clause-full
returns-clause-full c = let q : c.len-row.result ≡ length c.self.inside.alive.items = search (rules, c.len-row.ensures) in ((λ z. absurd z), (λ e. c.if-row.false (q ∙ sym (rows_shown c.self.inside.rows c.self.inside.columns c.self.inside.alive.items c.self.inside.values.items c.self.inside.used c.self.inside.live c.args.self.now c.self.view_is c.self.invariant) ∙ e)))

pub returns-clause-name : goal.returns-clause-name
returns-clause-name c = let q : c.len-row.result ≡ length c.self.inside.alive.items = search (rules, c.len-row.ensures) in q ∙ sym (rows_shown c.self.inside.rows c.self.inside.columns c.self.inside.alive.items c.self.inside.values.items c.self.inside.used c.self.inside.live c.args.self.now c.self.view_is c.self.invariant)

pub returns-clause-ok : goal.returns-clause-ok
returns-clause-ok c = row_shows c.free_list.new.rows c.free_list.new.columns c.new_row.new.rows c.new_row.new.columns c.self.inside.alive.items c.new_row.new.alive.items c.new_row.new.values.items c.args.self.now
    (roomier_shows c.free_list.new.rows c.free_list.new.columns c.self.inside.alive.items c.free_list.new.values.items c.free_list.new.used c.self.inside.live c.free_list.new.rows c.free_list.new.columns c.new_row.new.values.items c.in_ok-free_list.ensures.linked refl refl c.in_ok-new_row.ensures.values ∙ (roomier_shows c.self.inside.rows c.self.inside.columns c.self.inside.alive.items c.self.inside.values.items c.self.inside.used c.self.inside.live c.free_list.new.rows c.free_list.new.columns c.free_list.new.values.items c.self.invariant c.in_ok-free_list.ensures.rows c.in_ok-free_list.ensures.columns c.in_ok-free_list.ensures.values) ∙ c.self.view_is)
    c.in_ok-new_row.ensures.rows c.in_ok-new_row.ensures.columns c.in_ok-new_row.ensures.alive
