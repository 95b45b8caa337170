use Rattle.std.proofs.Common.{◌≡◌, length, sym, ap, refl, ◌∙◌, arith}
use Rattle.std.proofs.lemmas.Grind.{common_steps}
use Rattle.link_table.specs.Circles.{Family}
use Rattle.link_table.specs.Table.{row_lists}
use Rattle.link_table.proofs.Linked.{roomier_shows}
use Rattle.link_table.proofs.Named.{columns_shown, room_for_column, column_shows, column_named}
use Rattle.link_table.proofs.links.Links.fresh_column.Goals as goal

pub returns-then-column-clause-full : goal.returns-then-column-clause-full
returns-then-column-clause-full c = ((λ _. columns_shown c.self.inside.rows c.self.inside.columns c.self.inside.alive.items c.self.inside.values.items c.args.self.now c.self.view_is ∙ sym c.lists-column.ensures ∙ c.if-column.true), (λ _. refl))

pub returns-in_err-make_room-clause-full : goal.returns-in_err-make_room-clause-full
returns-in_err-make_room-clause-full c = let l : length c.args.self.now.columns ≡ c.lists-column.result = columns_shown c.self.inside.rows c.self.inside.columns c.self.inside.alive.items c.self.inside.values.items c.args.self.now c.self.view_is ∙ sym c.lists-column.ensures in grind (arith, common_steps)

pub returns-in_err-make_room-clause-err : goal.returns-in_err-make_room-clause-err
returns-in_err-make_room-clause-err c = let e : _ = roomier_shows c.self.inside.rows c.self.inside.columns c.self.inside.alive.items c.self.inside.values.items c.self.inside.used c.self.inside.live c.make_room.new.rows c.make_room.new.columns c.make_room.new.values.items c.self.invariant (ap row_lists c.in_err-make_room.ensures.rows) (ap (λ (f : Family). f.lists) c.in_err-make_room.ensures.columns) c.in_err-make_room.ensures.values ∙ c.self.view_is in grind (arith, common_steps, e)

pub returns-in_err-push_list-clause-full : goal.returns-in_err-push_list-clause-full
returns-in_err-push_list-clause-full c = let l : length c.args.self.now.columns ≡ c.lists-column.result = columns_shown c.self.inside.rows c.self.inside.columns c.self.inside.alive.items c.self.inside.values.items c.args.self.now c.self.view_is ∙ sym c.lists-column.ensures in grind (arith, common_steps)

pub returns-in_err-push_list-clause-err : goal.returns-in_err-push_list-clause-err
returns-in_err-push_list-clause-err c = let e : _ = roomier_shows c.self.inside.rows c.self.inside.columns c.self.inside.alive.items c.self.inside.values.items c.self.inside.used c.self.inside.live c.make_room.new.rows c.push_list.new.self c.make_room.new.values.items c.self.invariant (ap row_lists c.in_ok-make_room.ensures.rows) (ap (λ (f : Family). f.lists) c.in_err-push_list.ensures.err ∙ (ap (λ (f : Family). f.lists) c.in_ok-make_room.ensures.columns)) c.in_ok-make_room.ensures.values ∙ c.self.view_is in grind (arith, common_steps, e)

pub invariant_of-self-2 : goal.invariant_of-self-2
invariant_of-self-2 c =
    let h : length c.self.inside.columns.lists ≡ length c.self.inside.columns.heads = sym (ap (λ (f : Family). length f.lists) c.in_ok-make_room.ensures.columns) ∙ c.facts.ensures.headed ∙ ap (λ (f : Family). length f.heads) c.in_ok-make_room.ensures.columns in
    column_named c.self.inside.rows c.self.inside.columns c.self.inside.alive.items c.self.inside.values.items c.self.inside.used c.self.inside.live c.make_room.new.rows c.make_room.new.columns c.push_list.new.self c.make_room.new.values.items c.self.invariant c.facts.ensures
    (room_for_column c.self.inside.rows c.self.inside.columns c.self.inside.alive.items c.self.inside.values.items c.self.inside.used c.self.inside.live c.self.invariant h (λ e. c.if-column.false (c.lists-column.ensures ∙ e)))
    c.in_ok-make_room.ensures.rows c.in_ok-make_room.ensures.columns c.in_ok-make_room.ensures.row_slot c.in_ok-make_room.ensures.column_slot c.in_ok-make_room.ensures.value_slot c.in_ok-push_list.ensures.ok

pub returns-clause-full : goal.returns-clause-full
returns-clause-full c = ((λ z. absurd z), (λ e. c.if-column.false (c.lists-column.ensures ∙ sym (columns_shown c.self.inside.rows c.self.inside.columns c.self.inside.alive.items c.self.inside.values.items c.args.self.now c.self.view_is) ∙ e)))

pub returns-clause-name : goal.returns-clause-name
returns-clause-name c = c.lists-column.ensures ∙ sym (columns_shown c.self.inside.rows c.self.inside.columns c.self.inside.alive.items c.self.inside.values.items c.args.self.now c.self.view_is)

pub returns-clause-ok : goal.returns-clause-ok
returns-clause-ok c = column_shows c.make_room.new.rows c.make_room.new.columns c.make_room.new.rows c.push_list.new.self c.self.inside.alive.items c.make_room.new.values.items c.args.self.now
    (roomier_shows c.self.inside.rows c.self.inside.columns c.self.inside.alive.items c.self.inside.values.items c.self.inside.used c.self.inside.live c.make_room.new.rows c.make_room.new.columns c.make_room.new.values.items c.self.invariant (ap row_lists c.in_ok-make_room.ensures.rows) (ap (λ (f : Family). f.lists) c.in_ok-make_room.ensures.columns) c.in_ok-make_room.ensures.values ∙ c.self.view_is)
    refl (ap (λ (f : Family). f.lists) c.in_ok-push_list.ensures.ok)
