use Rattle.std.proofs.Common.{◌≡◌, arith, [], ◌∷◌, ◌++◌}
use Rattle.std.proofs.lemmas.Grind.{common_steps}
use Rattle.link_table.proofs.Named.{row_named}
use Rattle.link_table.proofs.room.new_row.Goals as goal

pub returns-clause-linked : goal.returns-clause-linked
returns-clause-linked c =
    let e : c.push_list.new.self ≡ record c.make_room.new.rows { heads = c.make_room.new.rows.heads ++ c.args.used.now ∷ []; lists = c.make_room.new.rows.lists ++ [] ∷ [] } = grind (arith, common_steps) in
    row_named c.args.rows.now c.args.columns.now c.args.alive.now.items c.args.values.now.items c.args.used.now c.args.live c.make_room.new.rows c.push_list.new.self c.make_room.new.columns c.make_room.new.values.items c.push.new.self.items c.requires.linked c.facts.ensures c.requires.lists c.requires.room c.in_ok-make_room.ensures.rows c.in_ok-make_room.ensures.columns c.in_ok-make_room.ensures.row_slot c.in_ok-make_room.ensures.column_slot c.in_ok-make_room.ensures.value_slot e c.in_ok-push.ensures.items
