use Rattle.std.proofs.Common.{◌+◌, ◌≤◌, sym, arith}
use Rattle.link_table.specs.Circles.{times, times_in}
use Rattle.link_table.proofs.Shown.{first_free, free_apart}
use Rattle.link_table.proofs.Linked.{freed_node}
use Rattle.link_table.proofs.room.free_node.Goals as goal

pub returns-in-Some-clause-node : goal.returns-in-Some-clause-node
returns-in-Some-clause-node c = (first_free c.args.rows.now.lists c.in-Some.node (sym c.in-Some.ensures), free_apart c.args.rows.now.lists c.in-Some.node (sym c.in-Some.ensures) (let o : times c.in-Some.node c.args.rows.now.heads + times_in c.in-Some.node c.args.rows.now.lists ≤ 1 = c.facts.ensures.once c.in-Some.node in omega (arith, o)))

pub returns-clause-node : goal.returns-clause-node
returns-clause-node c = freed_node c.args.rows.now c.args.columns.now c.args.alive.now.items c.args.values.now.items c.args.used.now c.args.live c.make_room.new.rows c.put_last.new.self c.requires.linked c.requires.lists c.in_ok-make_room.ensures.rows c.put_last.ensures
