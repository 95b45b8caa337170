use Rattle.flow_graph.proofs.RowsShow.{counted_again}
use Rattle.session_core.proofs.Follow.{fits, is_new, too_many}
use Rattle.session_core.proofs.graphs.change.Goals as goal

pub apply-requires-clause-counted : goal.apply-requires-clause-counted
apply-requires-clause-counted c = counted_again c.args.exe.now c.args.caches.now.last c.args.caches.now.graph.edges c.requires.before.edges

pub apply-requires-clause-room : goal.apply-requires-clause-room
apply-requires-clause-room c =
    fits c.sets_hold.ensures c.args.exe.now c.args.edges c.args.caches.now.last c.in_ok-added.added c.in_ok-gone.gone c.args.caches.now.graph c.requires.before
    c.len-in_order.ensures.edges c.len-were_in_order.ensures.edges c.in_ok-added.ensures.value c.in_ok-gone.ensures.value

pub returns-in-Ok-clause-after : goal.returns-in-Ok-clause-after
returns-in-Ok-clause-after c =
    is_new c.sets_hold.ensures c.args.exe.now c.args.edges c.args.caches.now.last c.in_ok-added.added c.in_ok-gone.gone c.args.caches.now.graph c.requires.before
    c.len-in_order.ensures.edges c.len-were_in_order.ensures.edges c.in_ok-added.ensures.value c.in_ok-gone.ensures.value
    c.apply.new.self c.in-Ok.ensures.edges c.in-Ok.ensures.graph c.in-Ok.ensures.cuts

pub returns-in-Err-Blocks-clause-blocks : goal.returns-in-Err-Blocks-clause-blocks
returns-in-Err-Blocks-clause-blocks c = λ e.
    too_many c.sets_hold.ensures c.args.exe.now c.args.edges c.args.caches.now.last c.in_ok-added.added c.in_ok-gone.gone c.args.caches.now.graph c.requires.before
    c.len-in_order.ensures.edges c.len-were_in_order.ensures.edges c.in_ok-added.ensures.value c.in_ok-gone.ensures.value
    c.one_graph.ensures c.requires.guest (c.in-Err-Blocks.ensures.many c.in-Err-Blocks.field-0-is)
