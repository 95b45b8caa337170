use Rattle.session_core.proofs.Follow.{nodes_are}
use Rattle.session_core.proofs.graphs.follow.Goals as goal

pub rows_after-requires-clause-graph : goal.rows_after-requires-clause-graph
rows_after-requires-clause-graph c =
    let last = c.change.new.caches.last in
    (last, nodes_are c.one_graph.ensures c.args.exe.now last c.change.new.caches.graph c.requires.guest c.change.ensures.after)
