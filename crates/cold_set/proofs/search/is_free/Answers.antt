use Rattle.std.proofs.Common.{sym, ◌∙◌}
use Rattle.cold_set.proofs.Leading.{free_is}
use Rattle.cold_set.proofs.search.is_free.Goals as goal

pub returns-then-in_exec : goal.returns-then-in_exec
returns-then-in_exec c =
    free_is c.args.exe.now c.args.graph.now.nodes c.args.address c.index_of.result c.is_none.result (sym c.in_exec.ensures ∙ c.if-in_exec.true) c.index_of.ensures c.is_none.ensures
