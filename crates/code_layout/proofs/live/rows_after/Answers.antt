use Rattle.std.proofs.Common.{arith}
use Rattle.code_layout.proofs.LiveRows.{all_are_rows}
use Rattle.code_layout.proofs.live.rows_after.Goals as goal

pub returns-clause-each : goal.returns-clause-each
returns-clause-each c =
    all_are_rows c.args.exe.now c.args.graph.now.nodes c.loop-index.rows.items c.loop-index.index
    (omega (arith, c.loop-index-test.false, c.len-index-end.ensures.value)) c.loop-index.invariant.rows
