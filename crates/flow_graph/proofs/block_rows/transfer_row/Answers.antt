use Rattle.flow_graph.proofs.RowsShow.{run_made}
use Rattle.flow_graph.proofs.block_rows.transfer_row.Goals as goal

pub returns : goal.returns
returns c =
    let a = c.first_at.ensures in
    let b = c.first_at-2.ensures in
    run_made c.args.counted.now c.args.start c.args.cut c.first_at.result c.first_at-2.result a.within b.within a.below a.from b.below b.from
