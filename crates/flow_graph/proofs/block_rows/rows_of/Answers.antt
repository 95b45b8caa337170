use Rattle.std.proofs.Common.{arith}
use Rattle.flow_graph.specs.Graph.{known_of}
use Rattle.flow_graph.proofs.RowsShow.{holds_more, room_more, one_more}
use Rattle.flow_graph.proofs.block_rows.rows_of.Goals as goal

pub loop-block-preserved : goal.loop-block-preserved
loop-block-preserved c =
    let i = c.loop-block.invariant in
    let g = c.row_of.ensures.gains in
    record {
      room = let o = c.loop-block.targets.ok.0 in let p = c.row_of.new.targets.ok.0 in let r = i.room in omega (arith, room_more c.loop-block.targets.items c.row_of.new.targets.items g);
      holds = holds_more c.args.counted.now c.loop-block.targets.items _ i.holds g;
      made = one_more c.loop-block.targets.items _ c.args.blocks.now (known_of c.args.exe.now c.args.counted.now) c.loop-block.rows.items _ c.loop-block.block-index (0, _) c.in_ok-row_of.field-0 c.loop-block-test.true i.made g c.in_ok-row_of.ensures.row c.in_ok-push.ensures.items;
    }
