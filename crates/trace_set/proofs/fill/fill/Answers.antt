use Rattle.std.proofs.Common.{◌≡◌, get_or, take, refl, sym, ◌∙◌}
use Rattle.trace_file.specs.Edges.{Edge}
use Rattle.trace_set.specs.Rows.{shown_rows, put_edge}
use Rattle.trace_set.proofs.Held.{fill_more, fill_room, fill_row, fill_undone, on_err, on_ok}
use Rattle.trace_set.proofs.fill.fill.Goals as goal

pub put-requires-clause-row : goal.put-requires-clause-row
put-requires-clause-row c = fill_row (shown_rows c.args.rows.now) (shown_rows c.loop-edge.rows) c.args.row (take c.loop-edge.edge-index c.args.edges.now) c.requires.row c.loop-edge.invariant.shown

pub put-requires-clause-room : goal.put-requires-clause-room
put-requires-clause-room c = fill_room (shown_rows c.args.rows.now) (shown_rows c.loop-edge.rows) c.args.row c.loop-edge.edge-index c.args.edges.now c.requires.row c.requires.empty c.loop-edge-test.true c.requires.room c.loop-edge.invariant.shown

pub returns-then-is_err-clause-err : goal.returns-then-is_err-clause-err
returns-then-is_err-clause-err c =
    let same : shown_rows c.put.new.self ≡ shown_rows c.loop-edge.rows = on_err c.put.result (shown_rows c.put.new.self ≡ shown_rows c.loop-edge.rows) (sym c.is_err.ensures.value ∙ c.if-is_err.true) c.put.ensures.err in
    fill_undone (shown_rows c.args.rows.now) (shown_rows c.put.new.self) (shown_rows c.clear_row.new.self) c.args.row (take c.loop-edge.edge-index c.args.edges.now) c.requires.row c.requires.empty
    (same ∙ c.loop-edge.invariant.shown) c.clear_row.ensures.rows

pub loop-edge-preserved : goal.loop-edge-preserved
loop-edge-preserved c =
    let e : Edge = get_or c.args.edges.now c.loop-edge.edge-index (0, 0) in
    let p : shown_rows c.put.new.self ≡ put_edge (shown_rows c.loop-edge.rows) c.args.row e = on_ok c.put.result (shown_rows c.put.new.self ≡ put_edge (shown_rows c.loop-edge.rows) c.args.row e) (sym c.is_err.ensures.value ∙ c.if-is_err.false) c.put.ensures.ok in
    record {
      kept = c.put.ensures.kept;
      shown = fill_more (shown_rows c.args.rows.now) (shown_rows c.loop-edge.rows) (shown_rows c.put.new.self) c.args.row c.loop-edge.edge-index c.args.edges.now e (0, 0) c.requires.row c.loop-edge-test.true c.loop-edge.invariant.shown refl p;
    }
