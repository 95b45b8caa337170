use Rattle.std.proofs.Common.{◌≡◌, ◌+◌, ◌<◌, List, [], length, get_or, set, ap, sym, ◌∙◌, arith}
use Rattle.trace_file.specs.Edges.{Edge}
use Rattle.trace_set.specs.Rows.{shown_rows, behead}
use Rattle.trace_set.proofs.Tables.{length-behead}
use Rattle.trace_set.proofs.Kept.{behead_none}
use Rattle.trace_set.proofs.Held.{shorter, set-behead, set_same}
use Rattle.trace_set.proofs.rows.EdgeRows.clear_row.Goals as goal

pub loop-steps-smaller : goal.loop-steps-smaller
loop-steps-smaller g c =
    let a : length (get_or (behead (shown_rows c.loop-steps.self) c.args.row) c.args.row []) + 1 ≡ length (get_or (shown_rows c.loop-steps.self) c.args.row []) = shorter (shown_rows c.loop-steps.self) c.args.row (c.take_first.ensures.some c.loop-steps-test.true) in
    let b : length (get_or (shown_rows c.take_first.new.self) c.args.row []) ≡ length (get_or (behead (shown_rows c.loop-steps.self) c.args.row) c.args.row []) = ap (λ (d : List (List Edge)). length (get_or d c.args.row [])) c.take_first.ensures.rows in
    omega (arith, a, b)

pub loop-steps-preserved : goal.loop-steps-preserved
loop-steps-preserved g c =
    let a : length (get_or (behead (shown_rows c.loop-steps.self) c.args.row) c.args.row []) + 1 ≡ length (get_or (shown_rows c.loop-steps.self) c.args.row []) = shorter (shown_rows c.loop-steps.self) c.args.row (c.take_first.ensures.some c.loop-steps-test.true) in
    let b : length (get_or (shown_rows c.take_first.new.self) c.args.row []) ≡ length (get_or (behead (shown_rows c.loop-steps.self) c.args.row) c.args.row []) = ap (λ (d : List (List Edge)). length (get_or d c.args.row [])) c.take_first.ensures.rows in
    let l : length (shown_rows c.take_first.new.self) ≡ length (shown_rows c.loop-steps.self) = ap length c.take_first.ensures.rows ∙ length-behead (shown_rows c.loop-steps.self) c.args.row in
    let i = c.loop-steps.invariant in
    let i1 : c.args.row < length (shown_rows c.loop-steps.self) = i.inside in
    let i2 : c.loop-steps.count + length (get_or (shown_rows c.loop-steps.self) c.args.row []) ≡ length (get_or (shown_rows c.args.self.now) c.args.row []) = i.counted in
    let i3 : c.loop-steps.steps ≡ c.args.steps.now + c.loop-steps.count = i.ticked in
    let t : c.tick.new.self ≡ c.loop-steps.steps + 1 = c.tick.ensures in
    record {
      kept = c.take_first.ensures.kept;
      inside = omega (arith, l, i1);
      rows = ap (λ (d : List (List Edge)). set d c.args.row []) c.take_first.ensures.rows ∙ set-behead (shown_rows c.loop-steps.self) c.args.row ∙ i.rows;
      counted = omega (arith, a, b, i2);
      ticked = omega (arith, i3, t);
    }

pub returns-clause-rows : goal.returns-clause-rows
returns-clause-rows g c =
    let none : get_or (shown_rows c.loop-steps.self) c.args.row [] ≡ [] = c.take_first.ensures.none c.loop-steps-test.false in
    c.take_first.ensures.rows ∙ sym (behead_none (shown_rows c.loop-steps.self) c.args.row none)
    ∙ sym (set_same (shown_rows c.loop-steps.self) c.args.row [] none c.loop-steps.invariant.inside) ∙ c.loop-steps.invariant.rows
