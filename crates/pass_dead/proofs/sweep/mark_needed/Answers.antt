use Rattle.std.proofs.Common.{true, false, ◌-◌, ◌∙◌, ap, refl, arith}
use Rattle.std.specs.Prelude.{◌||◌}
use Rattle.pass_dead.specs.Names.{vals_of, vals_name, set_of}
use Rattle.pass_dead.proofs.Steps.{sweep_more}
use Rattle.pass_dead.proofs.sweep.mark_needed.Goals as goal

pub loop-index-preserved-then-marks-index : goal.loop-index-preserved-then-marks-index
loop-index-preserved-then-marks-index c =
    sweep_more c.args.lines.now (set_of c.args.marks.now) (c.loop-index.index - 1) c.loop-index.index true c.loop-index.marks _ (omega arith) (omega arith) c.loop-index.invariant c.if-marks-index.true
    (λ j m. c.mark_line.ensures j (omega arith) ∙ ap (λ x. set_of c.loop-index.marks j || vals_name (vals_of x) j) c.line.ensures)

pub loop-index-preserved : goal.loop-index-preserved
loop-index-preserved c = sweep_more c.args.lines.now (set_of c.args.marks.now) (c.loop-index.index - 1) c.loop-index.index false c.loop-index.marks c.loop-index.marks (omega arith) (omega arith) c.loop-index.invariant c.if-marks-index.false (λ j m. refl)
