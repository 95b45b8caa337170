use Rattle.std.proofs.Common.{◌∙◌, arith}
use Rattle.pass_dead.specs.Names.{has}
use Rattle.pass_dead.proofs.Steps.{needed_same}
use Rattle.stub_sink.proofs.Bodies.{begins, begun}
use Rattle.stub_sink.proofs.parts.mark_body.Goals as goal

pub returns : goal.returns
returns c = λ unknown h j l.
    let b = c.args.b.now in
    c.mark_needed.ensures j l ∙ needed_same b.lines _ (begins (has c.args.live) unknown b)
    (λ k m. begun b (has c.args.live) unknown c.args.marks.now c.mark_always.new.marks c.mark_outs.new.marks c.mark_loads.new.marks c.args.fall.now k (c.requires.none k) (c.mark_always.ensures k (omega arith)) (c.mark_outs.ensures k (omega arith)) (c.mark_loads.ensures k (omega arith)) (h k m)) j l
