use Rattle.std.proofs.Common.{sym, ap, ◌∙◌, arith}
use Rattle.trace_file.specs.Edges.{before}
use Rattle.trace_file.proofs.Sorted.{edge}
use Rattle.trace_file.proofs.Search.{lower_half, upper_half, answer_there, answer_none}
use Rattle.trace_file.proofs.edges.Edges.has.Goals as goal

pub loop-low-preserved-then-is_before : goal.loop-low-preserved-then-is_before
loop-low-preserved-then-is_before c =
    lower_half _ (edge c.args.site c.args.target) _ _ _ c.index.result.now c.self.invariant c.loop-low.invariant (omega arith) (omega arith)
    (ap (λ x. before x (edge c.args.site c.args.target)) (sym c.index.ensures) ∙ sym c.is_before.ensures ∙ c.if-is_before.true)

pub loop-low-preserved : goal.loop-low-preserved
loop-low-preserved c =
    upper_half _ (edge c.args.site c.args.target) _ _ _ c.index.result.now c.self.invariant c.loop-low.invariant (omega arith) (omega arith)
    (ap (λ x. before x (edge c.args.site c.args.target)) (sym c.index.ensures) ∙ sym c.is_before.ensures ∙ c.if-is_before.false)

pub returns-then-low-len : goal.returns-then-low-len
returns-then-low-len c =
    answer_there _ _ (edge c.args.site c.args.target) c.loop-low.low c.loop-low.high _ _ c.self.invariant c.loop-low.invariant (omega arith) (omega arith) c.self.view_is
    c.index-then-low-len.ensures c.is_before-then-low-len.ensures

pub returns-else-low-len : goal.returns-else-low-len
returns-else-low-len c =
    answer_none _ _ (edge c.args.site c.args.target) c.loop-low.low c.loop-low.high _ c.self.invariant c.loop-low.invariant (omega arith) (omega arith) (omega arith) c.self.view_is
