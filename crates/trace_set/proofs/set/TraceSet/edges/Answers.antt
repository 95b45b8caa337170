use Rattle.std.proofs.Common.{◌≡◌, ◌<◌, ap, ◌∙◌}
use Rattle.trace_file.specs.Edges.{IsSetOf, union_of}
use Rattle.trace_set.specs.Rows.{shown_rows, uses_in}
use Rattle.trace_set.specs.Traces.{Traces, sets_of}
use Rattle.trace_set.proofs.Held.{if_ok, union_is}
use Rattle.trace_set.proofs.set.TraceSet.edges.Goals as goal

pub returns-clause-value : goal.returns-clause-value
returns-clause-value c =
    if_ok (IsSetOf (λ e. 0 < uses_in e (shown_rows c.self.inside.rows))) (λ all. all ≡ union_of (sets_of c.args.self.now.traces)) c.edges.result
    (λ made s. union_is c.self.inside.flags.items (shown_rows c.self.inside.rows) c.self.inside.live c.self.inside.pairs made c.self.invariant.1 s ∙ ap (λ (t : Traces). union_of (sets_of t.traces)) c.self.view_is)
    c.edges.ensures.value
