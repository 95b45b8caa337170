use Rattle.std.proofs.Common.{ap, ◌∙◌}
use Rattle.trace_set.specs.Rows.{shown_rows}
use Rattle.trace_set.specs.Traces.{Traces, count_of, sets_of}
use Rattle.trace_file.proofs.Sorted.{edge}
use Rattle.trace_set.proofs.Held.{counts_are}
use Rattle.trace_set.proofs.set.TraceSet.count.Goals as goal

pub returns : goal.returns
returns c =
    c.count.ensures ∙ counts_are (edge c.args.site c.args.target) c.self.inside.flags.items (shown_rows c.self.inside.rows) c.self.inside.live c.self.inside.pairs c.self.invariant.1
    ∙ ap (λ (t : Traces). count_of (edge c.args.site c.args.target) (sets_of t.traces)) c.self.view_is
