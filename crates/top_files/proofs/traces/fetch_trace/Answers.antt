use Rattle.trace_file.specs.Trace.{trace}
use Rattle.top_plan.specs.Plan.{Fetches}
use Rattle.top_files.specs.TracesPart.{counted, edges_of_word}
use Rattle.top_plan.proofs.Passes.{goes_checked}
use Rattle.top_files.proofs.traces.fetch_trace.Goals as goal

pub returns-clause-goes : goal.returns-clause-goes
returns-clause-goes g c w = goes_checked (λ es. es) (Fetches c.args.name.now 16777216) (λ bytes. counted c.args.before (edges_of_word c.args.word (trace bytes c.args.digest.now))) c.in_ok-bytes.bytes.items _ _ c.counted_edges.result (c.in_ok-bytes.ensures.goes w) (rw c.as_slice.ensures.value at c.counted_edges.ensures.checks)
