use Rattle.std.proofs.Common.{ℕ, List, map, string_bytes}
use Rattle.elf_read.specs.declared.exe.Exe.{Exe}
use Rattle.trace_file.specs.Edges.{Edge, union_of}
use Rattle.flow_graph.specs.GraphOf.{graph_of}
use Rattle.top_plan.specs.World.{world}
use Rattle.top_plan.specs.Plan.{Plan}
use Rattle.top_plan.specs.Parts.{checked}
use Rattle.top_graph.specs.ShowPlan.{limited_graph, listing_part}
use Rattle.top_files.specs.TracesPart.{traces_part}
use Rattle.top_files.specs.declared.original.Subject.{Subject}
use Rattle.top_plan.proofs.Passes.{passes, refuses_or_runs_out}
use Rattle.top_plan.proofs.Outcomes.{ends_on}
use Rattle.top_graph.proofs.show.show_command.Goals as goal

-- what comes behind the traces, and behind the original
abbrev graph_behind : Exe → List (List Edge) → Plan
graph_behind exe traces = checked (limited_graph (graph_of exe (union_of traces))) (listing_part exe)

abbrev behind : List (List ℕ) → Subject → Plan
behind names subject = traces_part subject.digest names 2 0 (graph_behind subject.exe)

pub graph_of-requires-clause-guest : goal.graph_of-requires-clause-guest
graph_of-requires-clause-guest g c = c.in_ok-subject.ensures.guest

pub print_graph-requires-clause-guest : goal.print_graph-requires-clause-guest
print_graph-requires-clause-guest g c = c.in_ok-subject.ensures.guest

pub returns-in_err-subject : goal.returns-in_err-subject
returns-in_err-subject g c i r =
    let w = world (g.F.Shelf.seen c.args.shelf.now) i (g.O.Sink.seen c.args.out.now) r in
    ends_on _ _ _ _ c.from_residual.result (c.in_err-subject.ensures.goes w (behind (map string_bytes c.args.names.now))) c.from_residual.ensures.1

pub returns-in_err-traces : goal.returns-in_err-traces
returns-in_err-traces g c i r =
    let w = world (g.F.Shelf.seen c.args.shelf.now) i (g.O.Sink.seen c.args.out.now) r in
    ends_on _ _ _ _ c.from_residual-in_err-traces.result
    (c.in_ok-subject.ensures.goes w (behind (map string_bytes c.args.names.now)) _ _
    (c.in_err-traces.ensures.goes w (graph_behind c.in_ok-subject.subject.exe))) c.from_residual-in_err-traces.ensures.1

pub returns-in_err-graph : goal.returns-in_err-graph
returns-in_err-graph g c i r =
    let w = world (g.F.Shelf.seen c.args.shelf.now) i (g.O.Sink.seen c.args.out.now) r in
    ends_on _ _ _ _ c.from_residual-in_err-graph.result
    (c.in_ok-subject.ensures.goes w (behind (map string_bytes c.args.names.now)) _ _
    (c.in_ok-traces.ensures.goes w (graph_behind c.in_ok-subject.subject.exe) _ _
    (refuses_or_runs_out _ _ _ _ c.in_err-graph.ensures.graph))) c.from_residual-in_err-graph.ensures.1

pub returns : goal.returns
returns g c i r =
    let w = world (g.F.Shelf.seen c.args.shelf.now) i (g.O.Sink.seen c.args.out.now) r in
    let v = world (g.F.Shelf.seen c.fetch_traces.new.shelf) i (g.O.Sink.seen c.args.out.now) r in
    c.in_ok-subject.ensures.goes w (behind (map string_bytes c.args.names.now)) _ _
    (c.in_ok-traces.ensures.goes w (graph_behind c.in_ok-subject.subject.exe) _ _
    (passes (limited_graph (graph_of c.in_ok-subject.subject.exe (union_of c.in_ok-traces.traces.items))) _ (listing_part c.in_ok-subject.subject.exe) _ _ _ c.in_ok-graph.ensures.graph (c.print_graph.ensures v)))
