use Rattle.std.proofs.Common.{◌≡◌, ◌+◌, ◌≤◌, List, ◌++◌, drop, map, string_bytes}
use Rattle.trace_file.specs.Edges.{Edge, pairs}
use Rattle.top_plan.specs.World.{World, on_shelf}
use Rattle.top_plan.specs.Texts.{WorkEnd}
use Rattle.top_plan.specs.Plan.{Plan, Went}
use Rattle.top_files.specs.TracesPart.{traces_part}
use Rattle.top_files.proofs.traces.fetch_traces.Given as goal

abbrev pub invariant-loop-name : goal.invariant-loop-name
invariant-loop-name g l = record {
  place : l.at ≡ l.word + l.name-index;
  counted : l.count ≡ pairs l.traces.items;
  few : l.count ≤ 16777216;
  goes : (w : World) (next : List (List Edge) → Plan) (o : WorkEnd) (u : World)
      → Went (traces_part l.digest (map string_bytes (drop l.name-index l.names)) l.at l.count (λ rest. next (l.traces.items ++ rest))) (on_shelf w (g.F.Shelf.seen l.shelf)) o u
      → Went (traces_part l.digest (map string_bytes l.names) l.word 0 next) (on_shelf w (g.F.Shelf.seen l.fn.shelf)) o u;
}
