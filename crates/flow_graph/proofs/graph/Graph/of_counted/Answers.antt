use Rattle.std.proofs.Common.{◌≤◌, List, ℕ, length, sym, ap, subst, ◌∙◌, arith}
use Rattle.std.specs.Prelude.{All, IsTrue}
use Rattle.std.proofs.lemmas.List.{length-map}
use Rattle.elf_read.specs.Elf.{is_exec}
use Rattle.block_cut.specs.declared.ends.Cut.{Cut}
use Rattle.run_model.specs.Edges.{Edge}
use Rattle.trace_file.specs.Edges.{ascends}
use Rattle.flow_graph.specs.Graph.{known_of}
use Rattle.flow_graph.specs.CutStarts.{IsCutBlock}
use Rattle.flow_graph.proofs.RowsShow.{counted_exec, nodes_exec, graph_made, are_cuts, is_kept}
use Rattle.flow_graph.proofs.graph.Graph.of_counted.Goals as goal

pub blocks_of-requires-clause-code : goal.blocks_of-requires-clause-code
blocks_of-requires-clause-code c =
    let P : List Edge → Type 0 = All (λ (e : Edge). IsTrue (is_exec e.1 c.args.exe.now.segments)) in
    subst P (sym c.as_slice.ensures.value) (counted_exec c.args.exe.now c.args.counted.items c.args.counted.items c.requires.counted)

pub rows_of-requires-clause-blocks : goal.rows_of-requires-clause-blocks
rows_of-requires-clause-blocks c =
    let P : List (ℕ × Cut) → Type 0 = All (IsCutBlock c.args.exe.now) in
    subst P (sym c.as_slice-4.ensures.value) c.in-Ok.ensures.cut

pub rows_of-requires-clause-order : goal.rows_of-requires-clause-order
rows_of-requires-clause-order c = ap ascends c.as_slice-3.ensures.value ∙ c.requires.edges.order

pub rows_of-requires-clause-few : goal.rows_of-requires-clause-few
rows_of-requires-clause-few c =
    let counted : length c.args.counted.items ≤ 16777216 = c.requires.edges.count in
    let is = ap length c.as_slice-2.ensures.value in
    let same = ap length c.in_ok-targets.ensures in
    let long = length-map c.as_slice-2.result.now (λ (e : Edge). e.1) in
    let whole = c.in_ok-targets.targets.ok.0 in
    let blocks = c.as_slice-4.ensures.len in
    let few = c.in-Ok.ensures.few in
    omega arith

pub returns-clause-graph : goal.returns-clause-graph
returns-clause-graph c = graph_made c.args.exe.now c.args.counted.items c.as_slice.result.now c.as_slice-3.result.now c.in-Ok.blocks.items c.as_slice-4.result.now _ c.in_ok-rows.rows.items c.as_slice.ensures.value c.as_slice-3.ensures.value c.as_slice-4.ensures.value c.requires.edges.order c.in-Ok.ensures.starts c.in_ok-rows.ensures.rows

pub returns-clause-cuts : goal.returns-clause-cuts
returns-clause-cuts c =
    let P : List (ℕ × Cut) → Type 0 = All (IsCutBlock c.args.exe.now) in
    are_cuts c.args.exe.now c.args.counted.items _ c.as_slice-4.result.now (known_of c.args.exe.now c.as_slice-3.result.now) c.in_ok-rows.rows.items
    (subst P (sym c.as_slice-4.ensures.value) c.in-Ok.ensures.cut)
    c.in_ok-rows.ensures.rows

pub returns-clause-code : goal.returns-clause-code
returns-clause-code c =
    let P : List (ℕ × Cut) → Type 0 = All (IsCutBlock c.args.exe.now) in
    nodes_exec c.args.exe.now _ c.as_slice-4.result.now (known_of c.args.exe.now c.as_slice-3.result.now) c.in_ok-rows.rows.items
    (subst P (sym c.as_slice-4.ensures.value) c.in-Ok.ensures.cut)
    c.in_ok-rows.ensures.rows

pub invariant_of-result : goal.invariant_of-result
invariant_of-result c = is_kept c.args.exe.now c.args.counted.items c.as_slice.result.now c.in-Ok.blocks.items c.as_slice-4.result.now _ (known_of c.args.exe.now c.as_slice-3.result.now) c.in_ok-rows.rows.items c.requires.edges c.as_slice-4.ensures.value (let few = c.in-Ok.ensures.few in let whole = c.in-Ok.blocks.ok.0 in omega arith) c.in-Ok.ensures.starts c.in_ok-rows.ensures.rows
