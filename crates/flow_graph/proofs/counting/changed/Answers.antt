use Rattle.std.proofs.Common.{◌≡◌, List, length, ap, subst, ◌∙◌, rules, arith}
use Rattle.std.specs.Prelude.{IfOk}
use Rattle.run_model.specs.Edges.{Edge}
use Rattle.std.proofs.lemmas.Grind.{common_steps}
use Rattle.trace_file.specs.Edges.{merge, without}
use Rattle.block_cut.specs.CountedEdges.{counts, counting}
use Rattle.flow_graph.proofs.Applied.{added_counted}
use Rattle.flow_graph.proofs.RowsShow.{counted_edges, counted_no_more}
use Rattle.flow_graph.proofs.counting.changed.Goals as goal

pub of_list-more-requires : goal.of_list-more-requires
of_list-more-requires c = counted_edges c.args.exe.now c.args.added.now c.in_ok-counting.field-0.items (c.in_ok-counting.ensures ∙ ap (counting c.args.exe.now) c.as_slice.ensures.value) c.as_slice.ensures.edges

pub union-requires : goal.union-requires
union-requires c =
    let room = c.requires.room in
    let rest : length c.in_ok-rest.rest ≡ length (without c.args.gone.now c.args.edges.now) = first_of (search rules, grind (arith, common_steps)) in
    let more : c.of_list-more.result ≡ counting c.args.exe.now c.args.added.now = first_of (search rules, grind (arith, common_steps)) in
    omega (arith, room, rest, counted_no_more c.args.exe.now c.args.added.now c.of_list-more.result more)

pub returns-clause-value : goal.returns-clause-value
returns-clause-value c =
    let more : c.of_list-more.result ≡ counting c.args.exe.now c.args.added.now = first_of (search rules, grind (arith, common_steps)) in
    let rest : c.in_ok-rest.rest ≡ without c.args.gone.now c.args.edges.now = first_of (search rules, grind (arith, common_steps)) in
    let all = c.in_ok-all.ensures.value ∙ ap (λ (es : List Edge). merge es c.in_ok-rest.rest) more ∙ ap (merge (counting c.args.exe.now c.args.added.now)) rest in
    let is = all ∙ added_counted (counts c.args.exe.now) c.args.added.now c.args.gone.now c.args.edges.now c.as_slice.ensures.edges.order c.requires.edges.order c.requires.counted in
    let same : IfOk c.to_vec-2.result (λ v. v.items ≡ c.in_ok-all.all) = first_of (search rules, grind (arith, common_steps)) in
    subst (λ (es : List Edge). IfOk c.to_vec-2.result (λ v. v.items ≡ es)) is same
