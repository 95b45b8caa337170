use Rattle.std.proofs.Common.{◌≡◌, sym, subst, rules, arith}
use Rattle.std.proofs.lemmas.Grind.{common_steps}
use Rattle.block_cut.specs.CountedEdges.{counting}
use Rattle.flow_graph.specs.Graph.{GraphView, AreCutsOf, applied}
use Rattle.flow_graph.specs.BlockRows.{AreKnown}
use Rattle.flow_graph.proofs.Applied.{applies}
use Rattle.flow_graph.proofs.RowsShow.{counted_again}
use Rattle.flow_graph.proofs.KnownCuts.{rows_known}
use Rattle.flow_graph.proofs.graph.Graph.apply.Goals as goal

pub of_counted-requires-clause-counted : goal.of_counted-requires-clause-counted
of_counted-requires-clause-counted c = counted_again c.args.exe.now (applied c.args.added.now c.args.gone.now c.as_slice.result.now) c.in_ok-counted.counted.items c.in_ok-counted.ensures.value

pub of_counted-requires-clause-known : goal.of_counted-requires-clause-known
of_counted-requires-clause-known c =
    let cuts = subst (λ (g : GraphView). AreCutsOf c.args.exe.now g) (sym c.self.view_is) c.requires.cuts in
    subst (AreKnown c.args.exe.now) (sym c.as_slice-2.ensures.value)
    (rows_known c.args.exe.now c.self.inside.edges.items c.self.inside.targets.items c.self.inside.rows.items cuts c.self.invariant)

pub returns-clause-set : goal.returns-clause-set
returns-clause-set c =
    let h : c.drop.inside.edges.items ≡ counting c.args.exe.now (applied c.args.added.now c.args.gone.now c.args.self.now.edges) = first_of (search rules, grind (arith, common_steps)) in
    applies c.sets_hold.ensures c.args.exe.now c.args.self.now.edges c.args.added.now c.args.gone.now c.drop.inside.edges.items c.len.ensures.edges.order h
