use Rattle.std.proofs.Common.{Some, None, refl, sym, ap, arith, length}
use Rattle.flow_graph.proofs.IndexOf.{index_seen}
use Rattle.flow_graph.proofs.graph.Graph.index_of.Goals as goal

pub overflow_cast-result : goal.overflow_cast-result
overflow_cast-result c =
    let here = ((c.in-Some.ensures c.in-Some.index).0 refl).0 in
    let same = ap length c.as_slice.ensures.value in
    let few = c.self.invariant.rows.few in
    omega arith

pub returns-in-Some : goal.returns-in-Some
returns-in-Some c = index_seen c.self.inside.edges.items c.self.inside.targets.items c.self.inside.rows.items c.as_slice.result.now c.args.self.now c.args.start (Some c.in-Some.index) c.as_slice.ensures.value (sym c.self.view_is) c.in-Some.ensures

pub returns-in-None : goal.returns-in-None
returns-in-None c = index_seen c.self.inside.edges.items c.self.inside.targets.items c.self.inside.rows.items c.as_slice.result.now c.args.self.now c.args.start None c.as_slice.ensures.value (sym c.self.view_is) c.in-None.ensures
