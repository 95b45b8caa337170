use Rattle.sim_laws.proofs.EdgesCounted.{edge_counts, run_edges_count}
use Rattle.sim_laws.proofs.states.edges_count.Goals as goal

pub returns : goal.returns
returns c = record {
  step = λ exe s n h. edge_counts exe c.goes_by_kind.ensures s n h;
  run = run_edges_count c.goes_by_kind.ensures c.stays_in_code.ensures.run c.stays_in_code.ensures.step;
}
