use Rattle.demo_laws.proofs.Graph as Proved
use Rattle.demo_laws.proofs.laws.demo_graph.Goals as goal

pub returns : goal.returns
returns c = λ count some few.
    Proved.is_demo_graph c.one_block.ensures c.one_graph.ensures c.sets_hold.ensures c.edges_count.ensures.run count some few
    (c.demo_accepted.ensures count some few) (c.demo_sites.ensures count some few) (c.demo_runs.ensures count some few)
