use Rattle.demo_laws.proofs.Run as Proved
use Rattle.demo_laws.proofs.laws.demo_runs.Goals as goal

pub returns : goal.returns
returns c =
    let s = c.runs_split.ensures in
    λ count some few. Proved.demo_runs s.state s.edges s.defined count few (c.demo_sites.ensures count some few) (c.demo_accepted.ensures count some few)
