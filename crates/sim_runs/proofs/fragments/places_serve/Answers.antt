use Rattle.sim_runs.proofs.PlacedLines.{places_serve}
use Rattle.sim_runs.proofs.fragments.places_serve.Goals as goal

pub returns : goal.returns
returns c =
    let p = c.lines_placed.ensures in
    places_serve p.first p.lost p.each p.entries c.places_lie.ensures.places c.places_lie.ensures.homes
