use Rattle.link_table.proofs.Named.{crossed}
use Rattle.link_table.proofs.links.Links.facts.Goals as goal

pub returns : goal.returns
returns c = crossed c.self.inside.rows c.self.inside.columns c.self.inside.alive.items c.self.inside.values.items c.self.inside.used c.self.inside.live c.args.self.now c.self.view_is c.self.invariant c.facts.ensures c.facts-2.ensures
