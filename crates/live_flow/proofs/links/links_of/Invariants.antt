use Rattle.live_flow.specs.Links.{LinksBelow}
use Rattle.live_flow.proofs.links.links_of.Given as goal

abbrev pub invariant-loop-place : goal.invariant-loop-place
invariant-loop-place l = LinksBelow l.rows l.place l.links.items
