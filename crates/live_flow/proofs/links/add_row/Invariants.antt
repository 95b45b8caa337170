use Rattle.std.proofs.Common.{map, take}
use Rattle.live_flow.specs.Live.{row_at, place_of}
use Rattle.live_flow.specs.Links.{AddsLinks}
use Rattle.live_flow.proofs.links.add_row.Given as goal

abbrev pub invariant-loop-start : goal.invariant-loop-start
invariant-loop-start l = AddsLinks (map (place_of l.rows) (take l.start-index (row_at l.rows l.place).next)) l.place l.initial.links.items l.links.items
