use Rattle.live_flow.proofs.Linking.{links_none, links_more}
use Rattle.live_flow.proofs.links.links_of.Goals as goal

pub loop-place-init : goal.loop-place-init
loop-place-init c = links_none c.args.rows.now c.in_ok-links.links.items c.in_ok-links.ensures.length c.in_ok-links.ensures.empty

pub loop-place-preserved : goal.loop-place-preserved
loop-place-preserved c = links_more c.args.rows.now c.loop-place.place c.loop-place.links.items c.add_row.new.links.items c.in_ok-add_row.ensures c.loop-place.invariant
