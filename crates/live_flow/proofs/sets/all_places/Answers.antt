use Rattle.live_flow.proofs.Among.{within_more, all_more}
use Rattle.live_flow.proofs.sets.all_places.Goals as goal

pub loop-place-preserved : goal.loop-place-preserved
loop-place-preserved c =
    let q = c.in_ok-push.ensures in
    record {
      within = within_more c.loop-place.places.items _ c.loop-place.place q.items c.loop-place.invariant.within;
      all = all_more c.loop-place.places.items _ c.loop-place.place q.items c.loop-place.invariant.all;
    }
