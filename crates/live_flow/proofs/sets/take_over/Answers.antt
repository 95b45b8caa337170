use Rattle.std.proofs.Common.{arith}
use Rattle.std.proofs.lemmas.List.{get_or_default}
use Rattle.live_flow.specs.Live.{no_row}
use Rattle.live_flow.proofs.Growth.{taken_as, left_as}
use Rattle.live_flow.proofs.sets.take_over.Goals as goal

pub returns-in_ok-push : goal.returns-in_ok-push
returns-in_ok-push c = taken_as c.args.rows.now c.args.set c.args.sets.now c.args.queue.now.items c.push.new.self.items c.args.place _ (omega arith) (get_or_default c.args.rows.now c.args.place no_row c.index-rows-place.result c.requires.place) c.if-grown-old.true c.in_ok-push.ensures.items

pub returns-else-grown-old : goal.returns-else-grown-old
returns-else-grown-old c = left_as c.args.rows.now c.args.set c.args.sets.now c.args.queue.now.items c.args.place _ (get_or_default c.args.rows.now c.args.place no_row c.index-rows-place.result c.requires.place) c.if-grown-old.false
