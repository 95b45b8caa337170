use Rattle.std.proofs.Common.{take}
use Rattle.live_flow.specs.Growing.{Grows}
use Rattle.live_flow.proofs.sets.hand_on.Given as goal

abbrev pub invariant-loop-place : goal.invariant-loop-place
invariant-loop-place l = Grows l.rows l.set (take l.place-index l.places) l.initial.sets l.sets l.initial.queue.items l.queue.items
