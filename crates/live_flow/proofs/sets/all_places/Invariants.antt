use Rattle.std.proofs.Common.{ℕ, ◌<◌}
use Rattle.live_flow.specs.Live.{IsAmong}
use Rattle.live_flow.proofs.sets.all_places.Given as goal

abbrev pub invariant-loop-place : goal.invariant-loop-place
invariant-loop-place l = record {
  within : (k : ℕ) → IsAmong l.places.items k → k < l.place;
  all : (k : ℕ) → k < l.place → IsAmong l.places.items k;
}
