use Rattle.std.proofs.Common.{◌-◌, ◌<◌, ◌≤◌, length}
use Rattle.live_flow.specs.Live.{place_of}
use Rattle.live_flow.proofs.links.place_of.Given as goal

abbrev pub invariant-loop-low : goal.invariant-loop-low
invariant-loop-low l = record {
  top : l.high ≤ length l.rows;
  from : l.low ≤ place_of l.rows l.start;
  to : place_of l.rows l.start < l.high;
}

abbrev pub decreases-loop-low : goal.decreases-loop-low
decreases-loop-low l = l.high - l.low
