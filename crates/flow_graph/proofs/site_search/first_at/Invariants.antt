use Rattle.std.proofs.Common.{ℕ, ◌-◌, ◌<◌, ◌≤◌, length, get_or}
use Rattle.flow_graph.proofs.site_search.first_at.Given as goal

abbrev pub invariant-loop-low : goal.invariant-loop-low
invariant-loop-low l = record {
  order : l.low ≤ l.high;
  top : l.high ≤ length l.edges;
  below : (k : ℕ) → k < l.low → (get_or l.edges k (0, 0)).0 < l.site;
  from : (k : ℕ) → l.high ≤ k → k < length l.edges → l.site ≤ (get_or l.edges k (0, 0)).0;
}

abbrev pub decreases-loop-low : goal.decreases-loop-low
decreases-loop-low l = l.high - l.low
