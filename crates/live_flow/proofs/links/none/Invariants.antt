use Rattle.std.proofs.Common.{◌≡◌, ℕ, [], length, get_or}
use Rattle.live_flow.proofs.links.none.Given as goal

abbrev pub invariant-loop : goal.invariant-loop
invariant-loop l = record {
  count : length l.links.items ≡ l.counter;
  empty : (i : ℕ) → get_or l.links.items i [] ≡ [];
}
