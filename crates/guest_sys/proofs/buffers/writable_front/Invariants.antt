use Rattle.std.proofs.Common.{◌≡◌, ◌≢◌, ◌⊎◌, ◌<◌, ◌≤◌, None, ◌-◌}
use Rattle.br_word.specs.Memory.{bytes_at, Writes}
use Rattle.guest_sys.proofs.buffers.writable_front.Given as goal

abbrev pub invariant-loop-high : goal.invariant-loop-high
invariant-loop-high l = record {
  order : l.low ≤ l.high;
  apart : l.low < l.high ⊎ (l.len ≡ 0);
  within : l.high ≤ l.len;
  fits : 0 < l.low → bytes_at Writes l.at l.low l.m.regions ≢ None;
  denied : 0 < l.len → bytes_at Writes l.at l.high l.m.regions ≡ None;
}

abbrev pub decreases-loop-high : goal.decreases-loop-high
decreases-loop-high l = l.high - l.low
