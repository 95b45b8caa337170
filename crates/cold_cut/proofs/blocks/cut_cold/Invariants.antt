use Rattle.std.proofs.Common.{◌-◌, ◌+◌, ◌<◌, ◌≤◌, ◌^◌}
use Rattle.cold_cut.proofs.ColdReading.{IsRead}
use Rattle.cold_cut.proofs.blocks.cut_cold.Given as goal

abbrev pub invariant-loop-read : goal.invariant-loop-read
invariant-loop-read l = record {
  few : l.read.count ≤ 64;
  fits : l.start + l.read.len < 2 ^ 32;
  read : IsRead l.exe l.start l.read;
}

abbrev pub decreases-loop-read : goal.decreases-loop-read
decreases-loop-read l = 64 - l.read.count
