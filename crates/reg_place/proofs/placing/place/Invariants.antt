use Rattle.std.proofs.Common.{◌≡◌, ◌≤◌, length, vec_len}
use Rattle.reg_place.proofs.Steps.{Goes}
use Rattle.reg_place.proofs.placing.place.Given as goal

abbrev pub invariant-loop-at : goal.invariant-loop-at
invariant-loop-at l = record {
  len : vec_len l.places ≡ length l.b.lines;
  few : vec_len l.busy ≤ l.at;
  now : Goes l.b l.s l.at l.busy.items l.places.items;
}
