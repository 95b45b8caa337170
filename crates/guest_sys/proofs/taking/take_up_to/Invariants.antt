use Rattle.std.proofs.Common.{◌≡◌, ◌≤◌, ◌-◌, vec_len}
use Rattle.guest_sys.proofs.TakenBytes.{HasTaken}
use Rattle.guest_sys.proofs.taking.take_up_to.Given as goal

abbrev pub invariant-loop-bytes : goal.invariant-loop-bytes
invariant-loop-bytes g l = record {
  within : vec_len l.bytes ≤ l.wanted;
  taken : HasTaken l.bytes.items (g.I.Source.seen l.initial.input) (g.I.Source.seen l.input);
  idle : l.wanted ≡ 0 → g.I.Source.seen l.input ≡ g.I.Source.seen l.initial.input;
}

abbrev pub decreases-loop-bytes : goal.decreases-loop-bytes
decreases-loop-bytes g l = l.wanted - vec_len l.bytes
