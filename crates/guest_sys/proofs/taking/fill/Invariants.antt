use Rattle.std.proofs.Common.{◌≡◌, ◌≤◌, ◌-◌, ℕ, true, List, length, is_some}
use Rattle.br_word.specs.Memory.{bytes_at, Writes}
use Rattle.guest_sys.specs.Parts.{HasFilled}
use Rattle.guest_sys.proofs.TakenBytes.{HasTaken}
use Rattle.guest_sys.proofs.taking.fill.Given as goal

abbrev pub invariant-loop-done : goal.invariant-loop-done
invariant-loop-done g l = record {
  within : l.done ≤ l.len;
  bytes : List ℕ;
  long : length bytes ≡ l.done;
  filled : HasFilled l.at bytes l.initial.m l.m;
  writable : is_some (bytes_at Writes l.at l.len l.m.regions) ≡ true;
  taken : HasTaken bytes (g.I.Source.seen l.initial.input) (g.I.Source.seen l.input);
  idle : l.len ≡ 0 → g.I.Source.seen l.input ≡ g.I.Source.seen l.initial.input;
}

abbrev pub decreases-loop-done : goal.decreases-loop-done
decreases-loop-done g l = l.len - l.done
