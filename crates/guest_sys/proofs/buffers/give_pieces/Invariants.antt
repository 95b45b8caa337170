use Rattle.std.proofs.Common.{◌≡◌, ◌≤◌, ◌-◌, ℕ, List, take, Some}
use Rattle.br_word.specs.Memory.{bytes_at, Reads}
use Rattle.br_outside.specs.Streams.{Gains}
use Rattle.guest_sys.proofs.buffers.give_pieces.Given as goal

abbrev pub invariant-loop-done : goal.invariant-loop-done
invariant-loop-done g l = record {
  within : l.done ≤ l.len;
  bytes : List ℕ;
  is : bytes_at Reads l.at l.len l.m.regions ≡ Some bytes;
  given : Gains (take l.done bytes) (g.S.Sink.seen l.initial.sink) (g.S.Sink.seen l.sink);
}

abbrev pub decreases-loop-done : goal.decreases-loop-done
decreases-loop-done g l = l.len - l.done
