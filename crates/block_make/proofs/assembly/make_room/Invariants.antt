use Rattle.std.proofs.Common.{◌≡◌, ℕ, vec_len}
use Rattle.std.specs.Prelude.{slice_get}
use Rattle.block_make.specs.Labels.{noted_or}
use Rattle.block_make.proofs.assembly.make_room.Given as goal

abbrev pub invariant-loop-slot : goal.invariant-loop-slot
invariant-loop-slot l = record {
  kept : (k other : ℕ) → noted_or other (slice_get l.labels.items k) ≡ noted_or other (slice_get l.fn.labels.items k);
  count : vec_len l.labels ≡ l._slot;
}
