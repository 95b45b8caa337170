use Rattle.std.proofs.Common.{◌≡◌, drop, length}
use Rattle.block_make.specs.Labels.{closed, offset_in}
use Rattle.block_make.proofs.assembly.close.Given as goal

abbrev pub invariant-loop-local : goal.invariant-loop-local
invariant-loop-local l = record {
  same : closed (offset_in l.labels) (drop l.local-index l.locals) l.bytes ≡ closed (offset_in l.labels) l.locals l.initial.bytes;
  long : length l.bytes ≡ length l.initial.bytes;
}
