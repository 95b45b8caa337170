use Rattle.std.proofs.Common.{◌≡◌, ◌+◌, length, map, drop, string_bytes}
use Rattle.run_model.specs.Opening.{texts, arguments}
use Rattle.guest_run.proofs.opening.first_text.Given as goal

abbrev pub invariant-loop-arg : goal.invariant-loop-arg
invariant-loop-arg l = record {
  left : l.at + length (texts (arguments (map string_bytes l.args))) ≡ 0xC0000000 + length (texts (map string_bytes (drop l.arg-index l.args)));
}
