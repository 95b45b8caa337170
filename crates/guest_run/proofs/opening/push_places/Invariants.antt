use Rattle.std.proofs.Common.{◌≡◌, ◌+◌, ◌^◌, ◌<◌, ◌++◌, length, map, drop, string_bytes}
use Rattle.run_model.specs.Opening.{texts, text_places}
use Rattle.guest_run.proofs.opening.push_places.Given as goal

abbrev pub invariant-loop-arg : goal.invariant-loop-arg
invariant-loop-arg l = record {
  text : l.out.items ++ text_places l.at (map string_bytes (drop l.arg-index l.args)) ≡ l.fn.out.items ++ text_places l.start (map string_bytes l.args);
  room : l.at + length (texts (map string_bytes (drop l.arg-index l.args))) < 2 ^ 32;
}
