use Rattle.std.proofs.Common.{◌≡◌, ◌++◌, map, drop, string_bytes}
use Rattle.run_model.specs.Opening.{texts}
use Rattle.guest_run.proofs.opening.push_texts.Given as goal

abbrev pub invariant-loop-arg : goal.invariant-loop-arg
invariant-loop-arg l = l.out.items ++ texts (map string_bytes (drop l.arg-index l.args)) ≡ l.fn.out.items ++ texts (map string_bytes l.args)
