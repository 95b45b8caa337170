use Rattle.std.proofs.Common.{◌≡◌, ◌+◌, ◌-◌, ◌^◌, min, length, take, string_bytes}
use Rattle.std.specs.Prelude.{sum_by}
use Rattle.guest_run.proofs.arguments.args_fit.Given as goal

abbrev pub invariant-loop-arg : goal.invariant-loop-arg
invariant-loop-arg l = l.total ≡ min (6 + sum_by (λ a. length (string_bytes a) + 1) (take l.arg-index l.args)) (2 ^ 64 - 1)
