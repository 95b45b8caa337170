use Rattle.std.proofs.Common.{◌≡◌, ◌-◌, ◌++◌}
use Rattle.demo_gen.specs.Demonstration.{functions_code}
use Rattle.demo_gen.proofs.generate.push_functions.Given as goal

-- the functions that are left
abbrev pub invariant-loop-function : goal.invariant-loop-function
invariant-loop-function l = l.out.items ++ functions_code l.number (l.count - l._function) ≡ l.fn.out.items ++ functions_code l.count l.count
