use Rattle.std.proofs.Common.{◌≡◌, ◌-◌, ◌++◌}
use Rattle.demo_gen.specs.Demonstration.{calls_code}
use Rattle.demo_gen.proofs.generate.push_calls.Given as goal

-- the calls that are left
abbrev pub invariant-loop-index : goal.invariant-loop-index
invariant-loop-index l = l.out.items ++ calls_code l.count l.index (l.count - l.index) ≡ l.fn.out.items ++ calls_code l.count 0 l.count
