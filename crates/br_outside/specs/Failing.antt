-- Calls that fail by a list of their numbers.
use Rattle.std.specs.Prelude.{◌≤◌, ◌+◌, ◌-◌, ◌^◌, ℕ, min, Bool, cond, Contains}
use Rattle.br_outside.specs.declared.failing.Failing.{Failing}

-- a count that rises by one, and stands at its greatest value
abbrev pub risen : ℕ → ℕ
risen n = min (n + 1) (2 ^ 64 - 1)

-- the next call is to fail: its number, from 1, is listed and at most 4294967295
abbrev pub NextFails : Failing → Type 0
NextFails f = Contains f.numbers.items (risen f.calls) × (risen f.calls ≤ 4294967295)

-- with one more fault
abbrev pub after_fault : Failing → Failing
after_fault f = record f { faults = risen f.faults }

-- with one more call, which failed or did not
abbrev pub after_call : Failing → Bool → Failing
after_call f failed = record f { calls = risen f.calls; faults = cond failed (risen f.faults) f.faults }
