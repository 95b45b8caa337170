use Rattle.std.proofs.Common.{◌≡◌, ℕ, ◌<◌, length, drop}
use Rattle.pass_dead.specs.Names.{set_of}
use Rattle.pass_dead.specs.Needed.{needed_from}
use Rattle.pass_dead.proofs.sweep.mark_needed.Given as goal

abbrev pub invariant-loop-index : goal.invariant-loop-index
invariant-loop-index l = (j : ℕ) → j < length l.lines → set_of l.marks j ≡ needed_from l.index (drop l.index l.lines) (set_of l.initial.marks) j
