use Rattle.std.proofs.Common.{◌≡◌, ℕ, ◌<◌, length, drop}
use Rattle.std.specs.Prelude.{◌||◌}
use Rattle.pass_dead.specs.Names.{outs_name, set_of, has}
use Rattle.pass_dead.proofs.marks.mark_outs.Given as goal

abbrev pub invariant-loop-register : goal.invariant-loop-register
invariant-loop-register l = (j : ℕ) → j < length l.initial.marks → (set_of l.marks j || outs_name (has l.on) l.register (drop l.register l.outs) j) ≡ (set_of l.initial.marks j || outs_name (has l.on) 0 l.outs j)
