use Rattle.std.proofs.Common.{◌≡◌, ℕ, ◌<◌, length, drop, get_or}
use Rattle.std.specs.Prelude.{if◌then◌else◌}
use Rattle.ssa_form.specs.Agree.{every}
use Rattle.pass_dead.specs.Names.{outs_name}
use Rattle.reg_place.proofs.uses.mark_outs.Given as goal

abbrev pub invariant-loop-register : goal.invariant-loop-register
invariant-loop-register l = (j : ℕ) → j < length l.initial.last → (if outs_name every l.register (drop l.register l.outs) j then l.position else get_or l.last j 0) ≡ (if outs_name every 0 l.outs j then l.position else get_or l.initial.last j 0)
