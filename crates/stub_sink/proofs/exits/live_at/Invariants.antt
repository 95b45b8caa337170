use Rattle.std.proofs.Common.{◌≡◌, ℕ, drop}
use Rattle.std.specs.Prelude.{◌||◌}
use Rattle.pass_dead.specs.Names.{has}
use Rattle.stub_sink.specs.Splits.{live_at}
use Rattle.stub_sink.proofs.exits.live_at.Given as goal

abbrev pub invariant-loop-exit : goal.invariant-loop-exit
invariant-loop-exit l = (v : ℕ) → (has l.live v || live_at (drop l.exit-index l.exits) v) ≡ live_at l.exits v
