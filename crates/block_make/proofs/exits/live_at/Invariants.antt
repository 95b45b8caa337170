use Rattle.std.proofs.Common.{◌≡◌, drop}
use Rattle.block_make.specs.Keys.{live_at}
use Rattle.block_make.proofs.exits.live_at.Given as goal

abbrev pub invariant-loop-known : goal.invariant-loop-known
invariant-loop-known l = live_at l.exits l.address ≡ live_at (drop l.known-index l.exits) l.address
