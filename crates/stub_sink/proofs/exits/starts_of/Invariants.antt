use Rattle.std.proofs.Common.{◌≡◌, take}
use Rattle.stub_sink.specs.Splits.{starts_of}
use Rattle.stub_sink.proofs.exits.starts_of.Given as goal

abbrev pub invariant-loop-exit : goal.invariant-loop-exit
invariant-loop-exit l = l.starts.items ≡ starts_of (take l.exit-index l.exits)
