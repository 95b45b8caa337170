use Rattle.std.proofs.Common.{◌≡◌, ℕ, ◌<◌, length}
use Rattle.std.specs.Prelude.{◌&&◌, not}
use Rattle.pass_dead.specs.Names.{set_of}
use Rattle.stub_sink.proofs.parts.without.Given as goal

abbrev pub invariant-loop-index : goal.invariant-loop-index
invariant-loop-index l = record {
  count : length l.marks.items ≡ l.index;
  each : (j : ℕ) → j < l.index → set_of l.marks.items j ≡ (set_of l.set j && not (set_of l.other j));
}
