use Rattle.std.proofs.Common.{◌≡◌, ◌≤◌, map, drop}
use Rattle.std.specs.Prelude.{string_bytes}
use Rattle.word_reader.specs.Words.{first_no_trace}
use Rattle.word_reader.proofs.parts.check_traces.Given as goal

abbrev pub invariant-loop-word : goal.invariant-loop-word
invariant-loop-word l = record {
  wrong : first_no_trace l.k (map string_bytes (drop l.word-index l.words)) ≡ first_no_trace 0 (map string_bytes l.words);
  few : l.k ≤ 4096;
}
