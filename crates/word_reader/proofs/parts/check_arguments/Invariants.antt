use Rattle.std.proofs.Common.{◌≡◌, ◌≤◌, ◌-◌, map, drop}
use Rattle.std.specs.Prelude.{string_bytes}
use Rattle.word_reader.specs.Words.{first_no_argument}
use Rattle.word_reader.proofs.parts.check_arguments.Given as goal

abbrev pub invariant-loop-word : goal.invariant-loop-word
invariant-loop-word l = record {
  wrong : first_no_argument l.k (65536 - l.left) (map string_bytes (drop l.word-index l.words)) ≡ first_no_argument 0 6 (map string_bytes l.words);
  few : l.k ≤ 256;
  room : l.left ≤ 65530;
}
