use Rattle.std.proofs.Common.{◌≡◌, drop}
use Rattle.word_reader.specs.Numbers.{are_digits}
use Rattle.word_reader.proofs.number.are_all_digits.Given as goal

abbrev pub invariant-loop-byte : goal.invariant-loop-byte
invariant-loop-byte l = are_digits (drop l.byte-index l.bytes) ≡ are_digits l.bytes
