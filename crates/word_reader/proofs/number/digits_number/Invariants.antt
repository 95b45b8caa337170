use Rattle.std.proofs.Common.{◌≡◌, ◌<◌, ◌-◌, ◌^◌, true, map, drop}
use Rattle.std.specs.Int.Digits.{number_from_digits_after}
use Rattle.word_reader.specs.Numbers.{are_digits, number_of_digits}
use Rattle.word_reader.proofs.number.digits_number.Given as goal

abbrev pub invariant-loop-byte : goal.invariant-loop-byte
invariant-loop-byte l = record {
  value : number_from_digits_after 10 l.number (map (λ b. b - 48) (drop l.byte-index l.bytes)) ≡ number_of_digits l.bytes;
  digits : are_digits (drop l.byte-index l.bytes) ≡ true;
  small : l.number < 10 ^ l.byte-index;
}
