-- The digits of a number, the last one first.
use Rattle.std.proofs.Common.{◌≡◌, ℕ, ◌+◌, ◌/◌, ◌%◌, ◌^◌, ◌<◌, ◌≤◌, List, ◌∷◌, ◌++◌, length, ap, ◌∙◌, arith, append_assoc, length-append}
use Rattle.std.specs.Fmt.{decimal}
use Rattle.std.proofs.lemmas.Fmt.{decimal_digit, decimal_step, length-decimal-le}

pub length_one : (n : ℕ) → n < 10 → length (decimal n) ≡ 1
length_one n h = ap length (decimal_digit n h)

pub length_step : (n : ℕ) → 10 ≤ n → n < 2 ^ 32 → length (decimal n) ≡ length (decimal (n / 10)) + 1
length_step n low high = ap length (decimal_step n low (omega arith)) ∙ length-append (decimal (n / 10)) _

pub length_ten : (n : ℕ) → n < 2 ^ 32 → length (decimal n) ≤ 10
length_ten n h = length-decimal-le 10 n (omega arith) (omega arith) (omega arith)

-- the last digit stands before the rest of the line, and the others before it
pub digit_first : (n : ℕ) (rest : List ℕ) → 10 ≤ n → n < 2 ^ 32 → decimal n ++ rest ≡ decimal (n / 10) ++ ((48 + n % 10) ∷ rest)
digit_first n rest low high = ap (λ ds. ds ++ rest) (decimal_step n low (omega arith)) ∙ append_assoc (decimal (n / 10)) _ rest
