-- Signed numbers by their casts, and the low half of a signed product.
use Rattle.std.proofs.Common.{◌≡◌, ℕ, ◌^◌, ◌<◌, arith}
use Rattle.std.specs.Int.{w32, cast_signed}
use Rattle.std.proofs.lemmas.Int.{ints}
use Rattle.std.proofs.lemmas.Bool.Decides.{nat_tests}
use Rattle.br_word.specs.Words.{signed}

pub signed_cast : (a : ℕ) → a < 2 ^ 32 → signed 32 a ≡ cast_signed w32 a
signed_cast a p = grind (arith, nat_tests, ints)
