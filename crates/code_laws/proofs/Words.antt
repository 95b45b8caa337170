-- The low bits of a number.
use Rattle.std.specs.Prelude.{ℕ, ◌%◌, ◌^◌}
use Rattle.br_word.specs.declared.types.Width.{Width}
use Rattle.br_word.specs.declared.types.Width.TheVariants.{B8, B16, B32}

abbrev pub low_part : Width → ℕ → ℕ
low_part B8 v = v % 256
low_part B16 v = v % 2 ^ 16
low_part B32 v = v
