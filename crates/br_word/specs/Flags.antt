-- What the operations give: a result modulo 2 ^ w, and flags by sums and ranges (SDM volume 1, 3.4.3.1; volume 2, SAL/SAR/SHL/SHR).
use Rattle.std.specs.Prelude.{ℕ, ◌+◌, ◌-◌, ◌*◌, ◌/◌, ◌%◌, ◌^◌, Bool, true, false, cond, not, nat_lt, nat_le, ◌==◌, pos, ◌+ℤ◌, ◌-ℤ◌}
use Rattle.br_word.specs.declared.types.Width.{Width}
use Rattle.br_word.specs.declared.types.Flags.{Flags}
use Rattle.br_word.specs.declared.flags.Sum.{Sum}
use Rattle.br_word.specs.declared.flags.Shifted.{Shifted}
use Rattle.br_word.specs.declared.types.ShiftOp.{ShiftOp}
use Rattle.br_word.specs.declared.types.ShiftOp.TheVariants.{Shl, Shr, Sar}
use Rattle.br_word.specs.Words.{bits_of}
use Rattle.br_word.specs.Words.{bit, signed, out_of_range, even_parity, sign_bit, wrap, floor_div}

-- PF, ZF and SF follow the result (SDM volume 1, 3.4.3.1)
abbrev pub flags_of : Width → ℕ → Bool → Bool → Flags
flags_of w r cf of = record { cf = cf; pf = even_parity r; zf = r == 0; sf = sign_bit (bits_of w) r; of = of }

-- CF and OF are 0 (SDM volume 2, AND, OR, XOR, TEST)
abbrev pub logic_result : Width → ℕ → Flags
logic_result w r = flags_of w r false false

-- a + b and a carry: CF where the sum is at least 2 ^ w, OF where the signed sum is out of range
abbrev pub add_result : Width → ℕ → ℕ → Bool → Sum
add_result w a b c =
    let n = bits_of w in
    let r = (a + b + bit c) % 2 ^ n in
    let over = out_of_range n ((signed n a +ℤ signed n b) +ℤ pos (bit c)) in
    record { value = r; flags = flags_of w r (nat_le (2 ^ n) (a + b + bit c)) over }

-- a - b and a borrow: CF where a is below b and the borrow, OF where the signed difference is out of range
abbrev pub sub_result : Width → ℕ → ℕ → Bool → Sum
sub_result w a b c =
    let n = bits_of w in
    let r = (a + 2 ^ n - (b + bit c)) % 2 ^ n in
    let over = out_of_range n ((signed n a -ℤ signed n b) -ℤ pos (bit c)) in
    record { value = r; flags = flags_of w r (nat_lt a (b + bit c)) over }

-- the shifted value, by a count from 1 to 31
abbrev pub shift_value : ShiftOp → ℕ → ℕ → ℕ → ℕ
shift_value Shl w a n = a * 2 ^ n % 2 ^ w
shift_value Shr w a n = a / 2 ^ n
shift_value Sar w a n = wrap (2 ^ w) (floor_div (signed w a) (2 ^ n))

-- the last bit that is shifted out
abbrev pub shift_carry : ShiftOp → ℕ → ℕ → ℕ → Bool
shift_carry Shl w a n = a * 2 ^ n / 2 ^ w % 2 == 1
shift_carry Shr w a n = a / 2 ^ (n - 1) % 2 == 1
shift_carry Sar w a n = wrap 2 (floor_div (signed w a) (2 ^ (n - 1))) == 1

-- one of the two is set, and not both
abbrev pub differ : Bool → Bool → Bool
differ a b = cond a (not b) b

-- OF as a count of 1 leaves it: SHL, whether the sign changed; SHR, the sign before; SAR, 0
abbrev pub shift_overflow : ShiftOp → ℕ → ℕ → ℕ → Bool
shift_overflow Shl w a n = differ (sign_bit w (shift_value Shl w a n)) (shift_carry Shl w a n)
shift_overflow Shr w a n = sign_bit w a
shift_overflow Sar w a n = false

-- SHL and SHR leave CF undefined from w on
abbrev pub shift_carry_known : ShiftOp → ℕ → ℕ → Bool
shift_carry_known Shl w n = nat_lt n w
shift_carry_known Shr w n = nat_lt n w
shift_carry_known Sar w n = true

-- the shifted value with its flags, and which of CF and OF are defined: OF for a count of 1 alone
abbrev pub shift_of : ShiftOp → Width → ℕ → ℕ → Shifted
shift_of op w a n =
    let k = bits_of w in
    let r = shift_value op k a n in
    record {
      value = r;
      flags = flags_of w r (shift_carry op k a n) (shift_overflow op k a n);
      cf_known = shift_carry_known op k n;
      of_known = n == 1;
    }
