-- The words that a text is made of.
use Rattle.std.specs.Prelude.{ℕ, ◌==◌, Bool, List, codes, if◌then◌else◌}
use Rattle.br_word.specs.declared.types.ShiftOp.{ShiftOp}
use Rattle.br_word.specs.declared.types.ShiftOp.TheVariants.{Shl, Shr, Sar}
use Rattle.br_word.specs.declared.types.Width.{Width}
use Rattle.br_word.specs.declared.types.Width.TheVariants.{B8, B16, B32}

-- ---- registers

-- registers of 8 bits, by their number (SDM volume 2, 3.1.1.1)
abbrev pub byte_register : ℕ → List ℕ
byte_register r =
    if r == 0 then codes "al" else (if r == 1 then codes "cl" else (if r == 2 then codes "dl" else (
    if r == 3 then codes "bl" else (if r == 4 then codes "ah" else (if r == 5 then codes "ch" else (
    if r == 6 then codes "dh" else codes "bh"))))))

-- of 16 bits
abbrev pub word_register : ℕ → List ℕ
word_register r =
    if r == 0 then codes "ax" else (if r == 1 then codes "cx" else (if r == 2 then codes "dx" else (
    if r == 3 then codes "bx" else (if r == 4 then codes "sp" else (if r == 5 then codes "bp" else (
    if r == 6 then codes "si" else codes "di"))))))

-- of 32 bits
abbrev pub long_register : ℕ → List ℕ
long_register r =
    if r == 0 then codes "eax" else (if r == 1 then codes "ecx" else (if r == 2 then codes "edx" else (
    if r == 3 then codes "ebx" else (if r == 4 then codes "esp" else (if r == 5 then codes "ebp" else (
    if r == 6 then codes "esi" else codes "edi"))))))

-- a register of a width
abbrev pub register_name : Width → ℕ → List ℕ
register_name B8 r = byte_register r
register_name B16 r = word_register r
register_name B32 r = long_register r

-- ---- widths

-- before a place in memory
abbrev pub size_word : Width → List ℕ
size_word B8 = codes "byte"
size_word B16 = codes "word"
size_word B32 = codes "dword"

-- behind the mnemonic of a string instruction
abbrev pub size_letter : Width → List ℕ
size_letter B8 = codes "b"
size_letter B16 = codes "w"
size_letter B32 = codes "d"

-- ---- mnemonics

-- the operations of the ALU, by their number (SDM volume 2, opcode map, group 1)
abbrev pub alu_name : ℕ → List ℕ
alu_name k =
    if k == 0 then codes "add" else (if k == 1 then codes "or" else (if k == 2 then codes "adc" else (
    if k == 3 then codes "sbb" else (if k == 4 then codes "and" else (if k == 5 then codes "sub" else (
    if k == 6 then codes "xor" else codes "cmp"))))))

-- the operations of F7 on edx and eax (group 3)
abbrev pub multiply_name : ℕ → List ℕ
multiply_name k = if k == 4 then codes "mul" else (if k == 5 then codes "imul" else (if k == 6 then codes "div" else codes "idiv"))

-- shifts (group 2)
abbrev pub shift_name : ShiftOp → List ℕ
shift_name Shl = codes "shl"
shift_name Shr = codes "shr"
shift_name Sar = codes "sar"

-- rotations (group 2): to the right, or to the left
abbrev pub rotate_name : Bool → List ℕ
rotate_name right = if right then codes "ror" else codes "rol"

-- extensions: signed, or not
abbrev pub extend_name : Bool → List ℕ
extend_name signed = if signed then codes "movsx" else codes "movzx"

-- conditions, by their number (SDM volume 1, appendix B)
abbrev pub condition_name : ℕ → List ℕ
condition_name c =
    if c == 0 then codes "o" else (if c == 1 then codes "no" else (if c == 2 then codes "b" else (
    if c == 3 then codes "ae" else (if c == 4 then codes "z" else (if c == 5 then codes "nz" else (
    if c == 6 then codes "be" else (if c == 7 then codes "a" else (if c == 8 then codes "s" else (
    if c == 9 then codes "ns" else (if c == 10 then codes "p" else (if c == 11 then codes "np" else (
    if c == 12 then codes "l" else (if c == 13 then codes "ge" else (
    if c == 14 then codes "le" else codes "g"))))))))))))))
