-- What a line of a source is, and the bytes that it gives.
use Rattle.std.specs.Prelude.{ℕ, ◌+◌, ◌-◌, ◌*◌, ◌%◌, ◌==◌, ◌&&◌, ◌||◌, not, is_some, nat_eq, nat_le, nat_lt, Bool, true, false, List, [], ◌∷◌, length, take, drop, codes, Option, Some, None, if◌then◌else◌}
use Rattle.std.specs.List.{list_all}
use Rattle.std.specs.Str.{bytes_eq}
use Rattle.ia_inst.specs.declared.inst.Inst.{Inst}
use Rattle.ia_inst.specs.declared.inst.Inst.TheVariants as inst
use Rattle.ia_inst.specs.Canonical.{valid_of, canonical}
use Rattle.ia_inst.specs.Reading.{◌>>=◌}
use Rattle.asm_inst.specs.declared.mnemonics.One.{One}
use Rattle.asm_inst.specs.declared.mnemonics.One.TheVariants as one
use Rattle.asm_inst.specs.Names.{split_at, is_plain}
use Rattle.asm_inst.specs.Operands.{digit_of, any_register, or_else}
use Rattle.asm_inst.specs.Shapes.{one_of, distance, read_of}
use Rattle.asm_line.specs.declared.transfers.Transfer.{Transfer}
use Rattle.asm_line.specs.declared.transfers.Transfer.TheVariants.{Jcc, Jmp, Call}
use Rattle.asm_line.specs.declared.lines.Form as read
use Rattle.asm_line.specs.declared.lines.Form.TheVariants as read_form
use Rattle.asm_line.specs.declared.labels.TheConstants.{LABEL_LIMIT}
use Rattle.asm_line.specs.declared.digits.TheConstants.{BYTE_LIMIT}

-- a form: a label with its name, bytes with their digits, an instruction, and a transfer with the label that it goes to
pub data Form : Type 0 where
  Nothing : Form
  Label : List ℕ → Form
  Bytes : List ℕ → Form
  Stands : Inst → Form
  Goes : Transfer → List ℕ → Form

-- ---- parts of a line

-- what stands behind a word
abbrev pub behind : List ℕ → List ℕ → Option (List ℕ)
behind word s = if bytes_eq (take (length word) s) word then Some (drop (length word) s) else None

-- what stands before a word that is the last
abbrev pub before : List ℕ → List ℕ → Option (List ℕ)
before word s = if bytes_eq (drop (length s - length word) s) word then Some (take (length s - length word) s) else None

-- ---- labels

abbrev pub is_decimal : ℕ → Bool
is_decimal x = nat_le 48 x && nat_le x 57

-- a digit, a lower-case letter or _
abbrev pub is_name_byte : ℕ → Bool
is_name_byte x = is_plain x || (x == 95)

-- it has a first byte, and that is no digit
abbrev pub opens_name : List ℕ → Bool
opens_name [] = false
opens_name (x ∷ xs) = not (is_decimal x)

abbrev pub is_register : List ℕ → Bool
is_register s = is_some (any_register s)

unfoldable pub is_label : List ℕ → Bool
is_label s = opens_name s && (nat_le (length s) LABEL_LIMIT && (list_all is_name_byte s && not (is_register s)))

-- ---- bytes

-- a lower-case hexadecimal digit
abbrev pub is_digit : ℕ → Bool
is_digit x = is_some (digit_of x)

abbrev pub or_zero : Option ℕ → ℕ
or_zero None = 0
or_zero (Some n) = n

abbrev pub value_of : ℕ → ℕ
value_of x = or_zero (digit_of x)

-- the digits of at least one byte, and not of too many
unfoldable pub are_digits : List ℕ → Bool
are_digits ds = nat_lt 0 (length ds) && (nat_le (length ds) (2 * BYTE_LIMIT) && ((length ds % 2 == 0) && list_all is_digit ds))

-- the bytes of digits, two each
unfoldable pub values : List ℕ → List ℕ
values (a ∷ b ∷ ds) = (value_of a * 16 + value_of b) ∷ values ds
values _ = []

-- ---- transfers

abbrev pub transfer_of : One → Option Transfer
transfer_of (one.Jcc c) = Some (Jcc c)
transfer_of one.Jmp = Some Jmp
transfer_of one.Call = Some Call
transfer_of _ = None

-- the instruction that goes from its own address to another
abbrev pub instruction_of : Transfer → ℕ → ℕ → Inst
instruction_of (Jcc c) at to = inst.Jcc c (distance at 6 to)
instruction_of Jmp at to = inst.Jmp (distance at 5 to)
instruction_of Call at to = inst.Call (distance at 5 to)

-- ---- the form of a line

abbrev pub label_line : List ℕ → Option Form
label_line s = before (codes ":") s >>= λ name. if is_label name then Some (Label name) else None

-- of what stands behind the two spaces
abbrev pub byte_line : List ℕ → Option Form
byte_line t = behind (codes "byte ") t >>= λ ds. if are_digits ds then Some (Bytes ds) else None

abbrev pub transfer_line : List ℕ → Option Form
transfer_line t = split_at 32 t >>= λ p. one_of p.0 >>= λ o. transfer_of o >>= λ kind. if is_label p.1 then Some (Goes kind p.1) else None

abbrev pub instruction_line : List ℕ → ℕ → Option Form
instruction_line t at = read_of t at >>= λ i. Some (Stands i)

abbrev pub statement_of : List ℕ → ℕ → Option Form
statement_of t at = or_else (byte_line t) (or_else (transfer_line t) (instruction_line t at))

-- the form of a line at an address, if it has one
unfoldable pub form_of : List ℕ → ℕ → Option Form
form_of line at =
    if nat_eq (length line) 0 then Some Nothing
    else or_else (label_line line) (behind (codes "  ") line >>= λ t. statement_of t at)

-- ---- what a form gives

abbrev pub size_of_transfer : Transfer → ℕ
size_of_transfer (Jcc c) = 6
size_of_transfer Jmp = 5
size_of_transfer Call = 5

-- how many bytes it gives
unfoldable pub size_of_form : Form → ℕ
size_of_form Nothing = 0
size_of_form (Label name) = 0
size_of_form (Bytes ds) = length (values ds)
size_of_form (Stands i) = length (canonical i)
size_of_form (Goes kind name) = size_of_transfer kind

-- the bytes that it gives at an address, with the address of the label that it goes to
unfoldable pub bytes_of_form : Form → ℕ → ℕ → List ℕ
bytes_of_form Nothing at to = []
bytes_of_form (Label name) at to = []
bytes_of_form (Bytes ds) at to = values ds
bytes_of_form (Stands i) at to = canonical i
bytes_of_form (Goes kind name) at to = canonical (instruction_of kind at to)

-- ---- forms of lines

abbrev pub is_transfer : Transfer → Bool
is_transfer (Jcc c) = nat_lt c 16
is_transfer _ = true

-- what is true of a form of a line: labels are labels, digits are digits, and instructions have encodings
abbrev pub is_form : Form → Bool
is_form Nothing = true
is_form (Label name) = is_label name
is_form (Bytes ds) = are_digits ds
is_form (Stands i) = valid_of i
is_form (Goes kind name) = is_transfer kind && is_label name

-- the form that was read, with the bytes of its parts
abbrev pub formed : read.Form → Form
formed read_form.Nothing = Nothing
formed (read_form.Label name) = Label name.now
formed (read_form.Bytes ds) = Bytes ds.now
formed (read_form.Stands i) = Stands i
formed (read_form.Goes kind name) = Goes kind name.now
