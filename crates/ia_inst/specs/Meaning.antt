-- What each instruction does (SDM volume 2, the page of each instruction).
use Rattle.std.specs.Prelude.{ℕ, ◌+◌, ◌-◌, ◌*◌, ◌/◌, ◌%◌, ◌^◌, Bool, true, false, not, ◌&&◌, ◌||◌, nat_lt, ◌==◌, if◌then◌else◌, List, get_or, set, Option, Some, None, bit_and, bit_or, bit_xor}
use Rattle.br_word.specs.declared.types.Flags.{Flags}
use Rattle.br_word.specs.declared.types.ShiftOp.{ShiftOp}
use Rattle.br_word.specs.declared.types.Width.{Width}
use Rattle.br_word.specs.declared.types.Width.TheVariants.{B8, B16, B32}
use Rattle.br_word.specs.declared.flags.Sum.{Sum}
use Rattle.br_word.specs.declared.flags.Shifted.{Shifted}
use Rattle.br_word.specs.Words as words
use Rattle.br_word.specs.Words.{bits_of, size_of, bit, signed, sign_bit}
use Rattle.br_word.specs.Flags.{differ, logic_result, add_result, sub_result, shift_of}
use Rattle.br_word.specs.State.{CF, PF, ZF, SF, OF}
use Rattle.ia_inst.specs.declared.inst.Addr.{Addr}
use Rattle.ia_inst.specs.declared.inst.Rm.{Rm}
use Rattle.ia_inst.specs.declared.inst.Rm.TheVariants.{Reg, Mem}
use Rattle.ia_inst.specs.declared.inst.Src.{Src}
use Rattle.ia_inst.specs.declared.inst.Src.TheVariants as src
use Rattle.ia_inst.specs.declared.inst.Count.{Count}
use Rattle.ia_inst.specs.declared.inst.Count.TheVariants as count
use Rattle.ia_inst.specs.declared.inst.Inst.{Inst}
use Rattle.ia_inst.specs.declared.inst.Inst.TheVariants.{Alu, Test, Mov, Lea, Xchg, Inc, Dec, Not, Neg, Push, Pop, MulDiv, Imul, Shift, Rotate, Cwde, Cdq, Extend, Setcc, Cmov, Jcc, Jmp, JmpRm, Call, CallRm, Ret, Leave, Movs, Stos, Cld, Std, Sahf, Int80, Nop}
use Rattle.ia_inst.specs.Wide.{rotated_left, rotated_right, product, signed_product, product_overflows, quotient, signed_quotient}
use Rattle.ia_inst.specs.Act.{Change, Keeps, Becomes, IsLeft, Changes, Past, Again, To, Act, Load, Store, Ask, Divides, Calls, Ends}

-- addresses and counters go round at 2 ^ 32
abbrev pub wrap : ℕ → ℕ
wrap x = x % 2 ^ 32

-- ---- registers and operands (SDM volume 1, 3.4.1 and 3.7.5)

-- a register read at a width: of 8 bits, al, cl, dl, bl, ah, ch, dh, bh
abbrev pub reg_value : Width → ℕ → List ℕ → ℕ
reg_value B32 r regs = get_or regs r 0
reg_value B16 r regs = get_or regs r 0 % 2 ^ 16
reg_value B8 r regs = if nat_lt r 4 then get_or regs r 0 % 256 else get_or regs (r - 4) 0 / 256 % 256

-- the registers after one is written: the other bits stay
abbrev pub reg_with : Width → ℕ → ℕ → List ℕ → List ℕ
reg_with B32 r v regs = set regs r v
reg_with B16 r v regs = set regs r (get_or regs r 0 / 2 ^ 16 * 2 ^ 16 + v)
reg_with B8 r v regs = if nat_lt r 4
    then set regs r (get_or regs r 0 / 256 * 256 + v)
    else set regs (r - 4) (get_or regs (r - 4) 0 / 2 ^ 16 * 2 ^ 16 + v * 256 + get_or regs (r - 4) 0 % 256)

-- a base register
abbrev pub base_of : Option ℕ → List ℕ → ℕ
base_of None regs = 0
base_of (Some r) regs = get_or regs r 0

-- an index register times its scale
abbrev pub index_of : Option (ℕ × ℕ) → List ℕ → ℕ
index_of None regs = 0
index_of (Some p) regs = get_or regs p.0 0 * p.1

-- the effective address
abbrev pub address_of : Addr → List ℕ → ℕ
address_of a regs = wrap (base_of a.base regs + index_of a.index regs + a.disp)

-- an operand is read, and the rest goes on with its value
abbrev pub of_rm : Width → Rm → List ℕ → (ℕ → Act) → Act
of_rm w (Reg r) regs go = go (reg_value w r regs)
of_rm w (Mem a) regs go = Load (address_of a regs) (size_of w) go

-- the same of a source
abbrev pub of_src : Width → Src → List ℕ → (ℕ → Act) → Act
of_src w (src.Rm rm) regs go = of_rm w rm regs go
of_src w (src.Imm v) regs go = go v

-- an operand is written, and the rest goes on with the registers
abbrev pub to_rm : Width → Rm → ℕ → List ℕ → (List ℕ → Act) → Act
to_rm w (Reg r) v regs go = go (reg_with w r v regs)
to_rm w (Mem a) v regs go = Store (address_of a regs) (size_of w) v (go regs)

-- ---- flags

-- every flag stays
abbrev pub no_changes : Changes
no_changes = record { cf = Keeps; pf = Keeps; zf = Keeps; sf = Keeps; of = Keeps }

-- every flag is left undefined
abbrev pub all_undefined : Changes
all_undefined = record { cf = IsLeft; pf = IsLeft; zf = IsLeft; sf = IsLeft; of = IsLeft }

-- every flag is set
abbrev pub all_set : Flags → Changes
all_set f = record { cf = Becomes f.cf; pf = Becomes f.pf; zf = Becomes f.zf; sf = Becomes f.sf; of = Becomes f.of }

-- CF and OF say whether a product is too large; PF, ZF and SF are undefined
abbrev pub product_changes : Bool → Changes
product_changes over = record all_undefined { cf = Becomes over; of = Becomes over }

-- a flag is set where its value is known
abbrev pub set_if : Bool → Bool → Change
set_if known b = if known then Becomes b else IsLeft

-- a value and what becomes of the flags
pub record Result : Type 0 where
  pub value : ℕ
  pub changes : Changes

-- a sum or a difference sets every flag
abbrev pub of_sum : Sum → Result
of_sum s = record { value = s.value; changes = all_set s.flags }

-- INC and DEC keep CF
abbrev pub of_step : Sum → Result
of_step s = record { value = s.value; changes = record (all_set s.flags) { cf = Keeps } }

-- AND, OR, XOR and TEST set every flag
abbrev pub of_logic : Width → ℕ → Result
of_logic w r = record { value = r; changes = all_set (logic_result w r) }

-- ADD, OR, ADC, SBB, AND, SUB, XOR, CMP by their numbers
abbrev pub alu : ℕ → Width → ℕ → ℕ → Bool → Result
alu op w a b c =
    if op == 0 || op == 2 then of_sum (add_result w a b c) else
    if op == 1 then of_logic w (bit_or a b) else
    if op == 4 then of_logic w (bit_and a b) else
    if op == 6 then of_logic w (bit_xor a b) else
    of_sum (sub_result w a b c)

-- ADC and SBB read CF, before they access memory
abbrev pub with_carry : ℕ → (Bool → Act) → Act
with_carry op go = if op == 2 || op == 3 then Ask CF go else go false

-- a condition by its number without the lowest bit, with the flags that it reads (SDM volume 1, appendix B)
abbrev pub even_condition : ℕ → (Bool → Act) → Act
even_condition c go =
    if c == 0 then Ask OF go else
    if c == 1 then Ask CF go else
    if c == 2 then Ask ZF go else
    if c == 3 then Ask CF (λ a. Ask ZF (λ b. go (a || b))) else
    if c == 4 then Ask SF go else
    if c == 5 then Ask PF go else
    if c == 6 then Ask SF (λ a. Ask OF (λ b. go (differ a b))) else
    Ask ZF (λ z. Ask SF (λ a. Ask OF (λ b. go (z || differ a b))))

-- an odd condition is the contrary of the even one before it
abbrev pub condition : ℕ → (Bool → Act) → Act
condition c go = even_condition (c / 2) (λ b. go (if c % 2 == 1 then not b else b))

-- ---- shifts and rotations

-- the count modulo 32
abbrev pub count_of : Count → List ℕ → ℕ
count_of (count.Imm n) regs = n % 32
count_of count.Cl regs = reg_value B8 1 regs % 32

-- a shift sets every flag, but for those of CF and OF that it leaves undefined
abbrev pub shift_changes : Shifted → Changes
shift_changes r = record (all_set r.flags) { cf = set_if r.cf_known r.flags.cf; of = set_if r.of_known r.flags.of }

-- a count of 0 keeps the value and the flags
abbrev pub shifted : ShiftOp → Width → ℕ → ℕ → Result
shifted op w a n =
    if n == 0 then record { value = a; changes = no_changes }
    else record { value = (shift_of op w a n).value; changes = shift_changes (shift_of op w a n) }

-- CF is the bit that went round; OF is defined for a count of 1; the others stay
abbrev pub rotate_changes : Bool → ℕ → ℕ → Changes
rotate_changes right r n =
    let carry = if right then sign_bit 32 r else r % 2 == 1 in
    let over = if right then differ (sign_bit 32 r) (r / 2 ^ 30 % 2 == 1) else differ (sign_bit 32 r) carry in
    record no_changes { cf = Becomes carry; of = set_if (n == 1) over }

-- a count of 0 keeps the value and the flags
abbrev pub rotated : Bool → ℕ → ℕ → Result
rotated right a n =
    let r = if right then rotated_right a n else rotated_left a n in
    if n == 0 then record { value = a; changes = no_changes }
    else record { value = r; changes = rotate_changes right r n }

-- ---- products and quotients of edx:eax

-- edx:eax as one number
abbrev pub pair_of : List ℕ → ℕ
pair_of regs = get_or regs 2 0 * 2 ^ 32 + get_or regs 0 0

-- the registers with edx and eax written
abbrev pub with_pair : ℕ → ℕ → List ℕ → List ℕ
with_pair high low regs = set (set regs 0 low) 2 high

-- quotient to eax and remainder to edx, or the divide error
abbrev pub divides : Option (ℕ × ℕ) → ℕ → List ℕ → Bool → Act
divides None n regs df = Divides
divides (Some p) n regs df = Ends (with_pair p.1 p.0 regs) df all_undefined (Past n)

-- MUL, IMUL, DIV, IDIV by b
abbrev pub muldiv : ℕ → ℕ → ℕ → List ℕ → Bool → Act
muldiv op b n regs df =
    let a = get_or regs 0 0 in
    let p = product a b in
    let s = signed_product a b in
    if op == 4 then Ends (with_pair (p / 2 ^ 32) (p % 2 ^ 32) regs) df (product_changes (not (p / 2 ^ 32 == 0))) (Past n) else
    if op == 5 then Ends (with_pair (s / 2 ^ 32) (s % 2 ^ 32) regs) df (product_changes (product_overflows a b)) (Past n) else
    if op == 6 then divides (quotient (pair_of regs) b) n regs df else
    divides (signed_quotient (pair_of regs) b) n regs df

-- the first factor of an IMUL: a literal, or the destination
abbrev pub factor_of : Option ℕ → ℕ → List ℕ → ℕ
factor_of None dst regs = get_or regs dst 0
factor_of (Some v) dst regs = v

-- a number of one width as a signed number of another
abbrev pub sign_extended : Width → Width → ℕ → ℕ
sign_extended from to v = words.wrap (2 ^ bits_of to) (signed (bits_of from) v)

-- ---- the stack, and strings

-- a value is pushed, and the rest goes on with the registers
abbrev pub pushed : ℕ → List ℕ → (List ℕ → Act) → Act
pushed v regs go = let top = wrap (get_or regs 4 0 + 2 ^ 32 - 4) in Store top 4 v (go (set regs 4 top))

-- the next place of a string, downwards where DF is set
abbrev pub moved : Bool → Width → ℕ → ℕ
moved df w at = wrap (if df then at + 2 ^ 32 - size_of w else at + size_of w)

-- a repeated string instruction with ecx 0 does nothing
abbrev pub is_over : Bool → List ℕ → Bool
is_over rep regs = rep && (get_or regs 1 0 == 0)

-- after one iteration: a repeated instruction counts ecx down, and stands again until it is 0
abbrev pub iterated : Bool → List ℕ → Bool → ℕ → Act
iterated rep regs df n =
    let left = wrap (get_or regs 1 0 + 2 ^ 32 - 1) in
    if rep then Ends (set regs 1 left) df no_changes (if left == 0 then Past n else Again)
    else Ends regs df no_changes (Past n)

-- bit k of a byte
abbrev pub bit_of : ℕ → ℕ → Bool
bit_of v k = v / 2 ^ k % 2 == 1

-- SAHF sets all flags but OF from AH
abbrev pub flags_of_ah : ℕ → Changes
flags_of_ah ah = record no_changes {
  cf = Becomes (bit_of ah 0);
  pf = Becomes (bit_of ah 2);
  zf = Becomes (bit_of ah 6);
  sf = Becomes (bit_of ah 7);
}

-- ---- what an instruction of this length does at these registers; the place matters to relative targets alone
unfoldable pub meaning : Inst → ℕ → List ℕ → ℕ → Bool → Act
meaning (Alu op w dst b) n regs eip df =
    with_carry op (λ c. of_rm w dst regs (λ a. of_src w b regs (λ b. let r = alu op w a b c in
    if op == 7 then Ends regs df r.changes (Past n)
    else to_rm w dst r.value regs (λ regs. Ends regs df r.changes (Past n)))))
meaning (Test w dst b) n regs eip df =
    of_rm w dst regs (λ a. of_src w b regs (λ b. Ends regs df (of_logic w (bit_and a b)).changes (Past n)))
meaning (Mov w dst b) n regs eip df =
    of_src w b regs (λ b. to_rm w dst b regs (λ regs. Ends regs df no_changes (Past n)))
meaning (Lea w dst addr) n regs eip df =
    Ends (reg_with w dst (address_of addr regs % 2 ^ bits_of w) regs) df no_changes (Past n)
meaning (Xchg w dst reg) n regs eip df =
    of_rm w dst regs (λ a.
    to_rm w dst (reg_value w reg regs) regs (λ regs. Ends (reg_with w reg a regs) df no_changes (Past n)))
meaning (Inc w dst) n regs eip df =
    of_rm w dst regs (λ a. let r = of_step (add_result w a 1 false) in
    to_rm w dst r.value regs (λ regs. Ends regs df r.changes (Past n)))
meaning (Dec w dst) n regs eip df =
    of_rm w dst regs (λ a. let r = of_step (sub_result w a 1 false) in
    to_rm w dst r.value regs (λ regs. Ends regs df r.changes (Past n)))
meaning (Not w dst) n regs eip df =
    of_rm w dst regs (λ a. to_rm w dst (2 ^ bits_of w - 1 - a) regs (λ regs. Ends regs df no_changes (Past n)))
meaning (Neg w dst) n regs eip df =
    of_rm w dst regs (λ a. let r = of_sum (sub_result w 0 a false) in
    to_rm w dst r.value regs (λ regs. Ends regs df r.changes (Past n)))
meaning (Push b) n regs eip df =
    of_src B32 b regs (λ b. pushed b regs (λ regs. Ends regs df no_changes (Past n)))
meaning (Pop dst) n regs eip df =
    Load (get_or regs 4 0) 4 (λ v.
    to_rm B32 dst v (set regs 4 (wrap (get_or regs 4 0 + 4))) (λ regs. Ends regs df no_changes (Past n)))
meaning (MulDiv op src) n regs eip df = of_rm B32 src regs (λ b. muldiv op b n regs df)
meaning (Imul dst src by) n regs eip df =
    of_rm B32 src regs (λ b. let a = factor_of by dst regs in
    Ends (set regs dst (a * b % 2 ^ 32)) df (product_changes (product_overflows a b)) (Past n))
meaning (Shift op w dst count) n regs eip df =
    of_rm w dst regs (λ a. let r = shifted op w a (count_of count regs) in
    to_rm w dst r.value regs (λ regs. Ends regs df r.changes (Past n)))
meaning (Rotate right dst count) n regs eip df =
    of_rm B32 dst regs (λ a. let r = rotated right a (count_of count regs) in
    to_rm B32 dst r.value regs (λ regs. Ends regs df r.changes (Past n)))
meaning Cwde n regs eip df =
    Ends (set regs 0 (sign_extended B16 B32 (reg_value B16 0 regs))) df no_changes (Past n)
meaning Cdq n regs eip df =
    Ends (set regs 2 (if sign_bit 32 (get_or regs 0 0) then 2 ^ 32 - 1 else 0)) df no_changes (Past n)
meaning (Extend signed from to dst src) n regs eip df =
    of_rm from src regs (λ b. Ends (reg_with to dst (if signed then sign_extended from to b else b) regs) df no_changes (Past n))
meaning (Setcc c dst) n regs eip df =
    condition c (λ b. to_rm B8 dst (bit b) regs (λ regs. Ends regs df no_changes (Past n)))
meaning (Cmov c dst src) n regs eip df =
    condition c (λ b. of_rm B32 src regs (λ v. Ends (if b then set regs dst v else regs) df no_changes (Past n)))
meaning (Jcc c rel) n regs eip df =
    condition c (λ b. Ends regs df no_changes (if b then To (wrap (eip + n + rel)) else Past n))
meaning (Jmp rel) n regs eip df = Ends regs df no_changes (To (wrap (eip + n + rel)))
meaning (JmpRm target) n regs eip df = of_rm B32 target regs (λ t. Ends regs df no_changes (To t))
meaning (Call rel) n regs eip df =
    pushed (wrap (eip + n)) regs (λ regs. Ends regs df no_changes (To (wrap (eip + n + rel))))
meaning (CallRm target) n regs eip df =
    of_rm B32 target regs (λ t. pushed (wrap (eip + n)) regs (λ regs. Ends regs df no_changes (To t)))
meaning (Ret pop) n regs eip df =
    Load (get_or regs 4 0) 4 (λ t. Ends (set regs 4 (wrap (get_or regs 4 0 + 4 + pop))) df no_changes (To t))
meaning Leave n regs eip df =
    Load (get_or regs 5 0) 4 (λ v. Ends (set (set regs 4 (wrap (get_or regs 5 0 + 4))) 5 v) df no_changes (Past n))
meaning (Movs w rep) n regs eip df =
    let esi = get_or regs 6 0 in let edi = get_or regs 7 0 in
    if is_over rep regs then Ends regs df no_changes (Past n)
    else Load esi (size_of w) (λ v. Store edi (size_of w) v (iterated rep (set (set regs 6 (moved df w esi)) 7 (moved df w edi)) df n))
meaning (Stos w rep) n regs eip df =
    let edi = get_or regs 7 0 in
    if is_over rep regs then Ends regs df no_changes (Past n)
    else Store edi (size_of w) (reg_value w 0 regs) (iterated rep (set regs 7 (moved df w edi)) df n)
meaning Cld n regs eip df = Ends regs false no_changes (Past n)
meaning Std n regs eip df = Ends regs true no_changes (Past n)
meaning Sahf n regs eip df = Ends regs df (flags_of_ah (reg_value B8 4 regs)) (Past n)
meaning Int80 n regs eip df = Calls n
meaning Nop n regs eip df = Ends regs df no_changes (Past n)
