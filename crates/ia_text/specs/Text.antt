-- The text of an instruction.
use Rattle.std.specs.Prelude.{ℕ, ◌+◌, ◌%◌, ◌^◌, ◌==◌, Bool, List, [], ◌++◌, codes, Option, Some, None, if◌then◌else◌}
use Rattle.br_word.specs.declared.types.Width.{Width}
use Rattle.br_word.specs.declared.types.Width.TheVariants.{B8, B16, B32}
use Rattle.ia_inst.specs.declared.inst.Rm.{Rm}
use Rattle.ia_inst.specs.declared.inst.Inst.{Inst}
use Rattle.ia_inst.specs.declared.inst.Inst.TheVariants.{Alu, Test, Mov, Lea, Xchg, Inc, Dec, Not, Neg, Push, Pop, MulDiv, Imul, Shift, Rotate, Cwde, Cdq, Extend, Setcc, Cmov, Jcc, Jmp, JmpRm, Call, CallRm, Ret, Leave, Movs, Stos, Cld, Std, Sahf, Int80, Nop}
use Rattle.ia_text.specs.Names.{register_name, size_letter, alu_name, multiply_name, shift_name, rotate_name, extend_name, condition_name}
use Rattle.ia_text.specs.Operands.{number_text, address_text, place_text, source_text, count_text}

-- a mnemonic with one operand
abbrev pub one_operand : List ℕ → List ℕ → List ℕ
one_operand name a = name ++ (codes " " ++ a)

-- a mnemonic with two operands, the destination first
abbrev pub two_operands : List ℕ → List ℕ → List ℕ → List ℕ
two_operands name a b = name ++ (codes " " ++ (a ++ (codes ", " ++ b)))

-- IMUL of two operands, or of three
abbrev pub imul_text : ℕ → Rm → Option ℕ → List ℕ
imul_text g a None = two_operands (codes "imul") (register_name B32 g) (place_text B32 a)
imul_text g a (Some n) = two_operands (codes "imul") (register_name B32 g) (place_text B32 a) ++ (codes ", " ++ number_text B32 n)

-- RET, with what it takes from the stack where that is not 0
abbrev pub return_text : ℕ → List ℕ
return_text n = if n == 0 then codes "ret" else one_operand (codes "ret") (number_text B16 n)

-- where a direct transfer goes, that stands at an address with so many bytes
abbrev pub target_text : ℕ → ℕ → ℕ → List ℕ
target_text at len rel = number_text B32 ((at + len + rel) % 2 ^ 32)

-- a string instruction, with its repetition and the letter of its width
abbrev pub string_text : List ℕ → Width → Bool → List ℕ
string_text name w rep = (if rep then codes "rep " else []) ++ (name ++ size_letter w)

-- the text of an instruction that stands at an address with so many bytes
abbrev pub text_of : Inst → ℕ → ℕ → List ℕ
text_of (Alu k w a s) at len = two_operands (alu_name k) (place_text w a) (source_text w s)
text_of (Test w a s) at len = two_operands (codes "test") (place_text w a) (source_text w s)
text_of (Mov w a s) at len = two_operands (codes "mov") (place_text w a) (source_text w s)
text_of (Lea w g a) at len = two_operands (codes "lea") (register_name w g) (address_text a)
text_of (Xchg w a g) at len = two_operands (codes "xchg") (place_text w a) (register_name w g)
text_of (Inc w a) at len = one_operand (codes "inc") (place_text w a)
text_of (Dec w a) at len = one_operand (codes "dec") (place_text w a)
text_of (Not w a) at len = one_operand (codes "not") (place_text w a)
text_of (Neg w a) at len = one_operand (codes "neg") (place_text w a)
text_of (Push s) at len = one_operand (codes "push") (source_text B32 s)
text_of (Pop a) at len = one_operand (codes "pop") (place_text B32 a)
text_of (MulDiv k a) at len = one_operand (multiply_name k) (place_text B32 a)
text_of (Imul g a by) at len = imul_text g a by
text_of (Shift op w a n) at len = two_operands (shift_name op) (place_text w a) (count_text n)
text_of (Rotate right a n) at len = two_operands (rotate_name right) (place_text B32 a) (count_text n)
text_of Cwde at len = codes "cwde"
text_of Cdq at len = codes "cdq"
text_of (Extend signed from to g a) at len = two_operands (extend_name signed) (register_name to g) (place_text from a)
text_of (Setcc c a) at len = one_operand (codes "set" ++ condition_name c) (place_text B8 a)
text_of (Cmov c g a) at len = two_operands (codes "cmov" ++ condition_name c) (register_name B32 g) (place_text B32 a)
text_of (Jcc c rel) at len = one_operand (codes "j" ++ condition_name c) (target_text at len rel)
text_of (Jmp rel) at len = one_operand (codes "jmp") (target_text at len rel)
text_of (JmpRm a) at len = one_operand (codes "jmp") (place_text B32 a)
text_of (Call rel) at len = one_operand (codes "call") (target_text at len rel)
text_of (CallRm a) at len = one_operand (codes "call") (place_text B32 a)
text_of (Ret n) at len = return_text n
text_of Leave at len = codes "leave"
text_of (Movs w rep) at len = string_text (codes "movs") w rep
text_of (Stos w rep) at len = string_text (codes "stos") w rep
text_of Cld at len = codes "cld"
text_of Std at len = codes "std"
text_of Sahf at len = codes "sahf"
text_of Int80 at len = codes "int 0x80"
text_of Nop at len = codes "nop"
