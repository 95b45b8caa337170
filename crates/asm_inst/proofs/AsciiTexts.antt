-- The texts of instructions are ASCII.
use Rattle.std.proofs.Common.{◌≡◌, ℕ, zero, suc, ◌+◌, ◌%◌, ◌^◌, ◌<◌, ◌≤◌, ◌&&◌, not, Bool, true, false, cond, leb, ltb, eqb, List, [], ◌∷◌, ◌++◌, Option, Some, None, refl, arith, inl, inr}
use Rattle.std.specs.Prelude.{codes, length, slice_index}
use Rattle.std.specs.Fmt.{decimal, digits}
use Rattle.std.proofs.lemmas.Bool.{and_parts, and_from, or_cases, leb-true, ltb-true, lt-ltb, agree_below_at}
use Rattle.std.proofs.lemmas.Str.Ascii.{IsAscii-nil}
use Rattle.br_word.specs.declared.types.ShiftOp.{ShiftOp}
use Rattle.br_word.specs.declared.types.ShiftOp.TheVariants.{Shl, Shr, Sar}
use Rattle.br_word.specs.declared.types.Width.{Width}
use Rattle.br_word.specs.declared.types.Width.TheVariants.{B8, B16, B32}
use Rattle.ia_inst.specs.declared.inst.Addr.{Addr}
use Rattle.ia_inst.specs.declared.inst.Rm.{Rm}
use Rattle.ia_inst.specs.declared.inst.Rm.TheVariants.{Reg, Mem}
use Rattle.ia_inst.specs.declared.inst.Src.{Src}
use Rattle.ia_inst.specs.declared.inst.Src.TheVariants as src
use Rattle.ia_inst.specs.declared.inst.Count.{Count}
use Rattle.ia_inst.specs.declared.inst.Count.TheVariants as count
use Rattle.ia_inst.specs.declared.inst.Inst.{Inst}
use Rattle.ia_inst.specs.declared.inst.Inst.TheVariants as inst
use Rattle.ia_inst.specs.Canonical.{imm_valid, base_valid, index_valid, address_valid, rm_valid, count_valid, move_valid, is_long, widens, valid_of, canonical}
use Rattle.ia_text.specs.Names.{register_name, alu_name, multiply_name, shift_name, rotate_name, extend_name, condition_name}
use Rattle.ia_text.specs.Operands.{number_text, displacement_text, index_text, sum_text, address_text, place_text, source_text, count_text}
use Rattle.ia_text.specs.Text.{one_operand, two_operands, target_text, string_text, text_of}
use Rattle.asm_inst.specs.Names.{is_plain, plain}
use Rattle.asm_inst.specs.Shapes.{TextsAreAscii}
use Rattle.asm_inst.proofs.NamesRead.{register_plain}
use Rattle.asm_inst.proofs.Numbers.{number_plain}
use Rattle.asm_inst.proofs.Addresses.{is_scale, scale_cases}
use Rattle.asm_inst.proofs.Places.{source_fits}
use Rattle.asm_inst.proofs.ReadingBack.{move_parts, test_parts, source_parts, target_valid}

-- each byte is below 128, as a test
abbrev pub ascii : List ℕ → Bool
ascii [] = true
ascii (x ∷ xs) = ltb x 128 && ascii xs

pub from_ascii : (xs : List ℕ) (i : ℕ) → ascii xs ≡ true → slice_index xs i < 128
from_ascii [] i h = IsAscii-nil i
from_ascii (x ∷ xs) zero h = ltb-true x 128 ((and_parts (ltb x 128) (ascii xs) h).0)
from_ascii (x ∷ xs) (suc i) h = from_ascii xs i ((and_parts (ltb x 128) (ascii xs) h).1)

pub ascii_append : (xs ys : List ℕ) → ascii xs ≡ true → ascii ys ≡ true → ascii (xs ++ ys) ≡ true
ascii_append [] ys h k = k
ascii_append (x ∷ xs) ys h k =
    let p = and_parts (ltb x 128) (ascii xs) h in
    and_from (ltb x 128) (ascii (xs ++ ys)) p.0 (ascii_append xs ys p.1 k)

pub plain_byte : (x : ℕ) → is_plain x ≡ true → ltb x 128 ≡ true
unfolding is_plain
plain_byte x h = elim (or_cases (leb 48 x && leb x 57) (leb 97 x && leb x 122) h) [
  | inl p ↦ let u : x ≤ 57 = leb-true x 57 ((and_parts (leb 48 x) (leb x 57) p).1) in lt-ltb x 128 (omega arith)
  | inr p ↦ let u : x ≤ 122 = leb-true x 122 ((and_parts (leb 97 x) (leb x 122) p).1) in lt-ltb x 128 (omega arith)
]

pub plain_ascii : (xs : List ℕ) → plain xs ≡ true → ascii xs ≡ true
unfolding plain
plain_ascii [] h = refl
plain_ascii (x ∷ xs) h =
    let p = and_parts (is_plain x) (plain xs) h in
    and_from (ltb x 128) (ascii xs) (plain_byte x p.0) (plain_ascii xs p.1)

-- ---- words

register_ascii : (w : Width) (r : ℕ) → r < 8 → ascii (register_name w r) ≡ true
register_ascii w r l = plain_ascii (register_name w r) (register_plain w r l)

number_ascii : (w : Width) (n : ℕ) → imm_valid w n ≡ true → ascii (number_text w n) ≡ true
number_ascii w n v = plain_ascii (number_text w n) (number_plain w n v)

alu_ascii : (k : ℕ) → k < 8 → ascii (alu_name k) ≡ true
alu_ascii k l = agree_below_at (λ j. ascii (alu_name j)) (λ j. true) 8 k refl l

multiply_ascii : (k : ℕ) → k < 8 → ascii (multiply_name k) ≡ true
multiply_ascii k l = agree_below_at (λ j. ascii (multiply_name j)) (λ j. true) 8 k refl l

condition_ascii : (c : ℕ) → c < 16 → ascii (condition_name c) ≡ true
condition_ascii c l = agree_below_at (λ j. ascii (condition_name j)) (λ j. true) 16 c refl l

shift_ascii : (op : ShiftOp) → ascii (shift_name op) ≡ true
shift_ascii Shl = refl
shift_ascii Shr = refl
shift_ascii Sar = refl

rotate_ascii : (right : Bool) → ascii (rotate_name right) ≡ true
rotate_ascii true = refl
rotate_ascii false = refl

extend_ascii : (signed : Bool) → ascii (extend_name signed) ≡ true
extend_ascii true = refl
extend_ascii false = refl

-- ---- addresses

scale_ascii : (k : ℕ) → is_scale k ≡ true → ascii (decimal k) ≡ true
unfolding digits
scale_ascii = scale_cases (λ k. ascii (decimal k) ≡ true) refl refl refl refl

index_ascii : (x : ℕ × ℕ) → index_valid (Some x) ≡ true → ascii (index_text x) ≡ true
index_ascii x v =
    let p = and_parts (ltb x.0 8 && not (eqb x.0 4)) (is_scale x.1) v in
    let q = and_parts (ltb x.0 8) (not (eqb x.0 4)) p.0 in
    ascii_append (register_name B32 x.0) (42 ∷ decimal x.1) (register_ascii B32 x.0 (ltb-true x.0 8 q.0)) (scale_ascii x.1 p.1)

displaced : (d : ℕ) (b : Bool) → imm_valid B32 d ≡ true → ascii (cond b [] (43 ∷ number_text B32 d)) ≡ true
displaced d true v = refl
displaced d false v = number_ascii B32 d v

displacement_ascii : (d : ℕ) → imm_valid B32 d ≡ true → ascii (displacement_text d) ≡ true
displacement_ascii d v = displaced d (eqb d 0) v

sum_ascii : (b : Option ℕ) (x : Option (ℕ × ℕ)) (d : ℕ) → base_valid b ≡ true → index_valid x ≡ true → imm_valid B32 d ≡ true → ascii (sum_text b x d) ≡ true
sum_ascii None None d u v w = number_ascii B32 d w
sum_ascii (Some b) None d u v w = ascii_append (register_name B32 b) (displacement_text d) (register_ascii B32 b (ltb-true b 8 u)) (displacement_ascii d w)
sum_ascii None (Some x) d u v w = ascii_append (index_text x) (displacement_text d) (index_ascii x v) (displacement_ascii d w)
sum_ascii (Some b) (Some x) d u v w =
    ascii_append (register_name B32 b) (43 ∷ (index_text x ++ displacement_text d)) (register_ascii B32 b (ltb-true b 8 u))
    (ascii_append (index_text x) (displacement_text d) (index_ascii x v) (displacement_ascii d w))

address_ascii : (a : Addr) → address_valid a ≡ true → ascii (address_text a) ≡ true
address_ascii a v =
    let p = and_parts (base_valid a.base) (index_valid a.index && imm_valid B32 a.disp) v in
    let q = and_parts (index_valid a.index) (imm_valid B32 a.disp) p.1 in
    ascii_append (sum_text a.base a.index a.disp) (93 ∷ []) (sum_ascii a.base a.index a.disp p.0 q.0 q.1) refl

-- ---- operands

place_ascii : (w : Width) (a : Rm) → rm_valid a ≡ true → ascii (place_text w a) ≡ true
place_ascii w (Reg r) v = register_ascii w r (ltb-true r 8 v)
place_ascii B8 (Mem a) v = address_ascii a v
place_ascii B16 (Mem a) v = address_ascii a v
place_ascii B32 (Mem a) v = address_ascii a v

source_ascii : (w : Width) (s : Src) → source_fits w s ≡ true → ascii (source_text w s) ≡ true
source_ascii w (src.Rm a) v = place_ascii w a v
source_ascii w (src.Imm n) v = number_ascii w n v

count_ascii : (n : Count) → count_valid n ≡ true → ascii (count_text n) ≡ true
count_ascii (count.Imm n) v = number_ascii B8 n v
count_ascii count.Cl v = refl

one : (name a : List ℕ) → ascii name ≡ true → ascii a ≡ true → ascii (one_operand name a) ≡ true
one name a h k = ascii_append name (32 ∷ a) h k

two : (name a b : List ℕ) → ascii name ≡ true → ascii a ≡ true → ascii b ≡ true → ascii (two_operands name a b) ≡ true
two name a b h k l = ascii_append name (32 ∷ (a ++ (44 ∷ 32 ∷ b))) h (ascii_append a (44 ∷ 32 ∷ b) k l)

-- ---- instructions

returned : (n : ℕ) (b : Bool) → imm_valid B16 n ≡ true → ascii (cond b (codes "ret") (one_operand (codes "ret") (number_text B16 n))) ≡ true
returned n true v = refl
returned n false v = number_ascii B16 n v

string_ascii : (name : List ℕ) (w : Width) (rep : Bool) → ascii name ≡ true → ascii (string_text name w rep) ≡ true
string_ascii name B8 true h = ascii_append name (98 ∷ []) h refl
string_ascii name B8 false h = ascii_append name (98 ∷ []) h refl
string_ascii name B16 true h = ascii_append name (119 ∷ []) h refl
string_ascii name B16 false h = ascii_append name (119 ∷ []) h refl
string_ascii name B32 true h = ascii_append name (100 ∷ []) h refl
string_ascii name B32 false h = ascii_append name (100 ∷ []) h refl

target_ascii : (at len rel : ℕ) → ascii (target_text at len rel) ≡ true
target_ascii at len rel = number_ascii B32 ((at + len + rel) % 2 ^ 32) (target_valid at len rel)

text_ascii : (i : Inst) (at len : ℕ) → valid_of i ≡ true → ascii (text_of i at len) ≡ true
text_ascii (inst.Alu k w a s) at len v =
    let p = and_parts (ltb k 8) (move_valid w a s) v in
    let q = move_parts w a s p.1 in
    two (alu_name k) (place_text w a) (source_text w s) (alu_ascii k (ltb-true k 8 p.0)) (place_ascii w a q.0) (source_ascii w s q.1)
text_ascii (inst.Test w a s) at len v =
    let q = test_parts w a s v in
    two (codes "test") (place_text w a) (source_text w s) refl (place_ascii w a q.0) (source_ascii w s q.1)
text_ascii (inst.Mov w a s) at len v =
    let q = move_parts w a s v in
    two (codes "mov") (place_text w a) (source_text w s) refl (place_ascii w a q.0) (source_ascii w s q.1)
text_ascii (inst.Lea w g a) at len v =
    let p = and_parts (ltb g 8) (address_valid a) ((and_parts (is_long w) (ltb g 8 && address_valid a) v).1) in
    two (codes "lea") (register_name w g) (address_text a) refl (register_ascii w g (ltb-true g 8 p.0)) (address_ascii a p.1)
text_ascii (inst.Xchg w a g) at len v =
    let p = and_parts (rm_valid a) (ltb g 8) v in
    two (codes "xchg") (place_text w a) (register_name w g) refl (place_ascii w a p.0) (register_ascii w g (ltb-true g 8 p.1))
text_ascii (inst.Inc w a) at len v = place_ascii w a v
text_ascii (inst.Dec w a) at len v = place_ascii w a v
text_ascii (inst.Not w a) at len v = place_ascii w a v
text_ascii (inst.Neg w a) at len v = place_ascii w a v
text_ascii (inst.Push s) at len v = source_ascii B32 s (source_parts s v)
text_ascii (inst.Pop a) at len v = place_ascii B32 a v
text_ascii (inst.MulDiv k a) at len v =
    let p = and_parts (ltb 3 k && ltb k 8) (rm_valid a) v in
    one (multiply_name k) (place_text B32 a) (multiply_ascii k (ltb-true k 8 ((and_parts (ltb 3 k) (ltb k 8) p.0).1))) (place_ascii B32 a p.1)
text_ascii (inst.Imul g a None) at len v =
    let p = and_parts (ltb g 8) (rm_valid a && true) v in
    two (codes "imul") (register_name B32 g) (place_text B32 a) refl (register_ascii B32 g (ltb-true g 8 p.0)) (place_ascii B32 a ((and_parts (rm_valid a) true p.1).0))
text_ascii (inst.Imul g a (Some n)) at len v =
    let p = and_parts (ltb g 8) (rm_valid a && imm_valid B32 n) v in
    let q = and_parts (rm_valid a) (imm_valid B32 n) p.1 in
    ascii_append (two_operands (codes "imul") (register_name B32 g) (place_text B32 a)) (44 ∷ 32 ∷ number_text B32 n)
    (two (codes "imul") (register_name B32 g) (place_text B32 a) refl (register_ascii B32 g (ltb-true g 8 p.0)) (place_ascii B32 a q.0)) (number_ascii B32 n q.1)
text_ascii (inst.Shift op w a n) at len v =
    let p = and_parts (rm_valid a) (count_valid n) v in
    two (shift_name op) (place_text w a) (count_text n) (shift_ascii op) (place_ascii w a p.0) (count_ascii n p.1)
text_ascii (inst.Rotate right a n) at len v =
    let p = and_parts (rm_valid a) (count_valid n) v in
    two (rotate_name right) (place_text B32 a) (count_text n) (rotate_ascii right) (place_ascii B32 a p.0) (count_ascii n p.1)
text_ascii inst.Cwde at len v = refl
text_ascii inst.Cdq at len v = refl
text_ascii (inst.Extend signed from to g a) at len v =
    let p = and_parts (ltb g 8) (rm_valid a) ((and_parts (widens from to) (ltb g 8 && rm_valid a) v).1) in
    two (extend_name signed) (register_name to g) (place_text from a) (extend_ascii signed) (register_ascii to g (ltb-true g 8 p.0)) (place_ascii from a p.1)
text_ascii (inst.Setcc c a) at len v =
    let p = and_parts (ltb c 16) (rm_valid a) v in
    one (codes "set" ++ condition_name c) (place_text B8 a) (condition_ascii c (ltb-true c 16 p.0)) (place_ascii B8 a p.1)
text_ascii (inst.Cmov c g a) at len v =
    let p = and_parts (ltb c 16) (ltb g 8 && rm_valid a) v in
    let q = and_parts (ltb g 8) (rm_valid a) p.1 in
    two (codes "cmov" ++ condition_name c) (register_name B32 g) (place_text B32 a) (condition_ascii c (ltb-true c 16 p.0)) (register_ascii B32 g (ltb-true g 8 q.0)) (place_ascii B32 a q.1)
text_ascii (inst.Jcc c n) at len v =
    let p = and_parts (ltb c 16) (imm_valid B32 n) v in
    one (codes "j" ++ condition_name c) (target_text at len n) (condition_ascii c (ltb-true c 16 p.0)) (target_ascii at len n)
text_ascii (inst.Jmp n) at len v = target_ascii at len n
text_ascii (inst.JmpRm a) at len v = place_ascii B32 a v
text_ascii (inst.Call n) at len v = target_ascii at len n
text_ascii (inst.CallRm a) at len v = place_ascii B32 a v
text_ascii (inst.Ret n) at len v = returned n (eqb n 0) v
text_ascii inst.Leave at len v = refl
text_ascii (inst.Movs w rep) at len v = string_ascii (codes "movs") w rep refl
text_ascii (inst.Stos w rep) at len v = string_ascii (codes "stos") w rep refl
text_ascii inst.Cld at len v = refl
text_ascii inst.Std at len v = refl
text_ascii inst.Sahf at len v = refl
text_ascii inst.Int80 at len v = refl
text_ascii inst.Nop at len v = refl

pub texts_are_ascii : TextsAreAscii
texts_are_ascii i at v = λ j. from_ascii (text_of i at (length (canonical i))) j (text_ascii i at (length (canonical i)) v)
