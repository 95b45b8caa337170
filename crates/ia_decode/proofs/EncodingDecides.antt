-- A reader sees no more than what it takes: so it reads the same from each list with that front.
use Rattle.std.proofs.Common.{◌≡◌, ℕ, ◌-◌, ◌≤◌, ◌/◌, ◌%◌, Bool, true, false, cond, not, ◌==◌, ◌&&◌, List, [], ◌∷◌, ◌++◌, length, Option, Some, None, refl, sym, ap, subst, ◌∙◌, append_assoc}
use Rattle.std.specs.Prelude.{nat_lt}
use Rattle.br_word.specs.declared.types.Width.{Width}
use Rattle.br_word.specs.declared.types.Width.TheVariants.{B8, B16, B32}
use Rattle.ia_inst.specs.declared.inst.Rm.{Rm}
use Rattle.ia_inst.specs.declared.inst.Rm.TheVariants.{Reg, Mem}
use Rattle.ia_inst.specs.declared.inst.Src.TheVariants as src
use Rattle.ia_inst.specs.declared.inst.Count.TheVariants as count
use Rattle.ia_inst.specs.declared.inst.Inst.{Inst}
use Rattle.ia_inst.specs.declared.inst.Inst.TheVariants as inst
use Rattle.ia_inst.specs.declared.prefixes.Prefix.{Prefix}
use Rattle.ia_inst.specs.declared.prefixes.Prefixes.{Prefixes}
use Rattle.ia_inst.specs.declared.prefixes.Prefixes.TheVariants.{Bare}
use Rattle.ia_inst.specs.declared.opcode.Opcode.{Opcode}
use Rattle.ia_inst.specs.declared.opcode.Opcode.TheVariants as opcode
use Rattle.ia_inst.specs.declared.opcode.Binary.{Binary}
use Rattle.ia_inst.specs.declared.opcode.Constant.{Constant}
use Rattle.ia_inst.specs.declared.opcode.Simple.{Simple}
use Rattle.ia_inst.specs.declared.opcode.Simple.TheVariants as simple
use Rattle.ia_inst.specs.declared.opcode.By.{By}
use Rattle.ia_inst.specs.declared.opcode.By.TheVariants as by
use Rattle.ia_inst.specs.declared.opcode.Second.{Second}
use Rattle.ia_inst.specs.declared.opcode.Second.TheVariants as second
use Rattle.ia_inst.specs.Operands.{extended, address, scaled}
use Rattle.ia_inst.specs.Spells.{extended_to}
use Rattle.ia_inst.specs.Reading.{◌>>=◌, Read, byte_at, four_at, displacement_at, based_at, memory_at, fields_at, operand_at}
use Rattle.ia_inst.specs.Prefixes.{prefix_of, with, more, is_bare, is_near, is_return, is_nop, padding_of, width_of, string_of, prefixes_at}
use Rattle.ia_inst.specs.Opcodes.{opcode_of, second_of}
use Rattle.ia_inst.specs.Instructions.{two_at, imm_at, binary_is, binary_at, constant_is, constant_at, alu_constant_at, mov_constant_at, absolute_at, memory_of, lea_at, unary_at, step_at, by_at, shift_of, shift_at, multiply_at, alu_byte_at, pop_at, simple_at, hint_at, is_repeat, end_branch_at, extend_at, second_at, escape_at, opcode_at, behind_at, inst_at, decode_of}
use Rattle.ia_decode.proofs.Readers.{bind_some, some, some_is, none_is}
use Rattle.ia_decode.proofs.PrefixFree.{taken, not_long, long_not}

-- what a reader took, after which it reads the same whatever follows
pub record Taken {A : Type 0} (f : List ℕ → Option (A × List ℕ)) (bytes : List ℕ) (x : A × List ℕ) : Type 0 where
  pub front : List ℕ
  pub parts : bytes ≡ front ++ x.1
  pub again : (rest : List ℕ) → f (front ++ rest) ≡ Some (x.0, rest)

abbrev Local : {A : Type 0} → (List ℕ → Option (A × List ℕ)) → Type 0
Local {A = A} f = (bytes : List ℕ) (x : A × List ℕ) → f bytes ≡ Some x → Taken f bytes x

-- ---- steps

some_local : {A : Type 0} (a : A) → Local (λ bs. some (a, bs))
some_local a bytes x e = subst (λ y. Taken (λ bs. some (a, bs)) bytes y) (some_is (a, bytes) x e) (record { front = []; parts = refl; again = λ rest. refl })

none_local : {A : Type 0} → Local {A = A} (λ bs. None)
none_local bytes x e = absurd (none_is x e)

bind_local : {A B : Type 0} (f : List ℕ → Option (A × List ℕ)) (g : A → List ℕ → Option (B × List ℕ)) → Local f → ((a : A) → Local (g a)) → Local (λ bs. f bs >>= λ x. g x.0 x.1)
bind_local f g p q bytes y e =
    let s = bind_some (f bytes) (λ x. g x.0 x.1) y e in
    let a = p bytes s.0 s.1 in
    let b = q s.0.0 s.0.1 y s.2 in
    record {
      front = a.front ++ b.front;
      parts = a.parts ∙ ap (λ w. a.front ++ w) b.parts ∙ sym (append_assoc a.front b.front y.1);
      again = λ rest. ap (λ w. f w >>= λ x. g x.0 x.1) (append_assoc a.front b.front rest) ∙ ap (λ o. o >>= λ x. g x.0 x.1) (a.again (b.front ++ rest)) ∙ b.again rest;
    }

map_local : {A B : Type 0} (f : List ℕ → Option (A × List ℕ)) (h : A → B) → Local f → Local (λ bs. f bs >>= λ x. Some (h x.0, x.1))
map_local f h p = bind_local f (λ a bs. some (h a, bs)) p (λ a. some_local (h a))

guard_local : {A B : Type 0} (m : Option A) (g : A → List ℕ → Option (B × List ℕ)) → ((a : A) → Local (g a)) → Local (λ bs. m >>= λ a. g a bs)
guard_local None g q = none_local
guard_local (Some a) g q = q a

if_local : {A : Type 0} (b : Bool) (f g : List ℕ → Option (A × List ℕ)) → Local f → Local g → Local (λ bs. cond b (f bs) (g bs))
if_local true f g p q = p
if_local false f g p q = q

only_if_local : {A : Type 0} (b : Bool) (f : List ℕ → Option (A × List ℕ)) → Local f → Local (λ bs. cond b (f bs) None)
only_if_local b f p = if_local b f (λ bs. None) p none_local

-- ---- bytes and operands

byte_local : Local byte_at
unfolding byte_at
byte_local [] x e = absurd (none_is x e)
byte_local (b ∷ bs) x e = subst (λ y. Taken byte_at (b ∷ bs) y) (some_is (b, bs) x e) (record { front = b ∷ []; parts = refl; again = λ rest. refl })

two_local : Local two_at
unfolding two_at
two_local [] x e = absurd (none_is x e)
two_local (a ∷ []) x e = absurd (none_is x e)
two_local (a ∷ b ∷ bs) x e = subst (λ y. Taken two_at (a ∷ b ∷ bs) y) (some_is _ x e) (record { front = a ∷ b ∷ []; parts = refl; again = λ rest. refl })

four_local : Local four_at
unfolding four_at
four_local [] x e = absurd (none_is x e)
four_local (a ∷ []) x e = absurd (none_is x e)
four_local (a ∷ b ∷ []) x e = absurd (none_is x e)
four_local (a ∷ b ∷ c ∷ []) x e = absurd (none_is x e)
four_local (a ∷ b ∷ c ∷ d ∷ bs) x e = subst (λ y. Taken four_at (a ∷ b ∷ c ∷ d ∷ bs) y) (some_is _ x e) (record { front = a ∷ b ∷ c ∷ d ∷ []; parts = refl; again = λ rest. refl })

imm_local : (w : Width) → Local (imm_at w)
unfolding imm_at
imm_local B8 = byte_local
imm_local B16 = two_local
imm_local B32 = four_local

displacement_local : (m : ℕ) → Local (displacement_at m)
unfolding displacement_at
displacement_local m = if_local (m == 0) (λ bs. some (0, bs)) (λ bs. cond (m == 1) (byte_at bs >>= λ d. Some (extended d.0, d.1)) (four_at bs)) (some_local 0) (if_local (m == 1) (λ bs. byte_at bs >>= λ d. Some (extended d.0, d.1)) four_at (map_local byte_at (λ d. extended d) byte_local) four_local)

based_local : (m r : ℕ) (index : Option (ℕ × ℕ)) → Local (based_at m r index)
unfolding based_at
based_local m r index = if_local ((m == 0) && (r == 5)) (λ bs. four_at bs >>= λ d. Some (address None index d.0, d.1)) (λ bs. displacement_at m bs >>= λ d. Some (address (Some r) index d.0, d.1)) (map_local four_at (λ d. address None index d) four_local) (map_local (displacement_at m) (λ d. address (Some r) index d) (displacement_local m))

memory_local : (m r : ℕ) → Local (memory_at m r)
unfolding memory_at
memory_local m r = if_local (r == 4) (λ bs. byte_at bs >>= λ s. based_at m (s.0 % 8) (scaled ((s.0 / 8) % 8) (s.0 / 64)) s.1) (based_at m r None) (bind_local byte_at (λ s. based_at m (s % 8) (scaled ((s / 8) % 8) (s / 64))) byte_local (λ s. based_local m (s % 8) (scaled ((s / 8) % 8) (s / 64)))) (based_local m r None)

record TakenOperand (bytes : List ℕ) (x : Read) : Type 0 where
  front : List ℕ
  parts : bytes ≡ front ++ x.2
  again : (rest : List ℕ) → operand_at (front ++ rest) ≡ Some (x.0, x.1, rest)

operand_taken : (bytes : List ℕ) (x : Read) → operand_at bytes ≡ Some x → TakenOperand bytes x
unfolding operand_at byte_at fields_at
operand_taken [] x e = absurd (none_is x e)
operand_taken (b ∷ bs) x e = by_test ((b / 64) == 3) refl e
  where
    by_test : (t : Bool) → ((b / 64) == 3) ≡ t → cond t (Some ((b / 8) % 8, Reg (b % 8), bs)) (memory_at (b / 64) (b % 8) bs >>= λ a. Some ((b / 8) % 8, Mem a.0, a.1)) ≡ Some x → TakenOperand (b ∷ bs) x
    by_test true f e = subst (λ y. TakenOperand (b ∷ bs) y) (some_is _ x e) (record { front = b ∷ []; parts = refl; again = λ rest. rw f refl })
    by_test false f e =
        let s = bind_some (memory_at (b / 64) (b % 8) bs) (λ a. Some ((b / 8) % 8, Mem a.0, a.1)) x e in
        let m = memory_local (b / 64) (b % 8) bs s.0 s.1 in
        subst (λ y. TakenOperand (b ∷ bs) y) (some_is _ x s.2) (record { front = b ∷ m.front; parts = ap (λ w. b ∷ w) m.parts; again = λ rest. rw (f, m.again rest) refl })

operand_then : {A : Type 0} (k : ℕ → Rm → List ℕ → Option (A × List ℕ)) → ((g : ℕ) (a : Rm) → Local (k g a)) → Local (λ bs. operand_at bs >>= λ x. k x.0 x.1 x.2)
operand_then k q bytes y e =
    let s = bind_some (operand_at bytes) (λ x. k x.0 x.1 x.2) y e in
    let a = operand_taken bytes s.0 s.1 in
    let b = q s.0.0 s.0.1 s.0.2 y s.2 in
    record {
      front = a.front ++ b.front;
      parts = a.parts ∙ ap (λ w. a.front ++ w) b.parts ∙ sym (append_assoc a.front b.front y.1);
      again = λ rest. ap (λ w. operand_at w >>= λ x. k x.0 x.1 x.2) (append_assoc a.front b.front rest) ∙ ap (λ o. o >>= λ x. k x.0 x.1 x.2) (a.again (b.front ++ rest)) ∙ b.again rest;
    }

-- an operand, and nothing behind it
operand_map : {A : Type 0} (h : ℕ → Rm → A) → Local (λ bs. operand_at bs >>= λ x. Some (h x.0 x.1, x.2))
operand_map h = operand_then (λ g a bs. some (h g a, bs)) (λ g a. some_local (h g a))

-- ---- what stands behind each opcode

binary_local : (c : Prefixes) (op : Binary) (byte : Bool) → Local (binary_at c op byte)
unfolding binary_at
binary_local c op byte = guard_local (width_of c byte) (λ w bs. operand_at bs >>= λ x. Some (binary_is op w x.0 x.1, x.2)) (λ w. operand_map (binary_is op w))

constant_local : (c : Prefixes) (op : Constant) (byte : Bool) → Local (constant_at c op byte)
unfolding constant_at
constant_local c op byte = guard_local (width_of c byte) (λ w bs. imm_at w bs >>= λ n. Some (constant_is op w n.0, n.1)) (λ w. map_local (imm_at w) (constant_is op w) (imm_local w))

alu_constant_local : (c : Prefixes) (ext : Bool) → Local (alu_constant_at c ext)
unfolding alu_constant_at
alu_constant_local c ext = guard_local (width_of c false) _ (λ w. operand_then (λ k a bs. cond ext (byte_at bs >>= λ n. Some (inst.Alu k w a (src.Imm (extended_to w n.0)), n.1)) (imm_at w bs >>= λ n. Some (inst.Alu k w a (src.Imm n.0), n.1))) (λ k a. if_local ext _ _ (map_local byte_at (λ n. inst.Alu k w a (src.Imm (extended_to w n))) byte_local) (map_local (imm_at w) (λ n. inst.Alu k w a (src.Imm n)) (imm_local w))))

mov_constant_local : (c : Prefixes) (byte : Bool) → Local (mov_constant_at c byte)
unfolding mov_constant_at
mov_constant_local c byte = guard_local (width_of c byte) _ (λ w. operand_then (λ g a bs. cond (g == 0) (imm_at w bs >>= λ n. Some (inst.Mov w a (src.Imm n.0), n.1)) None) (λ g a. only_if_local (g == 0) _ (map_local (imm_at w) (λ n. inst.Mov w a (src.Imm n)) (imm_local w))))

absolute_local : (c : Prefixes) (store byte : Bool) → Local (absolute_at c store byte)
unfolding absolute_at
absolute_local c store byte = guard_local (width_of c byte) _ (λ w. map_local four_at (λ d. cond store (inst.Mov w (Mem (address None None d)) (src.Rm (Reg 0))) (inst.Mov w (Reg 0) (src.Rm (Mem (address None None d))))) four_local)

lea_local : (c : Prefixes) → Local (lea_at c)
unfolding lea_at
lea_local c = guard_local (padding_of c) _ (λ wide. operand_then (λ g a bs. memory_of a >>= λ m. some (inst.Lea (cond wide B16 B32) g m, bs)) (λ g a. guard_local (memory_of a) (λ m bs. some (inst.Lea (cond wide B16 B32) g m, bs)) (λ m. some_local (inst.Lea (cond wide B16 B32) g m))))

unary_local : (c : Prefixes) (byte : Bool) → Local (unary_at c byte)
unfolding unary_at
unary_local c byte =
    operand_then (λ g a bs. cond (nat_lt 3 g) (cond (not byte && is_bare c) (some (inst.MulDiv g a, bs)) None)
    (width_of c byte >>= λ w. cond (g == 0) (imm_at w bs >>= λ n. Some (inst.Test w a (src.Imm n.0), n.1))
    (cond (g == 2) (some (inst.Not w a, bs)) (cond (g == 3) (some (inst.Neg w a, bs)) None))))
    (λ g a. if_local (nat_lt 3 g) _ _ (only_if_local (not byte && is_bare c) (λ bs. some (inst.MulDiv g a, bs)) (some_local (inst.MulDiv g a)))
    (guard_local (width_of c byte) _ (λ w. if_local (g == 0) _ _ (map_local (imm_at w) (λ n. inst.Test w a (src.Imm n)) (imm_local w))
    (if_local (g == 2) (λ bs. some (inst.Not w a, bs)) _ (some_local (inst.Not w a)) (only_if_local (g == 3) (λ bs. some (inst.Neg w a, bs)) (some_local (inst.Neg w a)))))))

-- an instruction that is read under a test
tested : (b : Bool) (i : Inst) → Local (λ bs. cond b (some (i, bs)) None)
tested b i = only_if_local b (λ bs. some (i, bs)) (some_local i)

-- an instruction of a width
of_some_width : (m : Option Width) (h : Width → Inst) → Local (λ bs. m >>= λ w. some (h w, bs))
of_some_width m h = guard_local m (λ w bs. some (h w, bs)) (λ w. some_local (h w))

step_local : (c : Prefixes) (byte : Bool) → Local (step_at c byte)
unfolding step_at
step_local c byte =
    operand_then (λ g a bs. cond (g == 0) (width_of c byte >>= λ w. some (inst.Inc w a, bs))
    (cond (g == 1) (width_of c byte >>= λ w. some (inst.Dec w a, bs))
    (cond byte None
    (cond (g == 2) (cond (is_near c) (some (inst.CallRm a, bs)) None)
    (cond (g == 4) (cond (is_near c) (some (inst.JmpRm a, bs)) None)
    (cond (g == 6) (cond (is_bare c) (some (inst.Push (src.Rm a), bs)) None) None))))))
    (λ g a. if_local (g == 0) _ _ (of_some_width (width_of c byte) (λ w. inst.Inc w a))
    (if_local (g == 1) _ _ (of_some_width (width_of c byte) (λ w. inst.Dec w a))
    (if_local byte (λ bs. None) _ none_local
    (if_local (g == 2) _ _ (tested (is_near c) (inst.CallRm a))
    (if_local (g == 4) _ _ (tested (is_near c) (inst.JmpRm a))
    (only_if_local (g == 6) _ (tested (is_bare c) (inst.Push (src.Rm a)))))))))

by_local : (way : By) → Local (by_at way)
unfolding by_at
by_local by.One = some_local (count.Imm 1)
by_local by.Byte = map_local byte_at (λ n. count.Imm n) byte_local
by_local by.Cl = some_local count.Cl

shift_local : (c : Prefixes) (way : By) (byte : Bool) → Local (shift_at c way byte)
unfolding shift_at
shift_local c way byte =
    operand_then (λ g a bs. by_at way bs >>= λ n. cond (nat_lt g 2) (cond (not byte && is_bare c) (some (inst.Rotate (g == 1) a n.0, n.1)) None) (width_of c byte >>= λ w. shift_of g >>= λ op. some (inst.Shift op w a n.0, n.1)))
    (λ g a. bind_local (by_at way) (λ n bs. cond (nat_lt g 2) (cond (not byte && is_bare c) (some (inst.Rotate (g == 1) a n, bs)) None) (width_of c byte >>= λ w. shift_of g >>= λ op. some (inst.Shift op w a n, bs))) (by_local way)
    (λ n. if_local (nat_lt g 2) _ _ (tested (not byte && is_bare c) (inst.Rotate (g == 1) a n))
    (guard_local (width_of c byte) _ (λ w. guard_local (shift_of g) (λ op bs. some (inst.Shift op w a n, bs)) (λ op. some_local (inst.Shift op w a n))))))

multiply_local : (byte : Bool) → Local (multiply_at byte)
unfolding multiply_at
multiply_local byte =
    operand_then (λ g a bs. cond byte (byte_at bs >>= λ n. Some (inst.Imul g a (Some (extended n.0)), n.1)) (four_at bs >>= λ n. Some (inst.Imul g a (Some n.0), n.1)))
    (λ g a. if_local byte _ _ (map_local byte_at (λ n. inst.Imul g a (Some (extended n))) byte_local) (map_local four_at (λ n. inst.Imul g a (Some n)) four_local))

alu_byte_local : Local alu_byte_at
unfolding alu_byte_at
alu_byte_local = operand_then (λ k a bs. byte_at bs >>= λ n. Some (inst.Alu k B8 a (src.Imm n.0), n.1)) (λ k a. map_local byte_at (λ n. inst.Alu k B8 a (src.Imm n)) byte_local)

pop_local : Local pop_at
unfolding pop_at
pop_local = operand_then (λ g a bs. cond (g == 0) (some (inst.Pop a, bs)) None) (λ g a. tested (g == 0) (inst.Pop a))

simple_local : (o : Simple) → Local (simple_at o)
unfolding simple_at
simple_local (simple.Whole i) = some_local i
simple_local simple.PushByte = map_local byte_at (λ n. inst.Push (src.Imm (extended n))) byte_local
simple_local simple.PushWord = map_local four_at (λ n. inst.Push (src.Imm n)) four_local
simple_local simple.PopOperand = pop_local
simple_local (simple.Multiply byte) = multiply_local byte
simple_local simple.AluByte = alu_byte_local
simple_local (simple.ShortJcc c) = map_local byte_at (λ n. inst.Jcc c (extended n)) byte_local
simple_local simple.Jmp = map_local four_at (λ n. inst.Jmp n) four_local
simple_local simple.ShortJmp = map_local byte_at (λ n. inst.Jmp (extended n)) byte_local
simple_local simple.Call = map_local four_at (λ n. inst.Call n) four_local
simple_local simple.RetPop = map_local two_at (λ n. inst.Ret n) two_local
simple_local simple.Interrupt = bind_local byte_at (λ n bs. cond (n == 0x80) (some (inst.Int80, bs)) None) byte_local (λ n. tested (n == 0x80) inst.Int80)

hint_local : (c : Prefixes) → Local (hint_at c)
unfolding hint_at
hint_local c = guard_local (padding_of c) _ (λ wide. operand_then (λ g a bs. cond (g == 0) (some (inst.Nop, bs)) None) (λ g a. tested (g == 0) inst.Nop))

end_branch_local : (c : Prefixes) → Local (end_branch_at c)
unfolding end_branch_at
end_branch_local c = bind_local byte_at (λ n bs. cond (is_repeat c && (n == 0xFB)) (some (inst.Nop, bs)) None) byte_local (λ n. tested (is_repeat c && (n == 0xFB)) inst.Nop)

extend_local : (c : Prefixes) (signed : Bool) → Local (extend_at c signed)
unfolding extend_at
extend_local c signed = guard_local (width_of c false) _ (λ w. operand_map (λ g a. inst.Extend signed B8 w g a))

second_local : (c : Prefixes) (o : Second) → Local (second_at c o)
unfolding second_at
second_local c second.Hint = hint_local c
second_local c second.EndBranch = end_branch_local c
second_local c (second.ExtendByte signed) = extend_local c signed
second_local c (second.ExtendWord signed) = only_if_local (is_bare c) _ (operand_map (λ g a. inst.Extend signed B16 B32 g a))
second_local c (second.Cmov k) = only_if_local (is_bare c) _ (operand_map (λ g a. inst.Cmov k g a))
second_local c (second.Setcc k) = only_if_local (is_bare c) _ (operand_map (λ g a. inst.Setcc k a))
second_local c second.Imul = only_if_local (is_bare c) _ (operand_map (λ g a. inst.Imul g a None))
second_local c (second.Jcc k) = only_if_local (is_bare c) _ (map_local four_at (λ n. inst.Jcc k n) four_local)

escape_local : (c : Prefixes) → Local (escape_at c)
unfolding escape_at
escape_local c = bind_local byte_at (λ b bs. second_of b >>= λ o. second_at c o bs) byte_local (λ b. guard_local (second_of b) (λ o. second_at c o) (second_local c))

opcode_local : (c : Prefixes) (o : Opcode) → Local (opcode_at c o)
unfolding opcode_at
opcode_local c (opcode.Simple o) = only_if_local (is_bare c) (simple_at o) (simple_local o)
opcode_local c (opcode.Binary op byte) = binary_local c op byte
opcode_local c (opcode.Constant op byte) = constant_local c op byte
opcode_local c (opcode.AluConstant ext) = alu_constant_local c ext
opcode_local c (opcode.MovConstant byte) = mov_constant_local c byte
opcode_local c (opcode.Absolute store byte) = absolute_local c store byte
opcode_local c opcode.Lea = lea_local c
opcode_local c (opcode.Exchange r) = of_some_width (width_of c false) (λ w. inst.Xchg w (Reg r) 0)
opcode_local c (opcode.Inc r) = of_some_width (width_of c false) (λ w. inst.Inc w (Reg r))
opcode_local c (opcode.Dec r) = of_some_width (width_of c false) (λ w. inst.Dec w (Reg r))
opcode_local c (opcode.Unary byte) = unary_local c byte
opcode_local c (opcode.Step byte) = step_local c byte
opcode_local c (opcode.Shift way byte) = shift_local c way byte
opcode_local c opcode.Ret = tested (is_return c) (inst.Ret 0)
opcode_local c (opcode.Movs byte) = guard_local (string_of c byte) (λ w bs. some (inst.Movs w.0 w.1, bs)) (λ w. some_local (inst.Movs w.0 w.1))
opcode_local c (opcode.Stos byte) = guard_local (string_of c byte) (λ w bs. some (inst.Stos w.0 w.1, bs)) (λ w. some_local (inst.Stos w.0 w.1))
opcode_local c opcode.Nop = tested (is_nop c) inst.Nop
opcode_local c opcode.Escape = escape_local c

-- ---- prefixes, which end before a byte b

record Before (c : Prefixes) (bytes : List ℕ) (b : ℕ) (t : List ℕ) : Type 0 where
  front : List ℕ
  parts : bytes ≡ front ++ b ∷ t
  again : (rest : List ℕ) → prefixes_at c (front ++ b ∷ rest) ≡ ((prefixes_at c bytes).0, b ∷ rest)

head_is : (a b : ℕ) (s t : List ℕ) → a ∷ s ≡ b ∷ t → a ≡ b
head_is a b s t e = cc

tail_is : (a b : ℕ) (s t : List ℕ) → a ∷ s ≡ b ∷ t → s ≡ t
tail_is a b s t e = cc

more_is : (c : Prefixes) (d : ℕ) (bs : List ℕ) (p : Option Prefix) → prefix_of d ≡ p → prefixes_at c (d ∷ bs) ≡ more c p (λ next. prefixes_at next bs) (c, d ∷ bs)
unfolding prefixes_at
more_is c d bs p f = ap (λ (q : Option Prefix). more c q (λ next. prefixes_at next bs) (c, d ∷ bs)) f

joined_before : (c : Prefixes) (d : ℕ) (bs : List ℕ) (b : ℕ) (t : List ℕ) → ((x : Prefix) → (prefixes_at (with c x) bs).1 ≡ b ∷ t → Before (with c x) bs b t) → (p : Option Prefix) → prefix_of d ≡ p → (more c p (λ next. prefixes_at next bs) (c, d ∷ bs)).1 ≡ b ∷ t → Before c (d ∷ bs) b t
joined_before c d bs b t go None f e =
    let here : Before c (d ∷ bs) d bs = record { front = []; parts = refl; again = λ rest. more_is c d rest None f ∙ ap (λ (q : Prefixes × List ℕ). (q.0, d ∷ rest)) (sym (more_is c d bs None f)) } in
    subst (λ (x : ℕ). Before c (d ∷ bs) x t) (head_is d b bs t e) (subst (λ (u : List ℕ). Before c (d ∷ bs) d u) (tail_is d b bs t e) here)
joined_before c d bs b t go (Some one) f e =
    let before = go one e in
    record {
      front = d ∷ before.front;
      parts = ap (λ (w : List ℕ). d ∷ w) before.parts;
      again = λ rest. more_is c d (before.front ++ b ∷ rest) (Some one) f ∙ before.again rest ∙ ap (λ (q : Prefixes × List ℕ). (q.0, b ∷ rest)) (sym (more_is c d bs (Some one) f));
    }

prefixes_before : (c : Prefixes) (bytes : List ℕ) (b : ℕ) (t : List ℕ) → (prefixes_at c bytes).1 ≡ b ∷ t → Before c bytes b t
unfolding prefixes_at
prefixes_before c [] b t e = absurd cc
prefixes_before c (d ∷ bs) b t e = joined_before c d bs b t (λ x. prefixes_before (with c x) bs b t) (prefix_of d) refl e

byte_is : (bytes : List ℕ) (x : ℕ × List ℕ) → byte_at bytes ≡ Some x → bytes ≡ x.0 ∷ x.1
unfolding byte_at
byte_is [] x e = absurd (none_is x e)
byte_is (b ∷ bs) x e = ap (λ (y : ℕ × List ℕ). y.0 ∷ y.1) (some_is (b, bs) x e)

inst_local : Local inst_at
unfolding inst_at behind_at byte_at
inst_local bytes x e =
    let c = (prefixes_at Bare bytes).0 in
    let s = bind_some (byte_at (prefixes_at Bare bytes).1) (λ b. opcode_of b.0 >>= λ o. opcode_at c o b.1) x e in
    let p = prefixes_before Bare bytes s.0.0 s.0.1 (byte_is (prefixes_at Bare bytes).1 s.0 s.1) in
    let behind : Local (λ bs. opcode_of s.0.0 >>= λ o. opcode_at c o bs) = guard_local (opcode_of s.0.0) (λ o. opcode_at c o) (opcode_local c) in
    let q = behind s.0.1 x s.2 in
    record {
      front = p.front ++ s.0.0 ∷ q.front;
      parts = p.parts ∙ ap (λ (w : List ℕ). p.front ++ s.0.0 ∷ w) q.parts ∙ sym (append_assoc p.front (s.0.0 ∷ q.front) x.1);
      again = λ rest. ap inst_at (append_assoc p.front (s.0.0 ∷ q.front) rest) ∙ ap behind_at (p.again (q.front ++ rest)) ∙ q.again rest;
    }

-- ---- whole instructions

-- what was read, wherever it stands
pub record Alone (bytes : List ℕ) (x : Inst × ℕ) : Type 0 where
  pub front : List ℕ
  pub rest : List ℕ
  pub parts : bytes ≡ front ++ rest
  pub long : length front ≡ x.1
  pub short : x.1 ≤ 15
  pub again : (more : List ℕ) → decode_of (front ++ more) ≡ Some x

kept : (b : Bool) (i : Inst) (n : ℕ) (x : Inst × ℕ) → cond b None (some (i, n)) ≡ Some x → (b ≡ false) × ((i, n) ≡ x)
kept true i n x e = absurd (none_is x e)
kept false i n x e = (refl, some_is (i, n) x e)

pub decode_alone : (bytes : List ℕ) (x : Inst × ℕ) → decode_of bytes ≡ Some x → Alone bytes x
unfolding decode_of
decode_alone bytes x e =
    let s = bind_some (inst_at bytes) _ x e in
    let f = inst_local bytes s.0 s.1 in
    let n : length bytes - length s.0.1 ≡ length f.front = ap (λ (w : List ℕ). length w - length s.0.1) f.parts ∙ taken f.front s.0.1 in
    let t = kept (nat_lt 15 (length bytes - length s.0.1)) s.0.0 (length bytes - length s.0.1) x s.2 in
    let l : length f.front ≤ 15 = rw (← n) (long_not _ t.0) in
    let made : Alone bytes (s.0.0, length bytes - length s.0.1) = record {
      front = f.front;
      rest = s.0.1;
      parts = f.parts;
      long = sym n;
      short = long_not _ t.0;
      again = λ more. rw (f.again more, taken f.front more, not_long (length f.front) l, n) refl;
    } in
    subst (λ (y : Inst × ℕ). Alone bytes y) t.1 made
