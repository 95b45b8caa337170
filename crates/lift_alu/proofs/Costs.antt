-- A row has at most 32 lines.
use Rattle.std.proofs.Common.{◌≡◌, ℕ, ◌+◌, ◌/◌, ◌%◌, ◌≤◌, Bool, true, false, cond, Option, Some, None, List, [], ◌∷◌, ◌++◌, length, ◌∙◌, arith, length-append}
use Rattle.std.specs.Prelude.{◌==◌, nat_lt}
use Rattle.br_word.specs.declared.types.Width.{Width}
use Rattle.br_word.specs.declared.types.Width.TheVariants.{B8, B16, B32}
use Rattle.br_word.specs.declared.types.ShiftOp.{ShiftOp}
use Rattle.br_word.specs.declared.types.ShiftOp.TheVariants as shift
use Rattle.ia_inst.specs.declared.inst.Inst.{Inst}
use Rattle.ia_inst.specs.declared.inst.Inst.TheVariants.{Alu, Test, Mov, Lea, Xchg, Inc, Dec, Not, Neg, Push, Pop, MulDiv, Imul, Shift, Rotate, Cwde, Cdq, Extend, Setcc, Cmov, Jcc, Jmp, JmpRm, Call, CallRm, Ret, Leave, Movs, Stos, Cld, Std, Sahf, Int80, Nop}
use Rattle.ia_inst.specs.declared.inst.Rm.{Rm}
use Rattle.ia_inst.specs.declared.inst.Rm.TheVariants.{Reg, Mem}
use Rattle.ia_inst.specs.declared.inst.Src.{Src}
use Rattle.ia_inst.specs.declared.inst.Src.TheVariants as src
use Rattle.ia_inst.specs.declared.inst.Count.{Count}
use Rattle.ia_inst.specs.declared.inst.Count.TheVariants.{Imm, Cl}
use Rattle.ia_inst.specs.Meaning.{wrap}
use Rattle.ssa_form.specs.declared.form.Block.{Block}
use Rattle.ssa_form.specs.declared.form.Val.{Val}
use Rattle.ssa_form.specs.declared.form.Line.{Line}
use Rattle.ssa_form.specs.declared.form.BinOp.TheVariants.{Add, Sub, Shl, Sar}
use Rattle.lift_alu.specs.Steps.{InCf, Expr, Cur, Got, Lit, Op, Fn, Sel, Step, Name, Fetch, Put, Write, Draft, emit, Rowed, row_step, row_steps, unnamed}
use Rattle.lift_alu.specs.Operands.{masked, read_reg, write_reg, scaled, plus_disp, address_parts, address_expr, place, read_operand, write_operand, source_place, read_source}
use Rattle.lift_alu.specs.Table.{a', b', r', s', n', extended, count_expr, even_expr, condition_expr}
use Rattle.lift_alu.specs.Lifted.{row_alu, row_of, draft_of, lifted}

abbrev pub cost : Expr → ℕ
cost (Cur p) = 0
cost (Got k) = 0
cost (Lit n) = 0
cost (Op o x y) = cost x + cost y + 1
cost (Fn o x) = cost x + 1
cost (Sel x y z) = cost x + cost y + cost z + 1

abbrev pub step_cost : Step → ℕ
step_cost (Name k e) = cost e
step_cost (Fetch k w e) = cost e + 1
step_cost (Put p e) = cost e
step_cost (Write w at e) = cost at + cost e + 1

abbrev pub costs : List Step → ℕ
costs [] = 0
costs (x ∷ xs) = step_cost x + costs xs

one_line : (ls : List Line) (l : Line) → length (ls ++ l ∷ []) ≡ length ls + 1
one_line ls l = length-append ls (l ∷ [])

emit_count : (x : Expr) (vals : ℕ → Val) (b : Draft) → length (emit vals x b).to.lines ≡ length b.lines + cost x
emit_count (Cur p) vals b = omega arith
emit_count (Got k) vals b = omega arith
emit_count (Lit n) vals b = omega arith
emit_count (Op o x y) vals b = let p = emit_count x vals b in let q = emit_count y vals (emit vals x b).to in one_line _ _ ∙ omega arith
emit_count (Fn o x) vals b = let p = emit_count x vals b in one_line _ _ ∙ omega arith
emit_count (Sel x y z) vals b = let p = emit_count x vals b in let q = emit_count y vals (emit vals x b).to in let t = emit_count z vals (emit vals y (emit vals x b).to).to in one_line _ _ ∙ omega arith

step_count : (x : Step) (r : Rowed) → length (row_step x r).draft.lines ≡ length r.draft.lines + step_cost x
unfolding row_step
step_count (Name k e) r = emit_count e r.vals r.draft
step_count (Fetch k w e) r = let p = emit_count e r.vals r.draft in one_line _ _ ∙ omega arith
step_count (Put p e) r = emit_count e r.vals r.draft
step_count (Write w at e) r = let p = emit_count at r.vals r.draft in let q = emit_count e r.vals (emit r.vals at r.draft).to in one_line _ _ ∙ omega arith

steps_count : (xs : List Step) (r : Rowed) → length (row_steps xs r).draft.lines ≡ length r.draft.lines + costs xs
steps_count [] r = omega arith
steps_count (x ∷ xs) r = let p = step_count x r in let q = steps_count xs (row_step x r) in omega arith

-- ---- parts of rows
if_cost : (b : Bool) (x y : Expr) (n : ℕ) → cost x ≤ n → cost y ≤ n → cost (cond b x y) ≤ n
if_cost true x y n p q = p
if_cost false x y n p q = q

if_step : (b : Bool) (x y : Step) (n : ℕ) → step_cost x ≤ n → step_cost y ≤ n → step_cost (cond b x y) ≤ n
if_step true x y n p q = p
if_step false x y n p q = q

masked_cost : (w : Width) (e : Expr) → cost (masked w e) ≤ cost e + 1
masked_cost B8 e = omega arith
masked_cost B16 e = omega arith
masked_cost B32 e = omega arith

read_reg_cost : (w : Width) (r : ℕ) → cost (read_reg w r) ≤ 2
read_reg_cost B8 r = if_cost (nat_lt r 4) _ _ 2 (omega arith) (omega arith)
read_reg_cost B16 r = omega arith
read_reg_cost B32 r = omega arith

write_reg_cost : (w : Width) (r : ℕ) (e : Expr) → step_cost (write_reg w r e) ≤ cost e + 3
write_reg_cost B8 r e = if_step (nat_lt r 4) _ _ _ (omega arith) (omega arith)
write_reg_cost B16 r e = omega arith
write_reg_cost B32 r e = omega arith

scaled_cost : (r k : ℕ) → cost (scaled r k) ≤ 1
scaled_cost r k = if_cost (k == 1) _ _ 1 (omega arith) (omega arith)

disp_cost : (e : Expr) (d : ℕ) → cost (plus_disp e d) ≤ cost e + 1
disp_cost e d = if_cost (d == 0) _ _ _ (omega arith) (omega arith)

parts_cost : (base : Option ℕ) (index : Option (ℕ × ℕ)) (d : ℕ) → cost (address_parts base index d) ≤ 3
parts_cost None None d = omega arith
parts_cost (Some b) None d = let p = disp_cost (address_parts (Some b) None 0) d in omega arith
parts_cost None (Some i) d = let p = disp_cost (scaled i.0 i.1) d in let q = scaled_cost i.0 i.1 in omega arith
parts_cost (Some b) (Some i) d = let p = disp_cost (address_parts (Some b) (Some i) 0) d in let q = scaled_cost i.0 i.1 in omega arith

place_cost : (rm : Rm) → cost (place rm) ≤ 3
place_cost (Reg r) = omega arith
place_cost (Mem a) = parts_cost a.base a.index a.disp

read_cost : (w : Width) (j k : ℕ) (rm : Rm) → step_cost (read_operand w j k rm) ≤ 2
read_cost w j k (Reg r) = read_reg_cost w r
read_cost w j k (Mem a) = omega arith

write_cost : (w : Width) (j : ℕ) (rm : Rm) (k : ℕ) → step_cost (write_operand w j rm (Got k)) ≤ 3
write_cost w j (Reg r) k = write_reg_cost w r (Got k)
write_cost w j (Mem a) k = omega arith

source_place_cost : (x : Src) → cost (source_place x) ≤ 3
source_place_cost (src.Rm rm) = place_cost rm
source_place_cost (src.Imm n) = omega arith

source_cost : (w : Width) (j k : ℕ) (x : Src) → step_cost (read_source w j k x) ≤ 2
source_cost w j k (src.Rm rm) = read_cost w j k rm
source_cost w j k (src.Imm n) = omega arith

extended_cost : (w : Width) (e : Expr) → cost (extended w e) ≤ cost e + 1
extended_cost B8 e = omega arith
extended_cost B16 e = omega arith
extended_cost B32 e = omega arith

even_cost : (c : ℕ) → cost (even_expr c) ≤ 2
even_cost c = if_cost (c == 0) _ _ 2 (omega arith) (if_cost (c == 1) _ _ 2 (omega arith) (if_cost (c == 2) _ _ 2 (omega arith) (if_cost (c == 3) _ _ 2 (omega arith) (if_cost (c == 4) _ _ 2 (omega arith) (if_cost (c == 5) _ _ 2 (omega arith) (if_cost (c == 6) _ _ 2 (omega arith) (omega arith)))))))

condition_cost : (c : ℕ) → cost (condition_expr c) ≤ 3
condition_cost c = let p = even_cost (c / 2) in if_cost (c % 2 == 1) _ _ 3 (omega arith) (omega arith)

count_cost : (c : Count) → cost (count_expr c) ≤ 1
count_cost (Imm n) = omega arith
count_cost Cl = omega arith

shift_cost : (op : ShiftOp) (w : Width) (dst : Rm) (c : Count) (next : ℕ) → costs (row_of (Shift op w dst c) next) ≤ 32
shift_cost shift.Shl w dst c next = let a = place_cost dst in let b = read_cost w 0 2 dst in let d = write_cost w 0 dst 4 in let e = count_cost c in let m = masked_cost w (Op Shl s' n') in omega arith
shift_cost shift.Shr w dst c next = let a = place_cost dst in let b = read_cost w 0 2 dst in let d = write_cost w 0 dst 4 in let e = count_cost c in omega arith
shift_cost shift.Sar w dst c next = let a = place_cost dst in let b = read_cost w 0 2 dst in let d = write_cost w 0 dst 4 in let e = count_cost c in let m = masked_cost w (Op Sar s' n') in let x = extended_cost w a' in omega arith

if_costs : (b : Bool) (xs ys : List Step) → costs xs ≤ 32 → costs ys ≤ 32 → costs (cond b xs ys) ≤ 32
if_costs true xs ys p q = p
if_costs false xs ys p q = q

alu_cost : (op : ℕ) (w : Width) (dst : Rm) (x : Src) → costs (row_alu op w dst x) ≤ 32
alu_cost op w dst x =
    let a = place_cost dst in let b = read_cost w 0 2 dst in let d = write_cost w 0 dst 4 in
    let e = source_place_cost x in let f = source_cost w 1 3 x in
    let sum = masked_cost w (Op Add a' b') in let carried = masked_cost w (Op Add s' (Cur InCf)) in
    let difference = masked_cost w (Op Sub a' b') in let borrowed = masked_cost w (Op Sub s' n') in
    if_costs (op == 0) _ _ (omega (arith, a, b, d, e, f, sum))
    (if_costs (op == 1) _ _ (omega (arith, a, b, d, e, f))
    (if_costs (op == 2) _ _ (omega (arith, a, b, d, e, f, sum, carried))
    (if_costs (op == 3) _ _ (omega (arith, a, b, d, e, f, difference, borrowed))
    (if_costs (op == 4) _ _ (omega (arith, a, b, d, e, f))
    (if_costs (op == 5) _ _ (omega (arith, a, b, d, e, f, difference))
    (if_costs (op == 6) _ _ (omega (arith, a, b, d, e, f))
    (omega (arith, a, b, e, f, difference))))))))

extend_cost : (sign : Bool) (from w : Width) (dst : ℕ) (x : Rm) (next : ℕ) → costs (row_of (Extend sign from w dst x) next) ≤ 32
extend_cost true from w dst x next = let a = place_cost x in let b = read_cost from 1 3 x in let d = write_reg_cost w dst r' in let m = masked_cost w (extended from b') in let e = extended_cost from b' in omega arith
extend_cost false from w dst x next = let a = place_cost x in let b = read_cost from 1 3 x in let d = write_reg_cost w dst r' in omega arith

imul_cost : (dst : ℕ) (x : Rm) (by : Option ℕ) (next : ℕ) → costs (row_of (Imul dst x by) next) ≤ 32
imul_cost dst x None next = let a = place_cost x in let b = read_cost B32 1 3 x in omega arith
imul_cost dst x (Some n) next = let a = place_cost x in let b = read_cost B32 1 3 x in omega arith

pub row_cost : (i : Inst) (next : ℕ) → costs (row_of i next) ≤ 32
row_cost (Alu op w dst x) next = alu_cost op w dst x
row_cost (Test w dst x) next = let a = place_cost dst in let b = read_cost w 0 2 dst in let e = source_place_cost x in let f = source_cost w 1 3 x in omega arith
row_cost (Mov w dst x) next = let a = place_cost dst in let d = write_cost w 0 dst 3 in let e = source_place_cost x in let f = source_cost w 1 3 x in omega arith
row_cost (Lea w dst addr) next = let a = place_cost (Mem addr) in let m = masked_cost w (address_expr addr) in let d = write_reg_cost w dst r' in omega arith
row_cost (Xchg w dst reg) next = let a = place_cost dst in let b = read_cost w 0 2 dst in let d = write_cost w 0 dst 3 in let e = read_reg_cost w reg in let f = write_reg_cost w reg a' in omega arith
row_cost (Inc w dst) next = let a = place_cost dst in let b = read_cost w 0 2 dst in let d = write_cost w 0 dst 4 in let m = masked_cost w (Op Add a' b') in omega arith
row_cost (Dec w dst) next = let a = place_cost dst in let b = read_cost w 0 2 dst in let d = write_cost w 0 dst 4 in let m = masked_cost w (Op Sub a' b') in omega arith
row_cost (Not w dst) next = let a = place_cost dst in let b = read_cost w 0 2 dst in let d = write_cost w 0 dst 4 in omega arith
row_cost (Neg w dst) next = let a = place_cost dst in let b = read_cost w 0 3 dst in let d = write_cost w 0 dst 4 in let m = masked_cost w (Op Sub a' b') in omega arith
row_cost (Push x) next = let e = source_place_cost x in let f = source_cost B32 1 3 x in omega arith
row_cost (Pop dst) next = let a = place_cost dst in let d = write_cost B32 0 dst 2 in omega arith
row_cost (MulDiv op x) next = omega arith
row_cost (Imul dst x by) next = imul_cost dst x by next
row_cost (Shift op w dst c) next = shift_cost op w dst c next
row_cost (Rotate right dst c) next = omega arith
row_cost Cwde next = omega arith
row_cost Cdq next = omega arith
row_cost (Extend sign from w dst x) next = extend_cost sign from w dst x next
row_cost (Setcc c dst) next = let a = place_cost dst in let d = write_cost B8 0 dst 3 in let e = condition_cost c in omega arith
row_cost (Cmov c dst x) next = let a = place_cost x in let b = read_cost B32 1 3 x in let e = condition_cost c in omega arith
row_cost (Jcc c rel) next = let e = condition_cost c in omega arith
row_cost (Jmp rel) next = omega arith
row_cost (JmpRm x) next = let a = place_cost x in let b = read_cost B32 0 9 x in omega arith
row_cost (Call rel) next = omega arith
row_cost (CallRm x) next = let a = place_cost x in let b = read_cost B32 0 9 x in omega arith
row_cost (Ret pop) next = omega arith
row_cost Leave next = omega arith
row_cost (Movs w rep) next = omega arith
row_cost (Stos w rep) next = omega arith
row_cost Cld next = omega arith
row_cost Std next = omega arith
row_cost Sahf next = omega arith
row_cost Int80 next = omega arith
row_cost Nop next = omega arith

-- THE LAW
pub few_lines : (i : Inst) (at n : ℕ) (b : Block) → length (lifted i at n b).lines ≤ length b.lines + 32
unfolding lifted
few_lines i at n b = let c = row_cost i (wrap (at + n)) in let s = steps_count (row_of i (wrap (at + n))) (unnamed (draft_of b)) in omega arith
