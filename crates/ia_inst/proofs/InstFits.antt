-- Each instruction ends with registers and an address of 32 bits.
use Rattle.std.proofs.Common.{◌≡◌, ℕ, ◌+◌, ◌-◌, ◌*◌, ◌/◌, ◌%◌, ◌^◌, ◌<◌, ◌≤◌, Bool, true, false, cond, ◌||◌, ◌==◌, List, get_or, set, Option, Some, None, refl, arith}
use Rattle.std.specs.Prelude.{nat_lt, nat_le, if◌then◌else◌, bit_and, int_div, int_rem}
use Rattle.std.proofs.Math.Nat.{div-le_self}
use Rattle.std.proofs.lemmas.Bool.{and_parts, leb-false}
use Rattle.std.proofs.lemmas.Bool.Decides.{nat_tests}
use Rattle.std.proofs.lemmas.Nat.{or_lt, xor_lt, and_le_l, mod_below, pow_pos}
use Rattle.br_word.specs.declared.types.ShiftOp.{ShiftOp}
use Rattle.br_word.specs.declared.types.ShiftOp.TheVariants.{Shl, Shr, Sar}
use Rattle.br_word.specs.declared.types.Width.{Width}
use Rattle.br_word.specs.declared.types.Width.TheVariants.{B8, B16, B32}
use Rattle.br_word.specs.Words.{bits_of, size_of, bit, signed, out_of_range, sign_bit, floor_div}
use Rattle.br_word.specs.Flags.{shift_value}
use Rattle.br_word.specs.Words as words
use Rattle.ia_inst.specs.declared.inst.Inst.{Inst}
use Rattle.ia_inst.specs.declared.inst.Inst.TheVariants as inst
use Rattle.ia_inst.specs.declared.inst.Rm.{Rm}
use Rattle.ia_inst.specs.declared.inst.Src.{Src}
use Rattle.ia_inst.specs.declared.inst.Src.TheVariants as src
use Rattle.ia_inst.specs.declared.inst.Count.{Count}
use Rattle.ia_inst.specs.declared.inst.Count.TheVariants as count
use Rattle.ia_inst.specs.Act.{Ends, Past, To}
use Rattle.ia_inst.specs.Canonical.{valid_of, move_valid, test_valid, source_valid, widens, rm_valid}
use Rattle.ia_inst.specs.Meaning.{wrap, reg_value, address_of, of_rm, to_rm, alu, Result, shifted, rotated, count_of, with_pair, pair_of, divides, muldiv, factor_of, sign_extended, is_over, no_changes, meaning}
use Rattle.ia_inst.specs.Wide.{signed_product, quotient, signed_quotient}
use Rattle.ia_inst.specs.Fits.{Fits, IsAddress}
use Rattle.ia_inst.proofs.Bounds.{below, wrap_below, imm_small, high_below, left_below, right_below}
use Rattle.ia_inst.proofs.ConditionCases.{either}
use Rattle.ia_inst.proofs.OperandFits.{wrapped, set_regs, reg_with_fits, reg_small, of_rm_fits, IsSource, of_src_fits, to_rm_fits, pushed_fits, carry_fits, condition_fits, iterated_fits}
use Rattle.br_word.specs.State.{AreRegs}

-- ---- immediates

move_source : (w : Width) (a : Rm) (s : Src) → move_valid w a s ≡ true → IsSource w s
move_source w a (src.Rm b) e = tt
move_source w a (src.Imm n) e = imm_small w n (and_parts (rm_valid a) _ e).1

test_source : (w : Width) (a : Rm) (s : Src) → test_valid w a s ≡ true → IsSource w s
test_source w a (src.Rm b) e = tt
test_source w a (src.Imm n) e = imm_small w n (and_parts (rm_valid a) _ e).1

push_source : (s : Src) → source_valid s ≡ true → IsSource B32 s
push_source (src.Rm b) e = tt
push_source (src.Imm n) e = imm_small B32 n e

-- ---- results

abbrev IsOf : Width → Result → Type 0
IsOf w r = r.value < 2 ^ bits_of w

one_of : (w : Width) (b : Bool) (x y : Result) → IsOf w x → IsOf w y → IsOf w (if b then x else y)
one_of w true x y p q = p
one_of w false x y p q = q

and_small : (w : Width) (a b : ℕ) → a < 2 ^ bits_of w → bit_and a b < 2 ^ bits_of w
and_small w a b h = let l = and_le_l a b in omega (arith, l)

alu_small : (op : ℕ) (w : Width) (a b : ℕ) (c : Bool) → a < 2 ^ bits_of w → b < 2 ^ bits_of w → IsOf w (alu op w a b c)
alu_small op w a b c h k =
    one_of w (op == 0 || op == 2) _ _ (below (a + b + bit c) (bits_of w))
    (one_of w (op == 1) _ _ (or_lt (bits_of w) a b h k)
    (one_of w (op == 4) _ _ (and_small w a b h)
    (one_of w (op == 6) _ _ (xor_lt (bits_of w) a b h k)
    (below (a + 2 ^ bits_of w - (b + bit c)) (bits_of w)))))

shift_small : (op : ShiftOp) (w a n : ℕ) → a < 2 ^ w → shift_value op w a n < 2 ^ w
shift_small Shl w a n h = below (a * 2 ^ n) w
shift_small Shr w a n h = let l = div-le_self a (2 ^ n) in omega (arith, l)
shift_small Sar w a n h = wrap_below w (floor_div (signed w a) (2 ^ n))

shifted_small : (op : ShiftOp) (w : Width) (a n : ℕ) → a < 2 ^ bits_of w → IsOf w (shifted op w a n)
shifted_small op w a n h = one_of w (n == 0) _ _ h (shift_small op (bits_of w) a n h)

rotated_small : (right : Bool) (a n : ℕ) → a < 2 ^ 32 → n ≤ 32 → IsOf B32 (rotated right a n)
rotated_small true a n h l = one_of B32 (n == 0) _ _ h (right_below a n h l)
rotated_small false a n h l = one_of B32 (n == 0) _ _ h (left_below a n h l)

count_small : (c : Count) (regs : List ℕ) → count_of c regs ≤ 32
count_small (count.Imm n) regs = let l = below n 5 in omega (arith, l)
count_small count.Cl regs = let l = below (reg_value B8 1 regs) 5 in omega (arith, l)

wider : (from to : Width) (b : ℕ) → widens from to ≡ true → b < 2 ^ bits_of from → b < 2 ^ bits_of to
wider B8 B8 b e h = h
wider B8 B16 b e h = omega (arith, h)
wider B8 B32 b e h = omega (arith, h)
wider B16 B8 b e h = cc
wider B16 B16 b e h = h
wider B16 B32 b e h = omega (arith, h)
wider B32 B8 b e h = cc
wider B32 B16 b e h = cc
wider B32 B32 b e h = h

extended_small : (signs : Bool) (from to : Width) (b : ℕ) → widens from to ≡ true → b < 2 ^ bits_of from → (if signs then sign_extended from to b else b) < 2 ^ bits_of to
extended_small true from to b e h = wrap_below (bits_of to) (signed (bits_of from) b)
extended_small false from to b e h = wider from to b e h

bit_small : (b : Bool) → bit b < 2 ^ 8
bit_small true = omega arith
bit_small false = omega arith

-- ---- products and quotients

pair_fits : (high low : ℕ) (regs : List ℕ) → AreRegs regs → high < 2 ^ 32 → low < 2 ^ 32 → AreRegs (with_pair high low regs)
pair_fits high low regs h p q = set_regs _ 2 high (set_regs regs 0 low h q) p

abbrev IsPair : Option (ℕ × ℕ) → Type 0
IsPair None = Unit {0}
IsPair (Some p) = (p.0 < 2 ^ 32) × (p.1 < 2 ^ 32)

divides_fits : (p : Option (ℕ × ℕ)) (n : ℕ) (regs : List ℕ) (df : Bool) → AreRegs regs → IsPair p → Fits (divides p n regs df)
divides_fits None n regs df h i = tt
divides_fits (Some p) n regs df h i = (pair_fits p.1 p.0 regs h i.1 i.0, tt)

quotient_small : (n d : ℕ) → d < 2 ^ 32 → IsPair (quotient n d)
quotient_small n d h = by_test (d == 0) (nat_le (2 ^ 32) (n / d)) refl refl
  where
    by_test : (p q : Bool) → (d == 0) ≡ p → nat_le (2 ^ 32) (n / d) ≡ q → IsPair (cond (p || q) None (Some (n / d, n % d)))
    by_test true q e f = tt
    by_test false true e f = tt
    by_test false false e f =
        let l = mod_below n d (grind (arith, nat_tests)) in
        (leb-false (2 ^ 32) (n / d) f, omega (arith, l))

signed_small : (n d : ℕ) → IsPair (signed_quotient n d)
signed_small n d = by_test (d == 0 || out_of_range 32 (int_div (signed 64 n) (signed 32 d)))
  where
    by_test : (b : Bool) → IsPair (cond b None (Some (words.wrap (2 ^ 32) (int_div (signed 64 n) (signed 32 d)), words.wrap (2 ^ 32) (int_rem (signed 64 n) (signed 32 d)))))
    by_test true = tt
    by_test false = (wrap_below 32 _, wrap_below 32 _)

muldiv_fits : (op b n : ℕ) (regs : List ℕ) (df : Bool) → AreRegs regs → b < 2 ^ 32 → Fits (muldiv op b n regs df)
muldiv_fits op b n regs df h l =
    let a = get_or regs 0 0 in
    either Fits (op == 4) _ _ (pair_fits _ _ regs h (high_below (2 ^ 32) a b (omega arith) (h.small 0) l) (below (a * b) 32), tt)
    (either Fits (op == 5) _ _ (pair_fits _ _ regs h (high_of (signed_product a b) (wrap_below 64 _)) (below (signed_product a b) 32), tt)
    (either Fits (op == 6) _ _ (divides_fits (quotient (pair_of regs) b) n regs df h (quotient_small (pair_of regs) b l))
    (divides_fits (signed_quotient (pair_of regs) b) n regs df h (signed_small (pair_of regs) b))))
  where
    high_of : (x : ℕ) → x < 2 ^ 64 → x / 2 ^ 32 < 2 ^ 32
    high_of x h = omega arith

-- ---- every instruction

pub fits : (i : Inst) (n : ℕ) (regs : List ℕ) (eip : ℕ) (df : Bool) → valid_of i ≡ true → AreRegs regs → Fits (meaning i n regs eip df)
unfolding meaning
fits (inst.Alu op w a s) n regs eip df v h =
    carry_fits op _ (λ c. of_rm_fits w a regs _ h (λ x p. of_src_fits w s regs _ h (move_source w a s (and_parts (nat_lt op 8) _ v).1) (λ y q.
    either Fits (op == 7) _ _ (h, tt) (to_rm_fits w a _ regs _ h (alu_small op w x y c p q) (λ regs k. (k, tt))))))
fits (inst.Test w a s) n regs eip df v h = of_rm_fits w a regs _ h (λ x p. of_src_fits w s regs _ h (test_source w a s v) (λ y q. (h, tt)))
fits (inst.Mov w a s) n regs eip df v h = of_src_fits w s regs _ h (move_source w a s v) (λ y q. to_rm_fits w a y regs _ h q (λ regs k. (k, tt)))
fits (inst.Lea w g a) n regs eip df v h = (reg_with_fits w g _ regs h (below (address_of a regs) (bits_of w)), tt)
fits (inst.Xchg w a g) n regs eip df v h = of_rm_fits w a regs _ h (λ x p. to_rm_fits w a _ regs _ h (reg_small w g regs h) (λ regs k. (reg_with_fits w g x regs k p, tt)))
fits (inst.Inc w a) n regs eip df v h = of_rm_fits w a regs _ h (λ x p. to_rm_fits w a _ regs _ h (below (x + 1 + 0) (bits_of w)) (λ regs k. (k, tt)))
fits (inst.Dec w a) n regs eip df v h = of_rm_fits w a regs _ h (λ x p. to_rm_fits w a _ regs _ h (below (x + 2 ^ bits_of w - (1 + 0)) (bits_of w)) (λ regs k. (k, tt)))
fits (inst.Not w a) n regs eip df v h = of_rm_fits w a regs _ h (λ x p. to_rm_fits w a _ regs _ h (let l = pow_pos (bits_of w) in omega (arith, l)) (λ regs k. (k, tt)))
fits (inst.Neg w a) n regs eip df v h = of_rm_fits w a regs _ h (λ x p. to_rm_fits w a _ regs _ h (below (0 + 2 ^ bits_of w - (x + 0)) (bits_of w)) (λ regs k. (k, tt)))
fits (inst.Push s) n regs eip df v h = of_src_fits B32 s regs _ h (push_source s v) (λ y q. pushed_fits y regs (λ regs. Ends regs df no_changes (Past n)) h (λ regs k. (k, tt)))
fits (inst.Pop a) n regs eip df v h = λ x l. to_rm_fits B32 a x _ _ (set_regs regs 4 _ h (wrapped (get_or regs 4 0 + 4))) l (λ regs k. (k, tt))
fits (inst.MulDiv op a) n regs eip df v h = of_rm_fits B32 a regs _ h (λ b l. muldiv_fits op b n regs df h l)
fits (inst.Imul g a by) n regs eip df v h = of_rm_fits B32 a regs _ h (λ b l. (set_regs regs g _ h (below (factor_of by g regs * b) 32), tt))
fits (inst.Shift op w a c) n regs eip df v h = of_rm_fits w a regs _ h (λ x p. to_rm_fits w a _ regs _ h (shifted_small op w x (count_of c regs) p) (λ regs k. (k, tt)))
fits (inst.Rotate right a c) n regs eip df v h = of_rm_fits B32 a regs _ h (λ x p. to_rm_fits B32 a _ regs _ h (rotated_small right x (count_of c regs) p (count_small c regs)) (λ regs k. (k, tt)))
fits inst.Cwde n regs eip df v h = (set_regs regs 0 _ h (wrap_below 32 _), tt)
fits inst.Cdq n regs eip df v h = (set_regs regs 2 _ h (filled (sign_bit 32 (get_or regs 0 0))), tt)
  where
    filled : (b : Bool) → (if b then 2 ^ 32 - 1 else 0) < 2 ^ 32
    filled true = omega arith
    filled false = omega arith
fits (inst.Extend signs from to g a) n regs eip df v h = of_rm_fits from a regs _ h (λ b l. (reg_with_fits to g _ regs h (extended_small signs from to b (and_parts (widens from to) _ v).0 l), tt))
fits (inst.Setcc c a) n regs eip df v h = condition_fits c (λ b. to_rm B8 a (bit b) regs (λ regs. Ends regs df no_changes (Past n))) (λ b. to_rm_fits B8 a (bit b) regs _ h (bit_small b) (λ regs k. (k, tt)))
fits (inst.Cmov c g a) n regs eip df v h = condition_fits c (λ b. of_rm B32 a regs (λ v. Ends (if b then set regs g v else regs) df no_changes (Past n))) (λ b. of_rm_fits B32 a regs _ h (λ x l. (moves b x l, tt)))
  where
    moves : (b : Bool) (x : ℕ) → x < 2 ^ 32 → AreRegs (if b then set regs g x else regs)
    moves true x l = set_regs regs g x h l
    moves false x l = h
fits (inst.Jcc c rel) n regs eip df v h = condition_fits c (λ b. Ends regs df no_changes (if b then To (wrap (eip + n + rel)) else Past n)) (λ b. (h, there b))
  where
    there : (b : Bool) → IsAddress (if b then To (wrap (eip + n + rel)) else Past n)
    there true = wrapped (eip + n + rel)
    there false = tt
fits (inst.Jmp rel) n regs eip df v h = (h, wrapped (eip + n + rel))
fits (inst.JmpRm a) n regs eip df v h = of_rm_fits B32 a regs _ h (λ t l. (h, l))
fits (inst.Call rel) n regs eip df v h = pushed_fits (wrap (eip + n)) regs (λ regs. Ends regs df no_changes (To (wrap (eip + n + rel)))) h (λ regs k. (k, wrapped (eip + n + rel)))
fits (inst.CallRm a) n regs eip df v h = of_rm_fits B32 a regs _ h (λ t l. pushed_fits (wrap (eip + n)) regs (λ regs. Ends regs df no_changes (To t)) h (λ regs k. (k, l)))
fits (inst.Ret pop) n regs eip df v h = λ t l. (set_regs regs 4 _ h (wrapped (get_or regs 4 0 + 4 + pop)), l)
fits inst.Leave n regs eip df v h = λ x l. (set_regs _ 5 x (set_regs regs 4 _ h (wrapped (get_or regs 5 0 + 4))) l, tt)
fits (inst.Movs w rep) n regs eip df v h =
    either Fits (is_over rep regs) _ _ (h, tt)
    (λ x l. iterated_fits rep _ df n (set_regs _ 7 _ (set_regs regs 6 _ h (wrapped _)) (wrapped _)))
fits (inst.Stos w rep) n regs eip df v h =
    either Fits (is_over rep regs) _ _ (h, tt) (iterated_fits rep _ df n (set_regs regs 7 _ h (wrapped _)))
fits inst.Cld n regs eip df v h = (h, tt)
fits inst.Std n regs eip df v h = (h, tt)
fits inst.Sahf n regs eip df v h = (h, tt)
fits inst.Int80 n regs eip df v h = tt
fits inst.Nop n regs eip df v h = (h, tt)
