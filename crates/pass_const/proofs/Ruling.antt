-- The Val that replaces a line has its value.
use Rattle.std.proofs.Common.{⊎_elim, ◌-◌, ◌≤◌, ◌≡◌, ℕ, ◌*◌, ◌/◌, ◌%◌, ◌^◌, ◌<◌, Bool, true, false, cond, Option, Some, None, sym, ap, subst, ◌∙◌, refl, arith}
use Rattle.std.specs.Prelude.{◌==◌, nat_lt, bit_and, bit_or, bit_xor, ℤ, pos, negsuc, ◌-ℤ◌}
use Rattle.std.proofs.Math.Nat.{mod-eq_of_lt}
use Rattle.std.proofs.lemmas.Bool.Decides.{nat_tests}
use Rattle.std.specs.Int.Bits.{and_mask, and_zero_r, or_zero_r, xor_zero_r, or_zero_l, xor_zero_l, xor_self}
use Rattle.br_word.specs.Words.{bit, signed, wrap, floor_div}
use Rattle.std.proofs.lemmas.Bool.{cases_lt}
use Rattle.std.proofs.lemmas.Int.{ints}
use Rattle.ssa_form.specs.declared.form.Val.{Val}
use Rattle.ssa_form.specs.declared.form.Val.TheVariants.{Param, Line as Of, Num}
use Rattle.ssa_form.specs.declared.form.BinOp.{BinOp}
use Rattle.ssa_form.specs.declared.form.BinOp.TheVariants.{Add, Sub, And, Or, Xor, Mul, MulOver, Shl, Shr, Sar, Eq, Ult}
use Rattle.ssa_form.specs.declared.form.OneOp.{OneOp}
use Rattle.ssa_form.specs.declared.form.Line.TheVariants.{Bin, One, Select, Load, Store, Gone}
use Rattle.ssa_form.specs.Value.{Env, value, with_line, bin_value, one_value, select_value}
use Rattle.pass_const.specs.Rule.{when, same_val, right_rule, left_rule, same_rule, bin_rule, one_rule, select_rule, EachHolds}

low_signed : (h a : ℕ) → a < h → cond (nat_lt a h) (pos a) (pos a -ℤ pos (2 * h)) ≡ pos a
low_signed h a p = grind (arith, nat_tests)

high_signed : (h a : ℕ) → h ≤ a → a < 2 * h → cond (nat_lt a h) (pos a) (pos a -ℤ pos (2 * h)) ≡ negsuc (2 * h - 1 - a)
high_signed h a p q = grind (arith, nat_tests, ints)

signed_whole : (x : ℕ) → x < 2 ^ 32 → wrap (2 ^ 32) (signed 32 x) ≡ x
signed_whole x h = ⊎_elim
    (λ l. ap (wrap (2 ^ 32)) (low_signed (2 ^ 31) x l) ∙ mod-eq_of_lt h)
    (λ g. ap (wrap (2 ^ 32)) (high_signed (2 ^ 31) x g h) ∙ omega arith)
    (cases_lt x (2 ^ 31))

-- where a rule fits, its Val has the number n
abbrev Keeps : Env → Option Val → ℕ → Type 0
Keeps ps None n = Unit {0}
Keeps ps (Some v) n = value ps v ≡ n

test_zero : (n : ℕ) → (n == 0) ≡ true → n ≡ 0
test_zero n e = grind (arith, nat_tests)

test_same : (n k : ℕ) → (n == k) ≡ true → n ≡ k
test_same n k e = grind (arith, nat_tests)

same_bit : (n : ℕ) → bit (n == n) ≡ 1
same_bit n = grind (arith, nat_tests)

less_bit : (n : ℕ) → bit (nat_lt n n) ≡ 0
less_bit n = grind (arith, nat_tests)

floor_one : (z : ℤ) → floor_div z 1 ≡ z
floor_one (pos n) = ap pos (omega arith)
floor_one (negsuc n) = ap negsuc (omega arith)

whole : (x : ℕ) → x < 2 ^ 32 → bit_and x 0xFFFFFFFF ≡ x
whole x h = and_mask x 32 ∙ mod-eq_of_lt h

module _ (ps : Env) where
  keeps_when : (b : Bool) (v : Val) (n : ℕ) → (b ≡ true → (value ps v ≡ n)) → Keeps ps (when b v) n
  keeps_when true v n h = h refl
  keeps_when false v n h = tt

  keeps_cond : (b : Bool) (o o' : Option Val) (n : ℕ) → (b ≡ true → Keeps ps o n) → Keeps ps o' n → Keeps ps (cond b o o') n
  keeps_cond true o o' n h g = h refl
  keeps_cond false o o' n h g = g

  -- x op n
  right_keeps : (o : BinOp) (v : Val) (x n : ℕ) → x < 2 ^ 32 → (value ps v ≡ x) → Keeps ps (right_rule o v n) (bin_value o x n)
  right_keeps Add v x n l h = keeps_when (n == 0) v _ (λ e. let z = test_zero n e in h ∙ omega arith)
  right_keeps Sub v x n l h = keeps_when (n == 0) v _ (λ e. let z = test_zero n e in h ∙ omega arith)
  right_keeps Or v x n l h = keeps_when (n == 0) v _ (λ e. (h ∙ sym (ap (bit_or x) (test_zero n e) ∙ or_zero_r x)))
  right_keeps Xor v x n l h = keeps_when (n == 0) v _ (λ e. (h ∙ sym (ap (bit_xor x) (test_zero n e) ∙ xor_zero_r x)))
  right_keeps Mul v x n l h = keeps_when (n == 1) v _ (λ e. (h ∙ sym (ap (λ k. x * k % 2 ^ 32) (test_same n 1 e) ∙ omega arith)))
  right_keeps And v x n l h =
      keeps_cond (n == 0xFFFFFFFF) _ _ _ (λ e. (h ∙ sym (ap (bit_and x) (test_same n 0xFFFFFFFF e) ∙ whole x l)))
      (keeps_when (n == 0) (Num 0) _ (λ e. (sym (ap (bit_and x) (test_zero n e) ∙ and_zero_r x))))
  right_keeps Shl v x n l h = keeps_when (n % 32 == 0) v _ (λ e. (h ∙ sym (ap (λ k. x * 2 ^ k % 2 ^ 32) (test_zero (n % 32) e) ∙ omega arith)))
  right_keeps Shr v x n l h = keeps_when (n % 32 == 0) v _ (λ e. (h ∙ sym (ap (λ k. x / 2 ^ k) (test_zero (n % 32) e) ∙ omega arith)))
  right_keeps Sar v x n l h = keeps_when (n % 32 == 0) v _ (λ e. (h ∙ sym (ap (λ k. wrap (2 ^ 32) (floor_div (signed 32 x) (2 ^ k))) (test_zero (n % 32) e) ∙ ap (wrap (2 ^ 32)) (floor_one (signed 32 x)) ∙ signed_whole x l)))
  right_keeps MulOver v x n l h = tt
  right_keeps Eq v x n l h = tt
  right_keeps Ult v x n l h = tt

  left_keeps : (o : BinOp) (n : ℕ) (v : Val) (x : ℕ) → x < 2 ^ 32 → (value ps v ≡ x) → Keeps ps (left_rule o n v) (bin_value o n x)
  left_keeps Add n v x l h = keeps_when (n == 0) v _ (λ e. let z = test_zero n e in h ∙ omega arith)
  left_keeps Or n v x l h = keeps_when (n == 0) v _ (λ e. (h ∙ sym (ap (λ k. bit_or k x) (test_zero n e) ∙ or_zero_l x)))
  left_keeps Xor n v x l h = keeps_when (n == 0) v _ (λ e. (h ∙ sym (ap (λ k. bit_xor k x) (test_zero n e) ∙ xor_zero_l x)))
  left_keeps Sub n v x l h = tt
  left_keeps Mul n v x l h = tt
  left_keeps And n v x l h = tt
  left_keeps Shl n v x l h = tt
  left_keeps Shr n v x l h = tt
  left_keeps Sar n v x l h = tt
  left_keeps MulOver n v x l h = tt
  left_keeps Eq n v x l h = tt
  left_keeps Ult n v x l h = tt

  same_keeps : (o : BinOp) (n : ℕ) → n < 2 ^ 32 → Keeps ps (same_rule o) (bin_value o n n)
  same_keeps Sub n h = (omega arith)
  same_keeps Xor n h = (sym (xor_self n))
  same_keeps Ult n h = (sym (less_bit n))
  same_keeps Eq n h = (sym (same_bit n))
  same_keeps Add n h = tt
  same_keeps Or n h = tt
  same_keeps Mul n h = tt
  same_keeps And n h = tt
  same_keeps Shl n h = tt
  same_keeps Shr n h = tt
  same_keeps Sar n h = tt
  same_keeps MulOver n h = tt

  bin_keeps : (o : BinOp) (a b : Val) → value ps a < 2 ^ 32 → value ps b < 2 ^ 32 → Keeps ps (bin_rule o a b) (bin_value o (value ps a) (value ps b))
  bin_keeps o (Num a) (Num b) l k = refl
  bin_keeps o (Param a) (Num n) l k = right_keeps o (Param a) _ n l refl
  bin_keeps o (Of a) (Num n) l k = right_keeps o (Of a) _ n l refl
  bin_keeps o (Num n) (Param b) l k = left_keeps o n (Param b) _ k refl
  bin_keeps o (Num n) (Of b) l k = left_keeps o n (Of b) _ k refl
  bin_keeps o (Param a) (Param b) l k = keeps_cond (a == b) _ _ _ (λ e. subst (λ z. Keeps ps (same_rule o) (bin_value o (ps.params a) z)) (ap ps.params (test_same a b e)) (same_keeps o (ps.params a) l)) tt
  bin_keeps o (Of a) (Of b) l k = keeps_cond (a == b) _ _ _ (λ e. subst (λ z. Keeps ps (same_rule o) (bin_value o (ps.lines a) z)) (ap ps.lines (test_same a b e)) (same_keeps o (ps.lines a) l)) tt
  bin_keeps o (Param a) (Of b) l k = tt
  bin_keeps o (Of a) (Param b) l k = tt

  same_reads : (a b : Val) → same_val a b ≡ true → value ps a ≡ value ps b
  same_reads (Param a) (Param b) e = ap ps.params (test_same a b e)
  same_reads (Of a) (Of b) e = ap ps.lines (test_same a b e)
  same_reads (Num a) (Num b) e = test_same a b e
  same_reads (Param a) (Of b) e = cc
  same_reads (Param a) (Num b) e = cc
  same_reads (Of a) (Param b) e = cc
  same_reads (Of a) (Num b) e = cc
  same_reads (Num a) (Param b) e = cc
  same_reads (Num a) (Of b) e = cc

  chosen : (t : Bool) (a b : Val) → value ps (cond t b a) ≡ cond t (value ps b) (value ps a)
  chosen true a b = refl
  chosen false a b = refl

  either : (t : Bool) (x y : ℕ) → x ≡ y → x ≡ cond t y x
  either true x y e = e
  either false x y e = refl

  select_same : (a b : Val) (n : ℕ) → Keeps ps (when (same_val a b) a) (select_value n (value ps a) (value ps b))
  select_same a b n = keeps_when (same_val a b) a _ (λ e. either (n == 0) _ _ (same_reads a b e))

  select_keeps : (c a b : Val) → Keeps ps (select_rule c a b) (select_value (value ps c) (value ps a) (value ps b))
  select_keeps (Num c) a b = chosen (c == 0) a b
  select_keeps (Param c) a b = select_same a b _
  select_keeps (Of c) a b = select_same a b _

  one_keeps : (o : OneOp) (a : Val) → Keeps ps (one_rule o a) (one_value o (value ps a))
  one_keeps o (Num n) = refl
  one_keeps o (Param a) = tt
  one_keeps o (Of a) = tt

  told : (n x : ℕ) (o : Option Val) (v : Val) → Keeps ps o x → o ≡ Some v → with_line n x ps ≡ with_line n (value ps v) ps
  told n x None v k q = absurd (cc)
  told n x (Some w) v k q = let z : w ≡ v = cc in ap (λ y. with_line n y ps) (sym k ∙ ap (value ps) z)

-- the name that takes the line's place has its value
pub holds : EachHolds
holds (Bin o a b) e n v h q = told e n _ (bin_rule o a b) v (bin_keeps e o a b h.0 h.1) q
holds (One o a) e n v h q = told e n _ (one_rule o a) v (one_keeps e o a) q
holds (Select c a b) e n v h q = told e n _ (select_rule c a b) v (select_keeps e c a b) q
holds (Load w at) e n v h q = absurd (cc)
holds (Store w at a) e n v h q = absurd (cc)
holds Gone e n v h q = absurd (cc)
