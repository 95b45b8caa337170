-- What takes a line's place is a number or one of its operands.
use Rattle.std.proofs.Common.{◌≡◌, ℕ, ◌%◌, Bool, true, false, cond, Option, Some, None, inl, inr, subst, refl}
use Rattle.std.specs.Prelude.{◌==◌}
use Rattle.ssa_form.specs.declared.form.Val.{Val}
use Rattle.ssa_form.specs.declared.form.Val.TheVariants.{Param, Line as Of, Num}
use Rattle.ssa_form.specs.declared.form.BinOp.{BinOp}
use Rattle.ssa_form.specs.declared.form.BinOp.TheVariants.{Add, Sub, And, Or, Xor, Mul, MulOver, Shl, Shr, Sar, Eq, Ult}
use Rattle.ssa_form.specs.declared.form.OneOp.{OneOp}
use Rattle.ssa_form.specs.declared.form.Line.TheVariants.{Bin, One, Select, Load, Store, Gone}
use Rattle.pass_const.specs.Rule.{when, same_val, right_rule, left_rule, same_rule, bin_rule, one_rule, select_rule, IsNumber, IsOperand, EachIsOperand}

-- a name that is given is one of these
abbrev Gives : (Val → Type 0) → Option Val → Type 0
Gives P None = Unit {0}
Gives P (Some v) = P v

module _ (P : Val → Type 0) (num : (n : ℕ) → P (Num n)) where
  gives_when : (b : Bool) (v : Val) → P v → Gives P (when b v)
  gives_when true v h = h
  gives_when false v h = tt

  gives_cond : (b : Bool) (x y : Option Val) → Gives P x → Gives P y → Gives P (cond b x y)
  gives_cond true x y h g = h
  gives_cond false x y h g = g

  right_gives : (o : BinOp) (v : Val) (k : ℕ) → P v → Gives P (right_rule o v k)
  right_gives Add v k h = gives_when (k == 0) v h
  right_gives Sub v k h = gives_when (k == 0) v h
  right_gives Or v k h = gives_when (k == 0) v h
  right_gives Xor v k h = gives_when (k == 0) v h
  right_gives Mul v k h = gives_when (k == 1) v h
  right_gives And v k h = gives_cond (k == 0xFFFFFFFF) (Some v) _ h (gives_when (k == 0) (Num 0) (num 0))
  right_gives Shl v k h = gives_when (k % 32 == 0) v h
  right_gives Shr v k h = gives_when (k % 32 == 0) v h
  right_gives Sar v k h = gives_when (k % 32 == 0) v h
  right_gives MulOver v k h = tt
  right_gives Eq v k h = tt
  right_gives Ult v k h = tt

  left_gives : (o : BinOp) (k : ℕ) (v : Val) → P v → Gives P (left_rule o k v)
  left_gives Add k v h = gives_when (k == 0) v h
  left_gives Or k v h = gives_when (k == 0) v h
  left_gives Xor k v h = gives_when (k == 0) v h
  left_gives Sub k v h = tt
  left_gives Mul k v h = tt
  left_gives And k v h = tt
  left_gives Shl k v h = tt
  left_gives Shr k v h = tt
  left_gives Sar k v h = tt
  left_gives MulOver k v h = tt
  left_gives Eq k v h = tt
  left_gives Ult k v h = tt

  same_gives : (o : BinOp) → Gives P (same_rule o)
  same_gives Sub = num 0
  same_gives Xor = num 0
  same_gives Ult = num 0
  same_gives Eq = num 1
  same_gives Add = tt
  same_gives Or = tt
  same_gives Mul = tt
  same_gives And = tt
  same_gives Shl = tt
  same_gives Shr = tt
  same_gives Sar = tt
  same_gives MulOver = tt

  bin_gives : (o : BinOp) (a b : Val) → P a → P b → Gives P (bin_rule o a b)
  bin_gives o (Num a) (Num b) h g = num _
  bin_gives o (Param a) (Num k) h g = right_gives o (Param a) k h
  bin_gives o (Of a) (Num k) h g = right_gives o (Of a) k h
  bin_gives o (Num k) (Param b) h g = left_gives o k (Param b) g
  bin_gives o (Num k) (Of b) h g = left_gives o k (Of b) g
  bin_gives o (Param a) (Param b) h g = gives_cond (a == b) (same_rule o) None (same_gives o) tt
  bin_gives o (Of a) (Of b) h g = gives_cond (a == b) (same_rule o) None (same_gives o) tt
  bin_gives o (Param a) (Of b) h g = tt
  bin_gives o (Of a) (Param b) h g = tt

  chosen : (t : Bool) (a b : Val) → P a → P b → P (cond t b a)
  chosen true a b h g = g
  chosen false a b h g = h

  select_gives : (c a b : Val) → P a → P b → Gives P (select_rule c a b)
  select_gives (Num c) a b h g = chosen (c == 0) a b h g
  select_gives (Param c) a b h g = gives_when (same_val a b) a h
  select_gives (Of c) a b h g = gives_when (same_val a b) a h

  one_gives : (o : OneOp) (a : Val) → Gives P (one_rule o a)
  one_gives o (Num n) = num _
  one_gives o (Param v) = tt
  one_gives o (Of j) = tt

given : (P : Val → Type 0) (o : Option Val) (v : Val) → Gives P o → o ≡ Some v → P v
given P None v h q = absurd (cc)
given P (Some w) v h q = let e : w ≡ v = cc in subst P e h

pub operands : EachIsOperand
operands (Bin o a b) v q = let P : Val → Type 0 = λ x. IsOperand (Bin o a b) x in given P (bin_rule o a b) v (bin_gives P (λ n. inl (n, refl)) o a b (inr (inl refl)) (inr (inr refl))) q
operands (One o a) v q = given IsNumber (one_rule o a) v (one_gives IsNumber (λ n. (n, refl)) o a) q
operands (Select c a b) v q = let P : Val → Type 0 = λ x. IsOperand (Select c a b) x in given P (select_rule c a b) v (select_gives P (λ n. inl (n, refl)) c a b (inr (inl refl)) (inr (inr refl))) q
operands (Load w at) v q = absurd (cc)
operands (Store w at a) v q = absurd (cc)
operands Gone v q = absurd (cc)
