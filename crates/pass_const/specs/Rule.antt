-- Which name has the value of a line: three rules, of which the first that fits counts.
use Rattle.std.specs.Prelude.{◌≡◌, ◌<◌, ◌^◌, ◌⊎◌, ℕ, ◌%◌, Bool, false, cond, ◌==◌, Option, Some, None}
use Rattle.ssa_form.specs.declared.form.Val.{Val}
use Rattle.ssa_form.specs.declared.form.Val.TheVariants.{Param, Line as Of, Num}
use Rattle.ssa_form.specs.declared.form.BinOp.{BinOp}
use Rattle.ssa_form.specs.declared.form.BinOp.TheVariants.{Add, Sub, And, Or, Xor, Mul, Shl, Shr, Sar, Eq, Ult}
use Rattle.ssa_form.specs.declared.form.OneOp.{OneOp}
use Rattle.ssa_form.specs.declared.form.Line.{Line}
use Rattle.ssa_form.specs.declared.form.Line.TheVariants.{Bin, One, Select, Load, Store, Gone}
use Rattle.ssa_form.specs.Value.{Env, value, with_line, line_next, bin_value, one_value}

-- ---- the rules

-- the name, where the test holds
abbrev pub when : Bool → Val → Option Val
when b v = cond b (Some v) None

-- two names are the same
abbrev pub same_val : Val → Val → Bool
same_val (Param a) (Param b) = a == b
same_val (Of a) (Of b) = a == b
same_val (Num a) (Num b) = a == b
same_val _ _ = false

-- x op n: x, or 0
abbrev pub right_rule : BinOp → Val → ℕ → Option Val
right_rule Add x n = when (n == 0) x
right_rule Sub x n = when (n == 0) x
right_rule Or x n = when (n == 0) x
right_rule Xor x n = when (n == 0) x
right_rule Mul x n = when (n == 1) x
right_rule And x n = cond (n == 0xFFFFFFFF) (Some x) (when (n == 0) (Num 0))
right_rule Shl x n = when (n % 32 == 0) x
right_rule Shr x n = when (n % 32 == 0) x
right_rule Sar x n = when (n % 32 == 0) x
right_rule _ x n = None

-- n op x: x
abbrev pub left_rule : BinOp → ℕ → Val → Option Val
left_rule Add n x = when (n == 0) x
left_rule Or n x = when (n == 0) x
left_rule Xor n x = when (n == 0) x
left_rule _ n x = None

-- x op x: a number
abbrev pub same_rule : BinOp → Option Val
same_rule Sub = Some (Num 0)
same_rule Xor = Some (Num 0)
same_rule Ult = Some (Num 0)
same_rule Eq = Some (Num 1)
same_rule _ = None

-- two numbers; a number on one side; the same name on both
abbrev pub bin_rule : BinOp → Val → Val → Option Val
bin_rule o (Num a) (Num b) = Some (Num (bin_value o a b))
bin_rule o (Param x) (Num n) = right_rule o (Param x) n
bin_rule o (Of x) (Num n) = right_rule o (Of x) n
bin_rule o (Num n) (Param x) = left_rule o n (Param x)
bin_rule o (Num n) (Of x) = left_rule o n (Of x)
bin_rule o (Param x) (Param y) = cond (x == y) (same_rule o) None
bin_rule o (Of x) (Of y) = cond (x == y) (same_rule o) None
bin_rule o (Param x) (Of y) = None
bin_rule o (Of x) (Param y) = None

-- a choice by a number, or between one and the same name
abbrev pub select_rule : Val → Val → Val → Option Val
select_rule (Num c) a b = Some (cond (c == 0) b a)
select_rule _ a b = when (same_val a b) a

-- a number
abbrev pub one_rule : OneOp → Val → Option Val
one_rule o (Num n) = Some (Num (one_value o n))
one_rule o _ = None

-- the name that takes the line's place
abbrev pub rule : Line → Option Val
rule (Bin o a b) = bin_rule o a b
rule (One o a) = one_rule o a
rule (Select c a b) = select_rule c a b
rule (Load w at) = None
rule (Store w at a) = None
rule Gone = None

-- the number, where the name is one
abbrev pub number_in : Option Val → Option ℕ
number_in (Some (Num n)) = Some n
number_in _ = None

-- ---- what a reader believes of a rule

-- what the line reads has 32 bits
abbrev pub ReadsWords : Env → Line → Type 0
ReadsWords e (Bin op a b) = (value e a < 2 ^ 32) × (value e b < 2 ^ 32)
ReadsWords e (One op a) = value e a < 2 ^ 32
ReadsWords e (Select c a b) = (value e c < 2 ^ 32) × (value e a < 2 ^ 32) × (value e b < 2 ^ 32)
ReadsWords e _ = Unit {0}

-- the name that takes the line's place has its value
abbrev pub EachHolds : Type 0
EachHolds = (l : Line) (e : Env) (n : ℕ) (v : Val) → ReadsWords e l → rule l ≡ Some v → line_next n l e ≡ with_line n (value e v) e

-- it is a number, or one of these names
abbrev pub IsNumber : Val → Type 0
IsNumber v = (n : ℕ) × (v ≡ Num n)

abbrev pub IsOperand : Line → Val → Type 0
IsOperand (Bin op a b) v = IsNumber v ⊎ ((v ≡ a) ⊎ (v ≡ b))
IsOperand (Select c a b) v = IsNumber v ⊎ ((v ≡ a) ⊎ (v ≡ b))
IsOperand _ v = IsNumber v

abbrev pub EachIsOperand : Type 0
EachIsOperand = (l : Line) (v : Val) → rule l ≡ Some v → IsOperand l v
