-- What lines are worth: a fold over numbered lines, from the parameters and a memory.
use Rattle.std.specs.Prelude.{◌≡◌, ℕ, suc, ◌+◌, ◌-◌, ◌*◌, ◌/◌, ◌%◌, ◌^◌, cond, nat_lt, nat_eq, ◌==◌, if◌then◌else◌}
use Rattle.std.specs.Prelude.{List, [], ◌∷◌, get_or, Option, Some, None, bit_and, bit_or, bit_xor, ◌*ℤ◌}
use Rattle.br_word.specs.Words.{bit, signed, out_of_range, even_parity, wrap, floor_div, size_of}
use Rattle.br_word.specs.Memory.{Region, load, store}
use Rattle.ssa_form.specs.declared.form.Val.{Val}
use Rattle.ssa_form.specs.declared.form.Val.TheVariants.{Param, Line as Of, Num}
use Rattle.ssa_form.specs.declared.form.BinOp.{BinOp}
use Rattle.ssa_form.specs.declared.form.BinOp.TheVariants.{Add, Sub, And, Or, Xor, Mul, MulOver, Shl, Shr, Sar, Eq, Ult}
use Rattle.ssa_form.specs.declared.form.OneOp.{OneOp}
use Rattle.ssa_form.specs.declared.form.OneOp.TheVariants.{Parity, Sext8, Sext16}
use Rattle.ssa_form.specs.declared.form.Line.{Line}
use Rattle.ssa_form.specs.declared.form.Line.TheVariants.{Bin, One, Select, Load, Store, Gone}
use Rattle.ssa_form.specs.declared.form.Exit.{Exit}
use Rattle.ssa_form.specs.declared.form.Exit.TheVariants.{Jump, Cond, Way, Island}

-- ---- operators on numbers of 32 bits (SDM volume 1, 4.2.1; volume 2, SAL/SAR/SHL/SHR)
abbrev pub bin_value : BinOp → ℕ → ℕ → ℕ
bin_value Add a b = (a + b) % 2 ^ 32
bin_value Sub a b = (a + 2 ^ 32 - b) % 2 ^ 32
bin_value And a b = bit_and a b
bin_value Or a b = bit_or a b
bin_value Xor a b = bit_xor a b
bin_value Mul a b = (a * b) % 2 ^ 32
bin_value MulOver a b = bit (out_of_range 32 (signed 32 a *ℤ signed 32 b))
bin_value Shl a b = a * 2 ^ (b % 32) % 2 ^ 32
bin_value Shr a b = a / 2 ^ (b % 32)
bin_value Sar a b = wrap (2 ^ 32) (floor_div (signed 32 a) (2 ^ (b % 32)))
bin_value Eq a b = bit (a == b)
bin_value Ult a b = bit (nat_lt a b)

-- parity and sign extension (SDM volume 1, 3.4.3.1; volume 2, MOVSX)
abbrev pub one_value : OneOp → ℕ → ℕ
one_value Parity a = bit (even_parity a)
one_value Sext8 a = wrap (2 ^ 32) (signed 8 (a % 2 ^ 8))
one_value Sext16 a = wrap (2 ^ 32) (signed 16 (a % 2 ^ 16))

-- a where c is not 0, else b
abbrev pub select_value : ℕ → ℕ → ℕ → ℕ
select_value c a b = cond (c == 0) b a

-- ---- lines

-- what virtual registers hold before the block, what lines gave, and memory
pub record Env : Type 0 where
  pub params : ℕ → ℕ
  pub lines : ℕ → ℕ
  pub mem : List Region

-- what a name stands for
abbrev pub value : Env → Val → ℕ
value e (Param v) = e.params v
value e (Of j) = e.lines j
value e (Num n) = n

-- line i gets a value
abbrev pub with_line : ℕ → ℕ → Env → Env
with_line i x e = record e { lines = λ j. if nat_eq j i then x else e.lines j }

-- a load that is refused gives 0
abbrev pub loaded : Option ℕ → ℕ
loaded None = 0
loaded (Some x) = x

-- a store that is refused changes nothing
abbrev pub stored : List Region → Option (List Region) → List Region
stored m None = m
stored m (Some n) = n

-- after line i
abbrev pub line_next : ℕ → Line → Env → Env
line_next i (Bin op a b) e = with_line i (bin_value op (value e a) (value e b)) e
line_next i (One op a) e = with_line i (one_value op (value e a)) e
line_next i (Select c a b) e = with_line i (select_value (value e c) (value e a) (value e b)) e
line_next i (Load w at) e = with_line i (loaded (load (value e at) (size_of w) e.mem)) e
line_next i (Store w at a) e = record e { mem = stored e.mem (store (value e at) (size_of w) (value e a) e.mem) }
line_next i Gone e = e

-- after lines, each with its number
abbrev pub fold : List (ℕ × Line) → Env → Env
fold [] e = e
fold (p ∷ ps) e = fold ps (line_next p.0 p.1 e)

-- memory allows what the line does
abbrev pub IsAllowed : Line → Env → Type 0
IsAllowed (Bin op a b) e = Unit {0}
IsAllowed (One op a) e = Unit {0}
IsAllowed (Select c a b) e = Unit {0}
IsAllowed (Load w at) e = (x : ℕ) × (load (value e at) (size_of w) e.mem ≡ Some x)
IsAllowed (Store w at a) e = (m : List Region) × (store (value e at) (size_of w) (value e a) e.mem ≡ Some m)
IsAllowed Gone e = Unit {0}

-- memory allows each line where it is done
abbrev pub AllAllowed : List (ℕ × Line) → Env → Type 0
AllAllowed [] e = Unit {0}
AllAllowed (p ∷ ps) e = IsAllowed p.1 e × AllAllowed ps (line_next p.0 p.1 e)

-- lines one after another, the first with number i
abbrev pub numbered : ℕ → List Line → List (ℕ × Line)
numbered i [] = []
numbered i (l ∷ ls) = (i, l) ∷ numbered (suc i) ls

-- ---- what a block gives

-- what the virtual registers hold
abbrev pub outs_of : List Val → Env → ℕ → ℕ
outs_of outs e v = value e (get_or outs v (Num 0))

-- the address after the block; that of a native instruction is none of its own
abbrev pub exit_of : Exit → Env → ℕ
exit_of (Jump to) e = to
exit_of (Cond test taken next) e = select_value (value e test) taken next
exit_of (Way v) e = value e v
exit_of (Island len) e = 0
