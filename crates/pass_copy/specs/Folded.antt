-- Folding: a block's lines from first to last, each of which may give its name to those behind it.
use Rattle.std.specs.Prelude.{◌≡◌, ℕ, true, List, [], ◌∷◌, ◌++◌, length, get_or, map, Option, Some, None}
use Rattle.ssa_form.specs.declared.form.Val.{Val}
use Rattle.ssa_form.specs.declared.form.Val.TheVariants.{Param, Line as Of, Num}
use Rattle.ssa_form.specs.declared.form.Line.{Line}
use Rattle.ssa_form.specs.declared.form.Line.TheVariants.{Bin, One, Select, Load, Store, Gone}
use Rattle.ssa_form.specs.declared.form.Exit.{Exit}
use Rattle.ssa_form.specs.declared.form.Exit.TheVariants.{Jump, Cond, Way, Island}
use Rattle.ssa_form.specs.declared.form.Block.{Block}
use Rattle.ssa_form.specs.Checked.{checked}
use Rattle.ssa_form.specs.Same.{HasWords, KeepsMeaning}
use Rattle.pass_const.specs.Rule.{rule}

-- ---- names, where each earlier line has the name that stands for it

abbrev pub replaced : List Val → Val → Val
replaced t (Param v) = Param v
replaced t (Of j) = get_or t j (Num 0)
replaced t (Num n) = Num n

abbrev pub line_replaced : List Val → Line → Line
line_replaced t (Bin o a b) = Bin o (replaced t a) (replaced t b)
line_replaced t (One o a) = One o (replaced t a)
line_replaced t (Select c a b) = Select (replaced t c) (replaced t a) (replaced t b)
line_replaced t (Load w at) = Load w (replaced t at)
line_replaced t (Store w at a) = Store w (replaced t at) (replaced t a)
line_replaced t Gone = Gone

abbrev pub exit_replaced : List Val → Exit → Exit
exit_replaced t (Jump to) = Jump to
exit_replaced t (Cond test taken next) = Cond (replaced t test) taken next
exit_replaced t (Way v) = Way (replaced t v)
exit_replaced t (Island len) = Island len

-- ---- lines

-- a line whose place a name takes is gone
abbrev pub kept : Option Val → Line → Line
kept None l = l
kept (Some v) l = Gone

-- the name that stands for line i: its own, or the one that takes its place
abbrev pub stand : Option Val → ℕ → Val
stand None i = Of i
stand (Some v) i = v

-- the folded lines, from the names that stand for the earlier ones
abbrev pub folded_lines : List Val → List Line → List Line
folded_lines t [] = []
folded_lines t (l ∷ ls) =
    let m = line_replaced t l in
    kept (rule m) m ∷ folded_lines (t ++ stand (rule m) (length t) ∷ []) ls

-- the names that stand for all lines
abbrev pub stands : List Val → List Line → List Val
stands t [] = t
stands t (l ∷ ls) = stands (t ++ stand (rule (line_replaced t l)) (length t) ∷ []) ls

-- the folded block: outs and exit too
abbrev pub folded : Block → Block
folded b =
    let t = stands [] b.lines in
    record b { lines = folded_lines [] b.lines; outs = map (replaced t) b.outs; exit = exit_replaced t b.exit }

-- ---- what folding keeps

-- exits of one kind, which lead to the same addresses where these are fixed
abbrev pub SameKind : Exit → Exit → Type 0
SameKind (Jump a) (Jump b) = a ≡ b
SameKind (Cond t a b) (Cond u c d) = (a ≡ c) × (b ≡ d)
SameKind (Way v) (Way w) = Unit {0}
SameKind (Island n) (Island m) = n ≡ m
SameKind _ _ = ⊥

-- the folded block may do what the block may, and gives the same
abbrev pub FoldKeeps : Type 0
FoldKeeps = (b : Block) → checked b ≡ true → HasWords b → KeepsMeaning b (folded b)

-- it is checked, with as many lines and an exit of the same kind
abbrev pub FoldIsChecked : Type 0
FoldIsChecked = (b : Block) → checked b ≡ true → checked (folded b) ≡ true

abbrev pub FoldHasForm : Type 0
FoldHasForm = (b : Block) → (length (folded b).lines ≡ length b.lines) × SameKind b.exit (folded b).exit
