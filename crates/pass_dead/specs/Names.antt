-- What the lines of a block name, and sets of lines that are closed under it.
use Rattle.std.specs.Prelude.{◌≡◌, ℕ, suc, ◌<◌, Bool, true, false, ◌||◌, ◌&&◌, ◌==◌, nat_eq, List, [], ◌∷◌, length, get_or}
use Rattle.std.specs.Int.{bit_at}
use Rattle.ssa_form.specs.declared.form.Val.{Val}
use Rattle.ssa_form.specs.declared.form.Val.TheVariants.{Param, Line as Of, Num}
use Rattle.ssa_form.specs.declared.form.Line.{Line}
use Rattle.ssa_form.specs.declared.form.Line.TheVariants.{Bin, One, Select, Load, Store, Gone}
use Rattle.ssa_form.specs.declared.form.Exit.{Exit}
use Rattle.ssa_form.specs.declared.form.Exit.TheVariants.{Jump, Cond, Way, Island}
use Rattle.ssa_form.specs.Agree.{every}

-- ---- what lines and exits name

-- the names that a line reads
abbrev pub vals_of : Line → List Val
vals_of (Bin op a b) = a ∷ b ∷ []
vals_of (One op a) = a ∷ []
vals_of (Select c a b) = c ∷ a ∷ b ∷ []
vals_of (Load w at) = at ∷ []
vals_of (Store w at a) = at ∷ a ∷ []
vals_of Gone = []

-- the name that an exit reads
abbrev pub exit_vals : Exit → List Val
exit_vals (Jump to) = []
exit_vals (Cond test taken next) = test ∷ []
exit_vals (Way v) = v ∷ []
exit_vals (Island len) = []

-- the name is that of line j
abbrev pub val_names : Val → ℕ → Bool
val_names (Param v) j = false
val_names (Of i) j = nat_eq j i
val_names (Num n) j = false

-- one of the names is
abbrev pub vals_name : List Val → ℕ → Bool
vals_name [] j = false
vals_name (v ∷ vs) j = val_names v j || vals_name vs j

-- an out of a virtual register that is on names line j; the first out is that of register v
abbrev pub outs_name : (ℕ → Bool) → ℕ → List Val → ℕ → Bool
outs_name on v [] j = false
outs_name on v (o ∷ os) j = (on v && val_names o j) || outs_name on (suc v) os j

abbrev pub is_store : Line → Bool
is_store (Store w at a) = true
is_store _ = false

-- ---- sets

-- a set of virtual registers as a number: bit v of it is register v
abbrev pub has : ℕ → ℕ → Bool
has set v = bit_at set v == 1

-- a set of lines as one truth value for each line
abbrev pub set_of : List Bool → ℕ → Bool
set_of marks j = get_or marks j false

-- the new marks are the old ones and those of a set
abbrev pub Adds : (old : List Bool) (more : ℕ → Bool) (new : List Bool) → Type 0
Adds old more new = (j : ℕ) → j < length old → set_of new j ≡ (set_of old j || more j)

-- ---- closed sets of lines

-- the name of a parameter that is on, of a line that is kept, or of a number
abbrev pub NamedIn : (on keep : ℕ → Bool) → Val → Type 0
NamedIn on keep (Param v) = on v ≡ true
NamedIn on keep (Of j) = keep j ≡ true
NamedIn on keep (Num n) = Unit {0}

abbrev pub ValsIn : (on keep : ℕ → Bool) → List Val → Type 0
ValsIn on keep [] = Unit {0}
ValsIn on keep (v ∷ vs) = NamedIn on keep v × ValsIn on keep vs

-- each kept line, the first of number n, reads only such names
abbrev pub IsClosed : (on keep : ℕ → Bool) → ℕ → List Line → Type 0
IsClosed on keep n [] = Unit {0}
IsClosed on keep n (l ∷ ls) = (keep n ≡ true → ValsIn on keep (vals_of l)) × IsClosed on keep (suc n) ls

abbrev pub IsWithin : (small large : ℕ → Bool) → Type 0
IsWithin small large = (j : ℕ) → small j ≡ true → large j ≡ true

-- the least closed set with the roots
pub record IsLeast (ls : List Line) (roots set : ℕ → Bool) : Type 0 where
  pub has : IsWithin roots set
  pub closed : IsClosed every set 0 ls
  pub least : (other : ℕ → Bool) → IsWithin roots other → IsClosed every other 0 ls → IsWithin set other
