-- Sets of a block's lines that are closed under what they name.
use Rattle.std.specs.Prelude.{◌≡◌, ℕ, suc, ◌<◌, Bool, true, if◌then◌else◌, List, [], ◌∷◌}
use Rattle.ssa_form.specs.declared.form.Val.{Val}
use Rattle.ssa_form.specs.declared.form.Val.TheVariants.{Param, Line as Named, Num}
use Rattle.ssa_form.specs.declared.form.Line.{Line}
use Rattle.ssa_form.specs.declared.form.Line.TheVariants.{Bin, One, Select, Load, Store, Gone}
use Rattle.ssa_form.specs.Value.{Env}

-- a name of a live parameter, of a kept line, or of a number
abbrev pub NamedIn : (ℕ → Bool) → (ℕ → Bool) → Val → Type 0
NamedIn on keep (Param v) = on v ≡ true
NamedIn on keep (Named j) = keep j ≡ true
NamedIn on keep (Num n) = Unit {0}

-- a line that names only such
abbrev pub LineIn : (ℕ → Bool) → (ℕ → Bool) → Line → Type 0
LineIn on keep (Bin op a b) = NamedIn on keep a × NamedIn on keep b
LineIn on keep (One op a) = NamedIn on keep a
LineIn on keep (Select c a b) = NamedIn on keep c × NamedIn on keep a × NamedIn on keep b
LineIn on keep (Load w at) = NamedIn on keep at
LineIn on keep (Store w at a) = NamedIn on keep at × NamedIn on keep a
LineIn on keep Gone = Unit {0}

-- a store is kept
abbrev pub MustStay : (ℕ → Bool) → ℕ → Line → Type 0
MustStay keep i (Bin op a b) = Unit {0}
MustStay keep i (One op a) = Unit {0}
MustStay keep i (Select c a b) = Unit {0}
MustStay keep i (Load w at) = Unit {0}
MustStay keep i (Store w at a) = keep i ≡ true
MustStay keep i Gone = Unit {0}

-- what a kept line names is live or kept, and all stores are kept
abbrev pub Closed : (ℕ → Bool) → (ℕ → Bool) → List (ℕ × Line) → Type 0
Closed on keep [] = Unit {0}
Closed on keep (p ∷ ps) = MustStay keep p.0 p.1 × (keep p.0 ≡ true → LineIn on keep p.1) × Closed on keep ps

-- the same where it is live or kept
pub record Alike (on keep : ℕ → Bool) (e f : Env) : Type 0 where
  pub params : (v : ℕ) → on v ≡ true → e.params v ≡ f.params v
  pub lines : (j : ℕ) → keep j ≡ true → e.lines j ≡ f.lines j
  pub mem : e.mem ≡ f.mem

-- of lines, it names one below this number
abbrev pub Below : ℕ → Val → Type 0
Below i (Param v) = Unit {0}
Below i (Named j) = j < i
Below i (Num n) = Unit {0}

-- a line that names only such
abbrev pub LineBelow : ℕ → Line → Type 0
LineBelow i (Bin op a b) = Below i a × Below i b
LineBelow i (One op a) = Below i a
LineBelow i (Select c a b) = Below i c × Below i a × Below i b
LineBelow i (Load w at) = Below i at
LineBelow i (Store w at a) = Below i at × Below i a
LineBelow i Gone = Unit {0}

-- lines are numbered one after another, and name earlier ones
abbrev pub Ordered : ℕ → List (ℕ × Line) → Type 0
Ordered at [] = Unit {0}
Ordered at (p ∷ ps) = (p.0 ≡ at) × LineBelow at p.1 × Ordered (suc at) ps

-- in one of two sets
abbrev pub either : (ℕ → Bool) → (ℕ → Bool) → ℕ → Bool
either f g j = if f j then true else g j

-- a sunk line touches no memory, and names what is live, in the body or sunk
abbrev pub IsSunk : (ℕ → Bool) → (ℕ → Bool) → (ℕ → Bool) → Line → Type 0
IsSunk on keep sunk (Bin op a b) = NamedIn on (either keep sunk) a × NamedIn on (either keep sunk) b
IsSunk on keep sunk (One op a) = NamedIn on (either keep sunk) a
IsSunk on keep sunk (Select c a b) =
    NamedIn on (either keep sunk) c × NamedIn on (either keep sunk) a × NamedIn on (either keep sunk) b
IsSunk on keep sunk (Load w at) = ⊥
IsSunk on keep sunk (Store w at a) = ⊥
IsSunk on keep sunk Gone = ⊥

-- each sunk line of a list is one
abbrev pub AllSunk : (ℕ → Bool) → (ℕ → Bool) → (ℕ → Bool) → List (ℕ × Line) → Type 0
AllSunk on keep sunk [] = Unit {0}
AllSunk on keep sunk (p ∷ ps) = (sunk p.0 ≡ true → IsSunk on keep sunk p.1) × AllSunk on keep sunk ps
