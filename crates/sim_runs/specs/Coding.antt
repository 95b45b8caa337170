-- What a fragment is made of, and when that serves its block.
use Rattle.std.specs.Prelude.{◌≡◌, ℕ, ◌<◌, ◌≤◌, Bool, true, false, List, [], ◌∷◌, ◌++◌, length, get_or, ◌⊎◌}
use Rattle.par_moves.specs.declared.locations.Place.{Place}
use Rattle.par_moves.specs.declared.locations.Place.TheVariants.{Reg, Slot}
use Rattle.ssa_form.specs.declared.form.Val.{Val}
use Rattle.ssa_form.specs.declared.form.Val.TheVariants.{Param, Line as Named, Num}
use Rattle.ssa_form.specs.declared.form.Line.{Line}
use Rattle.ssa_form.specs.declared.form.Line.TheVariants.{Bin, One, Select, Load, Store, Gone}
use Rattle.ssa_form.specs.declared.form.Exit.{Exit}
use Rattle.ssa_form.specs.declared.form.Exit.TheVariants.{Jump, Cond, Way, Island}
use Rattle.ssa_form.specs.declared.form.Block.{Block}
use Rattle.ssa_form.specs.Same.{rows, KeepsMeaning}
use Rattle.sim_runs.specs.Lines.{NamedIn, Closed, Below, Ordered, either, AllSunk}
use Rattle.emit_ops.specs.Sequences.{kept}

-- the value that an out names
abbrev pub out_at : Block → ℕ → Val
out_at b v = get_or b.outs v (Num 0)

-- exits of one kind, which lead to the same addresses where these are fixed
abbrev pub SameKind : Exit → Exit → Type 0
SameKind (Jump a) (Jump b) = a ≡ b
SameKind (Cond t a b) (Cond u c d) = (a ≡ c) × (b ≡ d)
SameKind (Way v) (Way w) = Unit {0}
SameKind _ _ = ⊥

-- which lines of which block a fragment runs before its exit and which on the way to the original, and where
-- their results are
pub record Coding : Type 0 where
  pub block : Block
  pub body : ℕ → Bool
  pub sunk : ℕ → Bool
  pub place : ℕ → Place

-- of the exits: what is live at a known one, and whether a way out is not known
pub record Exits : Type 0 where
  pub live : ℕ → Bool
  pub unknown : Bool

-- what an exit tests or goes to is live or kept
abbrev pub ExitIn : (ℕ → Bool) → (ℕ → Bool) → Exit → Type 0
ExitIn on keep (Jump to) = Unit {0}
ExitIn on keep (Cond t taken next) = NamedIn on keep t
ExitIn on keep (Way v) = NamedIn on keep v
ExitIn on keep (Island len) = Unit {0}

-- ---- places that are still used

-- a value names the line
abbrev pub NamesIt : ℕ → Val → Type 0
NamesIt i (Param v) = ⊥
NamesIt i (Named j) = j ≡ i
NamesIt i (Num n) = ⊥

-- a line does
abbrev pub LineNames : ℕ → Line → Type 0
LineNames i (Bin op a b) = NamesIt i a ⊎ NamesIt i b
LineNames i (One op a) = NamesIt i a
LineNames i (Select c a b) = NamesIt i c ⊎ (NamesIt i a ⊎ NamesIt i b)
LineNames i (Load w at) = NamesIt i at
LineNames i (Store w at a) = NamesIt i at ⊎ NamesIt i a
LineNames i Gone = ⊥

-- a line that gives a value
abbrev pub HasResult : Line → Type 0
HasResult (Bin op a b) = Unit {0}
HasResult (One op a) = Unit {0}
HasResult (Select c a b) = Unit {0}
HasResult (Load w at) = Unit {0}
HasResult (Store w at a) = ⊥
HasResult Gone = ⊥

-- an exit names the line
abbrev pub ExitNames : ℕ → Exit → Type 0
ExitNames i (Jump to) = ⊥
ExitNames i (Cond t taken next) = NamesIt i t
ExitNames i (Way v) = NamesIt i v
ExitNames i (Island len) = ⊥

-- the exit or an out does
abbrev pub EndNames : Block → ℕ → Type 0
EndNames b i = ExitNames i b.exit ⊎ ((v : ℕ) × (v < 14) × NamesIt i (out_at b v))

-- one of these lines does, or the end of the block: uses in outs and exit come last
abbrev pub NamedLater : Block → ℕ → List (ℕ × Line) → Type 0
NamedLater b i [] = EndNames b i
NamedLater b i (q ∷ qs) = LineNames i q.1 ⊎ NamedLater b i qs

-- none of these lines takes the place of line i while it is still named
abbrev pub IsKept : Block → (ℕ → Place) → ℕ → List (ℕ × Line) → Type 0
IsKept b place i [] = Unit {0}
IsKept b place i (q ∷ qs) = (HasResult q.1 → place q.0 ≡ place i → NamedLater b i qs → ⊥) × IsKept b place i qs

-- of no line
abbrev pub NoneLost : Block → (ℕ → Place) → List (ℕ × Line) → Type 0
NoneLost b place [] = Unit {0}
NoneLost b place (p ∷ ps) = IsKept b place p.0 ps × NoneLost b place ps

-- no home, neither eax nor ecx, a register or a slot of the private segment
pub record IsPlace (home : ℕ → Place) (s : Place) : Type 0 where
  pub free : (v : ℕ) → v < 14 → home v ≡ s → ⊥
  pub register : (r : ℕ) → s ≡ Reg r → (1 < r) × (r < 8)
  pub slot : (k : ℕ) → s ≡ Slot k → k < 16384

-- From homes that are right at live registers the body is enough for the outs that are live at known exits, and
-- body and sunk lines for all outs where a way out is not known.
pub record Serves (home : ℕ → Place) (on : ℕ → Bool) (b : Block) (exits : Exits) (c : Coding) : Type 0 where
  pub few : length c.block.lines ≤ 2048
  pub order : Ordered 0 (rows c.block)
  pub named : (v : ℕ) → v < 14 → Below (length (rows c.block)) (out_at c.block v)
  pub kind : SameKind b.exit c.block.exit
  pub same : KeepsMeaning b c.block
  pub body : Closed on c.body (rows c.block)
  pub exit : ExitIn on c.body c.block.exit
  pub outs : (v : ℕ) → v < 14 → exits.live v ≡ true → NamedIn on c.body (out_at c.block v)
  pub apart : (j : ℕ) → c.body j ≡ true → c.sunk j ≡ false
  pub sunk : exits.unknown ≡ true → AllSunk on c.body c.sunk (rows c.block)
  pub all_outs : exits.unknown ≡ true → (v : ℕ) → v < 14 → NamedIn on (either c.body c.sunk) (out_at c.block v)
  pub places : (j : ℕ) → j < length c.block.lines → IsPlace home (c.place j)
  pub lasting : NoneLost c.block c.place (kept c.body (rows c.block) ++ kept c.sunk (rows c.block))
