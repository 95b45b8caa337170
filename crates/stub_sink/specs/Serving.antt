-- When a split serves: from registers that are live before the block, for those that are live behind it.
use Rattle.std.specs.Prelude.{◌≡◌, ℕ, ◌<◌, Bool, true, false, ◌||◌, List, [], ◌∷◌, length, get_or}
use Rattle.ssa_form.specs.declared.form.TheConstants.{REGISTERS}
use Rattle.ssa_form.specs.declared.form.Val.TheVariants.{Num}
use Rattle.ssa_form.specs.declared.form.Line.{Line}
use Rattle.ssa_form.specs.declared.form.Block.{Block}
use Rattle.ssa_form.specs.declared.form.BlockKey.{BlockKey}
use Rattle.ssa_form.specs.Agree.{every}
use Rattle.ssa_form.specs.Checked.{has_result, checked}
use Rattle.ssa_form.specs.Same.{rows}
use Rattle.pass_dead.specs.Names.{vals_of, exit_vals, is_store, NamedIn, ValsIn}
use Rattle.stub_sink.specs.Splits.{has_fallback, starts_of, live_at, is_load, body_of, sunk_of, IsSet, split_of}

abbrev pub either : (f g : ℕ → Bool) → ℕ → Bool
either f g j = f j || g j

-- ---- what is asked of a split

-- all stores are kept, and a kept line names only registers that are on and kept lines
abbrev pub Closed : (on keep : ℕ → Bool) → List (ℕ × Line) → Type 0
Closed on keep [] = Unit {0}
Closed on keep (p ∷ ps) =
    (is_store p.1 ≡ true → keep p.0 ≡ true) × (keep p.0 ≡ true → ValsIn on keep (vals_of p.1)) × Closed on keep ps

-- a line that has a result, and touches no memory
pub record IsQuiet (l : Line) : Type 0 where
  pub result : has_result l ≡ true
  pub no_load : is_load l ≡ false

-- sunk lines are quiet, and name only registers that are on, kept lines and sunk ones
abbrev pub AllSunk : (on keep sunk : ℕ → Bool) → List (ℕ × Line) → Type 0
AllSunk on keep sunk [] = Unit {0}
AllSunk on keep sunk (p ∷ ps) =
    (sunk p.0 ≡ true → IsQuiet p.1 × ValsIn on (either keep sunk) (vals_of p.1)) × AllSunk on keep sunk ps

-- The body runs by itself, with the exit and the outs of live registers. No sunk line is in it, and there is none without a side exit.
-- At a side exit body and sunk lines give all outs.
pub record IsSplit (on live : ℕ → Bool) (unknown : Bool) (b : Block) (body sunk : ℕ → Bool) : Type 0 where
  pub runs : Closed on body (rows b)
  pub exit : ValsIn on body (exit_vals b.exit)
  pub outs : (v : ℕ) → v < REGISTERS → live v ≡ true → NamedIn on body (get_or b.outs v (Num 0))
  pub apart : (j : ℕ) → body j ≡ true → sunk j ≡ false
  pub none : unknown ≡ false → (j : ℕ) → sunk j ≡ false
  pub moves : unknown ≡ true → AllSunk on body sunk (rows b)
  pub all_outs : unknown ≡ true → (v : ℕ) → v < REGISTERS → NamedIn on (either body sunk) (get_or b.outs v (Num 0))

-- ---- what is asked of the registers

-- the parameters that lines name are on
abbrev pub LinesOn : (ℕ → Bool) → List Line → Type 0
LinesOn on [] = Unit {0}
LinesOn on (l ∷ ls) = ValsIn on every (vals_of l) × LinesOn on ls

-- so are those that the exit names, and the outs of registers that are live behind the block; at a side exit all are
pub record Feeds (on live : ℕ → Bool) (unknown : Bool) (b : Block) : Type 0 where
  pub lines : LinesOn on b.lines
  pub exit : ValsIn on every (exit_vals b.exit)
  pub outs : (v : ℕ) → v < REGISTERS → (live v || unknown) ≡ true → NamedIn on every (get_or b.outs v (Num 0))

-- ---- what a reader believes

-- registers that feed a checked block are enough for its split
abbrev pub EachSplitServes : Type 0
EachSplitServes = (b : Block) (on live : ℕ → Bool) (unknown : Bool) → checked b ≡ true → Feeds on live unknown b →
    IsSplit on live unknown b (body_of live unknown b) (sunk_of live unknown b)

-- the split has one truth value for each line in both lists: whether the line is in that part
pub record IsListed (b : Block) (key : BlockKey) : Type 0 where
  pub body_length : length (split_of b key).body ≡ length b.lines
  pub sunk_length : length (split_of b key).sunk ≡ length b.lines
  pub body : IsSet (split_of b key).body b.lines (body_of (live_at key.exits) (has_fallback b.exit (starts_of key.exits)) b)
  pub sunk : IsSet (split_of b key).sunk b.lines (sunk_of (live_at key.exits) (has_fallback b.exit (starts_of key.exits)) b)

abbrev pub EachSplitIsListed : Type 0
EachSplitIsListed = (b : Block) (key : BlockKey) → IsListed b key
