-- Which lines a fragment runs on every way out, and which only where it is left by a side exit.
use Rattle.std.specs.Prelude.{◌≡◌, ◌<◌, length, ℕ, suc, Bool, true, false, ◌||◌, ◌&&◌, ◌==◌, not, List, [], ◌∷◌, get_or, map}
use Rattle.std.specs.List.{list_any}
use Rattle.ssa_form.specs.declared.form.Line.{Line}
use Rattle.ssa_form.specs.declared.form.Line.TheVariants.{Load, Gone}
use Rattle.ssa_form.specs.declared.form.Exit.{Exit}
use Rattle.ssa_form.specs.declared.form.Exit.TheVariants.{Jump, Cond, Way, Island}
use Rattle.ssa_form.specs.declared.form.Block.{Block}
use Rattle.ssa_form.specs.declared.form.BlockKey.{BlockKey}
use Rattle.ssa_form.specs.declared.form.Split.{Split}
use Rattle.ssa_form.specs.Agree.{every}
use Rattle.pass_dead.specs.Names.{outs_name, has, set_of}
use Rattle.pass_dead.specs.Needed.{needed, roots_of}

-- ---- the ways out

abbrev pub is_known : List ℕ → ℕ → Bool
is_known known x = list_any (λ k. k == x) known

-- some way out leads to the original program
abbrev pub has_fallback : Exit → List ℕ → Bool
has_fallback (Jump to) known = not (is_known known to)
has_fallback (Cond test taken next) known = not (is_known known taken) || not (is_known known next)
has_fallback (Way v) known = true
has_fallback (Island len) known = false

-- the addresses of known exits
abbrev pub starts_of : List (ℕ × ℕ) → List ℕ
starts_of exits = map (λ (e : ℕ × ℕ). e.0) exits

-- register v is live at a known exit
abbrev pub live_at : List (ℕ × ℕ) → ℕ → Bool
live_at exits v = list_any (λ e. has e.1 v) exits

-- ---- the two parts; live: the registers that are live at a known exit; unknown: whether some way out leads to the original

abbrev pub is_load : Line → Bool
is_load (Load w at) = true
is_load _ = false

-- what a side exit needs: the lines of all outs
abbrev pub fall_of : (unknown : Bool) → Block → ℕ → Bool
fall_of unknown b j = unknown && needed b.lines (outs_name every 0 b.outs) j

-- stores, the exit's line, the lines of live outs, and the loads of a side exit, with all that they need
abbrev pub body_of : (live : ℕ → Bool) (unknown : Bool) → Block → ℕ → Bool
body_of live unknown b = needed b.lines (λ j. roots_of live b j || (fall_of unknown b j && is_load (get_or b.lines j Gone)))

-- the rest of what a side exit needs
abbrev pub sunk_of : (live : ℕ → Bool) (unknown : Bool) → Block → ℕ → Bool
sunk_of live unknown b j = fall_of unknown b j && not (body_of live unknown b j)

-- ---- the split

-- marks of lines are those of a set
abbrev pub IsSet : List Bool → List Line → (ℕ → Bool) → Type 0
IsSet marks ls set = (j : ℕ) → j < length ls → set_of marks j ≡ set j

-- of the lines from number n on, whether each is in the set
abbrev pub listed : (ℕ → Bool) → ℕ → List Line → List Bool
listed set n [] = []
listed set n (l ∷ ls) = set n ∷ listed set (suc n) ls

-- marks of what is in one set and not in another
abbrev pub IsWithout : (set other marks : List Bool) → Type 0
IsWithout set other marks = (j : ℕ) → j < length set → set_of marks j ≡ (set_of set j && not (set_of other j))

-- marks of the body, from those of what a side exit needs
abbrev pub IsBodyOf : (live : ℕ) → Block → (fall body : List Bool) → Type 0
IsBodyOf live b fall body = (unknown : Bool) → IsSet fall b.lines (fall_of unknown b) → IsSet body b.lines (body_of (has live) unknown b)

abbrev pub split_of : Block → BlockKey → Split
split_of b key =
    let live = live_at key.exits in
    let unknown = has_fallback b.exit (starts_of key.exits) in
    record { body = listed (body_of live unknown b) 0 b.lines; sunk = listed (sunk_of live unknown b) 0 b.lines }
