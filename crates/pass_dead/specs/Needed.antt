-- The lines that a block needs, and what pruning leaves.
use Rattle.std.specs.Prelude.{◌≡◌, ℕ, suc, Bool, true, ◌||◌, if◌then◌else◌, List, [], ◌∷◌, length, get_or}
use Rattle.ssa_form.specs.declared.form.Line.{Line}
use Rattle.ssa_form.specs.declared.form.Line.TheVariants.{Gone}
use Rattle.ssa_form.specs.declared.form.Block.{Block}
use Rattle.ssa_form.specs.Agree.{every}
use Rattle.ssa_form.specs.Checked.{checked}
use Rattle.ssa_form.specs.Same.{KeepsMeaning}
use Rattle.pass_dead.specs.Names.{vals_of, exit_vals, vals_name, outs_name, is_store, IsLeast}

-- ---- one sweep, from the last line to the first

-- a line that is needed adds what it names
abbrev pub marked : Bool → Line → (ℕ → Bool) → ℕ → Bool
marked b l set = if b then (λ j. set j || vals_name (vals_of l) j) else set

-- over the lines from number n on
abbrev pub needed_from : ℕ → List Line → (ℕ → Bool) → ℕ → Bool
needed_from n [] set = set
needed_from n (l ∷ ls) set = let later = needed_from (suc n) ls set in marked (later n) l later

abbrev pub needed : List Line → (ℕ → Bool) → ℕ → Bool
needed ls roots = needed_from 0 ls roots

-- ---- pruning

-- stores, and the line that the exit reads
abbrev pub always : Block → ℕ → Bool
always b j = is_store (get_or b.lines j Gone) || vals_name (exit_vals b.exit) j

-- those, and the lines of the outs of the registers that are on
abbrev pub roots_of : (on : ℕ → Bool) → Block → ℕ → Bool
roots_of on b j = always b j || outs_name on 0 b.outs j

-- the lines from number n on, those that are not kept gone
abbrev pub kept_lines : (ℕ → Bool) → ℕ → List Line → List Line
kept_lines keep n [] = []
kept_lines keep n (l ∷ ls) = (if keep n then l else Gone) ∷ kept_lines keep (suc n) ls

abbrev pub pruned : Block → Block
pruned b = record b { lines = kept_lines (needed b.lines (roots_of every b)) 0 b.lines }

-- ---- what a reader believes

-- the sweep gives the least closed set that has the roots
abbrev pub NeededIsLeast : Type 0
NeededIsLeast = (b : Block) (roots : ℕ → Bool) → checked b ≡ true → IsLeast b.lines roots (needed b.lines roots)

-- the pruned block may do what the block may, and gives the same
abbrev pub PruneKeeps : Type 0
PruneKeeps = (b : Block) → checked b ≡ true → KeepsMeaning b (pruned b)

-- it is checked, so that nothing that is left names a line that is gone
abbrev pub PruneIsChecked : Type 0
PruneIsChecked = (b : Block) → checked b ≡ true → checked (pruned b) ≡ true

-- it has as many lines
abbrev pub PruneHasForm : Type 0
PruneHasForm = (b : Block) → length (pruned b).lines ≡ length b.lines
