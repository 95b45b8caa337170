-- The places of a block's lines: each takes, in the order of placing, the first place that is free.
use Rattle.std.specs.Prelude.{◌≡◌, ℕ, zero, suc, ◌+◌, ◌<◌, ◌⊎◌, ◌||◌, Bool, true, false, List, [], ◌∷◌, ◌++◌, length, get_or, set, filter, replicate, nat_lt, Option, Some, None, if◌then◌else◌}
use Rattle.ssa_form.specs.declared.form.Val.{Val}
use Rattle.ssa_form.specs.declared.form.Val.TheVariants as val
use Rattle.ssa_form.specs.declared.form.Line.{Line}
use Rattle.ssa_form.specs.declared.form.Line.TheVariants.{Bin, One, Select, Load, Store, Gone}
use Rattle.ssa_form.specs.declared.form.Block.{Block}
use Rattle.ssa_form.specs.declared.form.Split.{Split}
use Rattle.ssa_form.specs.Agree.{every}
use Rattle.ssa_form.specs.Checked.{has_result}
use Rattle.ssa_form.specs.Same.{rows}
use Rattle.pass_dead.specs.Names.{vals_of, exit_vals, vals_name, outs_name}
use Rattle.par_moves.specs.declared.locations.Place.{Place}
use Rattle.par_moves.specs.declared.locations.Place.TheVariants.{Reg, Slot}

-- ---- what a line names

abbrev pub IsNamed : Val → ℕ → Type 0
IsNamed (val.Param v) j = ⊥
IsNamed (val.Line k) j = k ≡ j
IsNamed (val.Num n) j = ⊥

abbrev pub Names : Line → ℕ → Type 0
Names (Bin op a b) j = IsNamed a j ⊎ IsNamed b j
Names (One op a) j = IsNamed a j
Names (Select c a b) j = IsNamed c j ⊎ (IsNamed a j ⊎ IsNamed b j)
Names (Load w at) j = IsNamed at j
Names (Store w at a) j = IsNamed at j ⊎ IsNamed a j
Names Gone j = ⊥

-- ---- splits

abbrev pub is_in : List Bool → ℕ → Bool
is_in set i = get_or set i false

-- with a line, a set has the lines that it names
abbrev pub IsClosed : List Line → (ℕ → Bool) → Type 0
IsClosed lines set = (i j : ℕ) → i < length lines → set i ≡ true → Names (get_or lines i Gone) j → set j ≡ true

-- One entry for each line in both lists, and no line in both; the body is closed, and body and sunk lines together are.
pub record IsSplit (b : Block) (s : Split) : Type 0 where
  pub body : length s.body ≡ length b.lines
  pub sunk : length s.sunk ≡ length b.lines
  pub apart : (i : ℕ) → is_in s.body i ≡ true → is_in s.sunk i ≡ false
  pub closed : IsClosed b.lines (is_in s.body)
  pub together : IsClosed b.lines (λ i. is_in s.body i || is_in s.sunk i)

-- ---- the order of placing, and uses

-- the lines of a set, each with its number
abbrev pub lines_in : List Bool → Block → List (ℕ × Line)
lines_in set b = filter (λ p. is_in set p.0) (rows b)

-- those of the body, and then the sunk ones
abbrev pub order : Block → Split → List (ℕ × Line)
order b s = lines_in s.body b ++ lines_in s.sunk b

-- an out names line j, also one that is dead, or the exit does
abbrev pub at_end : Block → ℕ → Bool
at_end b j = outs_name every 0 b.outs j || vals_name (exit_vals b.exit) j

-- one of the lines that are left does, or what comes after all lines
abbrev pub is_used : (ends : ℕ → Bool) → List (ℕ × Line) → ℕ → Bool
is_used ends [] j = ends j
is_used ends (p ∷ ps) j = vals_name (vals_of p.1) j || is_used ends ps j

-- ---- places

-- by number: edi, edx, and then slots from 17 on
abbrev pub place_of : ℕ → Place
place_of zero = Reg 7
place_of (suc zero) = Reg 2
place_of (suc (suc k)) = Slot (17 + k)

-- the number of the first whose line is used no more, by the lines that took the places, one for each; else of the next
abbrev pub first_free : (ℕ → Bool) → List ℕ → ℕ
first_free later [] = 0
first_free later (i ∷ is) = if later i then suc (first_free later is) else 0

-- an entry of a list is changed, or one more comes behind it
abbrev pub put_at : List ℕ → ℕ → ℕ → List ℕ
put_at xs k x = if nat_lt k (length xs) then set xs k x else xs ++ x ∷ []

-- lines that are left take their places in order; `takers` has for each place the line that took it last
abbrev pub placing : (ends : ℕ → Bool) → List ℕ → List (ℕ × Line) → List (Option Place) → List (Option Place)
placing ends takers [] places = places
placing ends takers (p ∷ ps) places =
    let k = first_free (is_used ends ps) takers in
    if has_result p.1 then placing ends (put_at takers k p.0) ps (set places p.0 (Some (place_of k))) else placing ends takers ps places

-- one entry for each line; a line without a result, or in neither list, has none
abbrev pub placed : Block → Split → List (Option Place)
placed b s = placing (at_end b) [] (order b s) (replicate (length b.lines) None)
