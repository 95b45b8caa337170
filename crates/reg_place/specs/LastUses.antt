-- The last use of a line, as a number: one more than the position of the last line that names it.
use Rattle.std.specs.Prelude.{ℕ, suc, Bool, if◌then◌else◌, List, [], ◌∷◌, length}
use Rattle.ssa_form.specs.declared.form.Line.{Line}
use Rattle.pass_dead.specs.Names.{vals_of, vals_name}

-- among lines from position n on, where `last` is that of the lines before
abbrev pub last_named : ℕ → List (ℕ × Line) → ℕ → ℕ → ℕ
last_named n [] j last = last
last_named n (p ∷ ps) j last = last_named (suc n) ps j (if vals_name (vals_of p.1) j then suc n else last)

-- what outs and exit name is used behind all lines
abbrev pub last_use : (ends : ℕ → Bool) → List (ℕ × Line) → ℕ → ℕ
last_use ends steps j = if ends j then suc (length steps) else last_named 0 steps j 0
