-- Keys: the start of a block, and its known exits, each with the virtual registers that are live there.
use Rattle.std.specs.Prelude.{◌≡◌, ℕ, ◌+◌, ◌/◌, ◌%◌, ◌^◌, ◌<◌, ◌≤◌, ◌==◌, Bool, if◌then◌else◌, List, [], ◌∷◌, length, Option, Some, None, All, IsTrue, ◌⊎◌}
use Rattle.elf_read.specs.declared.exe.Exe.{Exe}
use Rattle.elf_read.specs.Elf.{is_exec}
use Rattle.ssa_form.specs.declared.form.Exit.{Exit}
use Rattle.ssa_form.specs.declared.form.Exit.TheVariants.{Jump, Cond, Way, Island}
use Rattle.ssa_form.specs.declared.form.BlockKey.{BlockKey}
use Rattle.ssa_form.specs.declared.form.TheConstants.{REGISTERS}
use Rattle.lift_flow.specs.LiftedBlock.{lift_of}
use Rattle.block_make.specs.declared.fragment.TheConstants.{MAX_EXITS}

-- the live set of a known exit, where the address is one
abbrev pub live_at : List (ℕ × ℕ) → ℕ → Option ℕ
live_at [] y = None
live_at (e ∷ es) y = if e.0 == y then Some e.1 else live_at es y

-- bit v of a live set is virtual register v
abbrev pub has : ℕ → ℕ → Bool
has set v = (set / 2 ^ v) % 2 == 1

-- each exit once
abbrev pub AreDistinct : List (ℕ × ℕ) → Type 0
AreDistinct [] = Unit {0}
AreDistinct (e ∷ es) = (live_at es e.0 ≡ None) × AreDistinct es

-- a way out of a block: an indirect exit may lead anywhere, and a native instruction goes on behind itself
abbrev pub IsWayOut : ℕ → Exit → ℕ → Type 0
IsWayOut start (Jump to) y = y ≡ to
IsWayOut start (Cond test taken next) y = (y ≡ taken) ⊎ (y ≡ next)
IsWayOut start (Way v) y = Unit {0}
IsWayOut start (Island len) y = y ≡ start + len

-- what a fragment can be made of: a start in code, and distinct ways out of its block
pub record IsKey (exe : Exe) (key : BlockKey) : Type 0 where
  pub code : IsTrue (is_exec key.start exe.segments)
  pub distinct : AreDistinct key.exits
  pub ways : All (λ e. IsWayOut key.start (lift_of exe key.start).exit e.0) key.exits
  pub few : length key.exits ≤ MAX_EXITS
  pub live : All (λ e. e.1 < 2 ^ REGISTERS) key.exits
