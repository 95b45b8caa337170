-- What a coding gives of the block that it serves, from homes that are right at live registers.
use Rattle.std.specs.Prelude.{◌≡◌, ℕ, ◌<◌, Bool, true, List}
use Rattle.br_word.specs.Memory.{Region, HoldBytes}
use Rattle.ssa_form.specs.declared.form.Block.{Block}
use Rattle.ssa_form.specs.Same.{AreSmall, rows, start_env, end_env, IsAllowedAt}
use Rattle.ssa_form.specs.Value.{AllAllowed, outs_of}
use Rattle.par_moves.specs.declared.locations.Place.{Place}
use Rattle.emit_ops.specs.Sequences.{kept}
use Rattle.sim_runs.specs.Coding.{Coding, Exits, Serves}
use Rattle.sim_runs.specs.Pieces.{whole_end}

-- memory allows its body, and where a way out is not known, body and sunk lines give all outs
pub record Given (b : Block) (exits : Exits) (k : Coding) (p q : ℕ → ℕ) (m : List Region) : Type 0 where
  pub allowed : AllAllowed (kept k.body (rows k.block)) (start_env q m)
  pub outs : exits.unknown ≡ true → (v : ℕ) → v < 14
      → outs_of k.block.outs (whole_end k q m) v ≡ outs_of b.outs (end_env b p m) v

-- wherever the block is allowed from p, and the homes hold q
abbrev pub CodingGives : Type 0
CodingGives = (home : ℕ → Place) (on : ℕ → Bool) (b : Block) (exits : Exits) (k : Coding) → Serves home on b exits k
    → (p q : ℕ → ℕ) (m : List Region) → AreSmall p → HoldBytes m → IsAllowedAt b p m
    → ((v : ℕ) → on v ≡ true → q v ≡ p v) → Given b exits k p q m
