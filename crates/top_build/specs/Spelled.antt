-- What the step finds, by the table of spellings alone.
use Rattle.std.specs.Prelude.{◌≡◌, ℕ, List}
use Rattle.br_word.specs.Memory.{Region, HoldBytes}
use Rattle.ia_inst.specs.Step.{Found, found}
use Rattle.ia_inst.specs.Stands.{Stands}

-- it stands there
abbrev pub AreSpelled : Type 0
AreSpelled = (at : ℕ) (rs : List Region) → HoldBytes rs → Stands at rs (found at rs)

-- and nothing else does
abbrev pub AreOnly : Type 0
AreOnly = (at : ℕ) (rs : List Region) (f : Found) → HoldBytes rs → Stands at rs f → found at rs ≡ f
