-- What `asm` does, in a user's words.
use Rattle.std.specs.Prelude.{◌≡◌, ℕ, List, Option, Some, None, Result, Ok, Err}
use Rattle.br_outside.specs.Files.{Files}
use Rattle.asm_text.specs.declared.limits.TheConstants.{SOURCE_LIMIT}
use Rattle.asm_text.specs.Source.{assembled}
use Rattle.asm_text.specs.Law.{IsAssembled}
use Rattle.top_plan.specs.World.{World}
use Rattle.top_files.specs.Answers.{HasStored, UnlessBroken, IsAbsent, IsRefused, UnlessLong}
use Rattle.top_asm.specs.AsmPlan.{assembled_line}

-- the file of a source was stored, and it is read as the lines say
pub record HasAssembled (name source file : List ℕ) (files : Files) (s : World) (result : ℕ) (t : World) : Type 0 where
  pub stored : HasStored name file (assembled_line file) files s result t
  pub reads : IsAssembled source file

-- by what the source is assembled to, or its first refusal; it stands under the second word
abbrev pub Assembles : List ℕ → List ℕ → Result (List ℕ) (ℕ × ℕ) → Files → World → ℕ → World → Type 0
Assembles name source (Ok file) files s result t = HasAssembled name source file files s result t
Assembles name source (Err refusal) files s result t = IsRefused 2 refusal.0 refusal.1 s result t

-- by the content of the source
abbrev pub ReadsSource : List ℕ → Option (List ℕ) → Files → World → ℕ → World → Type 0
ReadsSource name None files s result t = IsAbsent s result t
ReadsSource name (Some source) files s result t =
    UnlessLong SOURCE_LIMIT source (Assembles name source (assembled source) files s result t) s result t

-- What `asm` does over a shelf that tells; and over any objects it takes nothing of the input.
pub record MeansAsm (name text : List ℕ) (s : World) (result : ℕ) (t : World) : Type 0 where
  pub told : (files : Files) → s.shelf.files ≡ Some files → UnlessBroken (ReadsSource name (files text) files s result t) s result t
  pub input : t.input ≡ s.input
