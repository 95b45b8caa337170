-- What any call leaves, over objects that tell what they hold, is a front part of what the whole call does.
use Rattle.std.specs.Prelude.{◌≡◌, ◌⊎◌, ◌≤◌, ◌+◌, ℕ, List, [], ◌∷◌, ◌++◌, length, take, drop, Option, Some}
use Rattle.std.specs.Option.{option_map}
use Rattle.br_outside.specs.Files.{Files, put}
use Rattle.br_outside.specs.Outside.{SameBut}
use Rattle.top_plan.specs.World.{World}
use Rattle.top_plan.specs.Plan.{Plan, Turned}
use Rattle.top_plan.specs.Texts.{end_text, halt_text}
use Rattle.top_plan.specs.Expected.{Store, Ending, expected, NoInput, AllTurns, IsTold, HasFailed}
use Rattle.top_plan.specs.declared.ends.Halt.{Halt}
use Rattle.top_plan.specs.declared.ends.Halt.TheVariants.{Because, Outside, Memory}
use Rattle.top_plan.specs.declared.ends.Object.TheVariants as objects

-- a front part of this text was written
abbrev pub WroteFront : List ℕ → Option (List ℕ) → Option (List ℕ) → Type 0
WroteFront text old new = (n : ℕ) × (new ≡ option_map (λ written. written ++ take n text) old)

-- The first of these stores were made; the next one may have failed, and then it is not known what its name holds.
abbrev pub StoredFront : List Store → Files → World → World → Type 0
StoredFront [] files s t = t.shelf.files ≡ Some files
StoredFront (x ∷ xs) files s t = (t.shelf.files ≡ Some files)
    ⊎ (HasFailed objects.Shelf s t × SameBut x.name (Some files) t.shelf.files)
    ⊎ StoredFront xs (put x.name (Some x.bytes) files) s t

-- a back part of the input is left, and no less than the whole call leaves, but for the bytes that it may take beyond
abbrev pub LeftBack : List ℕ → Ending → Option (List ℕ) → Type 0
LeftBack left e new = (n : ℕ) × (new ≡ Some (drop n left)) × (length e.left ≤ length (drop n left) + e.spare)

-- memory was wanting, or the object failed
abbrev pub Interrupts : Halt → World → World → Type 0
Interrupts (Because cause) s t = ⊥
Interrupts (Outside x) s t = HasFailed x s t
Interrupts Memory s t = Unit {0}

-- A front part of the whole report was written; or, where the work was interrupted, one of a shorter report: a front part of
-- it and the line of the halt.
abbrev pub ReportedFront : Ending → World → World → Type 0
ReportedFront e s t = WroteFront (e.reported ++ end_text e.end) s.report.bytes t.report.bytes
    ⊎ ((halt : Halt) × (n : ℕ) × Interrupts halt s t × WroteFront (take n e.reported ++ halt_text halt) s.report.bytes t.report.bytes)

-- each object is left with a front part of what the whole call does to it
pub record IsFront (files : Files) (left : List ℕ) (e : Ending) (s t : World) : Type 0 where
  pub shelf : s.shelf.files ≡ Some files → StoredFront e.stored files s t
  pub input : s.input.bytes ≡ Some left → LeftBack left e t.input.bytes
  pub out : WroteFront e.printed s.out.bytes t.out.bytes
  pub report : ReportedFront e s t

-- Where the objects that the plan asks tell what they hold, each is left so, whatever the status.
abbrev pub IsPartial : Plan → World → World → Type 0
IsPartial plan s t = (files : Files) (left : List ℕ) → IsTold plan files left s → IsFront files left (expected plan files left) s t

-- ---- where this holds

-- A turn uses the first bytes of the input, and all that it asks for and that are there, but for its spare bytes.
pub record Uses (turned : Turned) (left : List ℕ) : Type 0 where
  pub used : ℕ
  pub rest : turned.left ≡ drop used left
  pub most : length turned.left ≤ length (drop turned.asked left) + turned.spare

-- so does each turn of the plan
abbrev pub IsTaking : Plan → Type 0
IsTaking = AllTurns (λ turned left rest. Uses turned left)

-- and the one after which spare bytes may be taken is the last one that reads
abbrev pub IsOrderly : Plan → Type 0
IsOrderly = AllTurns (λ turned left rest. Uses turned left × ((turned.spare ≡ 0) ⊎ NoInput rest))
