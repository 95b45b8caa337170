-- What the answers of `build` mean, in a user's words.
use Rattle.std.specs.Prelude.{◌≡◌, ◌⊎◌, ◌+◌, ◌≤◌, ℕ, List, ◌∷◌, length, Some, IfSome, Ok, IsTrue}
use Rattle.elf_read.specs.declared.exe.Exe.{Exe}
use Rattle.elf_read.specs.declared.exe.Reach.TheVariants.{Guest}
use Rattle.elf_read.specs.Elf.{elf}
use Rattle.br_outside.specs.Files.{Files, put}
use Rattle.trace_file.specs.Edges.{Edge, union_of}
use Rattle.flow_graph.specs.declared.error.TheConstants.{MAX_BLOCKS}
use Rattle.flow_graph.specs.GraphOf.{graph_of}
use Rattle.sim_laws.specs.Preserves.{Preserves}
use Rattle.sim_laws.specs.Covers.{Covers}
use Rattle.code_layout.specs.declared.place.TheConstants.{MAX_CODE}
use Rattle.code_layout.specs.Linked.{code_of}
use Rattle.code_layout.specs.Image.{image, built_of, HasTooManyBlocks, IsTooLong}
use Rattle.build_core.specs.ImageQuick.{KeepsPace}
use Rattle.top_plan.specs.World.{World}
use Rattle.top_plan.specs.Texts.{cause_text, object_text}
use Rattle.top_plan.specs.Expected.{HasFailed}
use Rattle.top_plan.specs.declared.ends.Cause.TheVariants.{RefusedWord, Limited}
use Rattle.top_plan.specs.declared.ends.Object.TheVariants as objects
use Rattle.top_plan.specs.declared.ends.Limit.{Limit}
use Rattle.top_plan.specs.declared.ends.Limit.TheVariants as limits
use Rattle.top_files.specs.Answers.{Says, Unstored, OnlyUnder, HasStored, UnlessBroken, IsPast}
use Rattle.top_files.specs.ReadMeaning.{ReadsContent, AreGiven, IsOneAbsent, IsReadLimit}
use Rattle.top_build.specs.BuildPlan.{built_line}

-- The content of the original is accepted, as a guest it is the same executable, and its traces are accepted; the image with all
-- their edges is within its limits and stored under the name, and all other names are as before. It preserves the behaviour, runs no
-- original instruction while a run keeps to these edges, and keeps pace.
pub record IsStored (name original : List ℕ) (traces : List (List ℕ)) (files : Files) (t : World) : Type 0 where
  pub exe : Exe
  pub sets : List (List Edge)
  pub given : AreGiven original traces files exe sets
  pub guest : elf Guest given.content ≡ Ok exe
  pub few : length (graph_of exe (union_of sets)) ≤ MAX_BLOCKS
  pub short : length (code_of exe (union_of sets)) ≤ MAX_CODE
  pub stored : t.shelf.files ≡ Some (put name (Some (image exe (union_of sets))) files)
  pub preserved : Preserves given.content (image exe (union_of sets))
  pub covered : Covers given.content (image exe (union_of sets)) (union_of sets)
  pub pace : KeepsPace given.content exe (union_of sets)

-- the same, where the shelf tells its files
abbrev pub Stores : List ℕ → List ℕ → List (List ℕ) → World → World → Type 0
Stores name original traces s t = (files : Files) → s.shelf.files ≡ Some files → IsStored name original traces files t

-- the image of an executable and edges is stored and reported, unless it has too many blocks, or else too much code
pub record BuildsImage (name : List ℕ) (exe : Exe) (edges : List Edge) (files : Files) (s : World) (result : ℕ) (t : World) : Type 0 where
  pub many : HasTooManyBlocks exe edges → IsPast (limits.Blocks MAX_BLOCKS) s result t
  pub long : length (graph_of exe edges) ≤ MAX_BLOCKS → IsTooLong exe edges → IsPast (limits.Code MAX_CODE) s result t
  pub built : length (graph_of exe edges) ≤ MAX_BLOCKS → length (code_of exe edges) ≤ MAX_CODE
      → HasStored name (image exe edges) (built_line (built_of exe edges)) files s result t

-- what was built, by the original and the sets of edges of its traces
abbrev pub BuildsSets : List ℕ → Files → World → ℕ → World → Exe → List ℕ → List (List Edge) → Type 0
BuildsSets name files s result t exe digest sets = BuildsImage name exe (union_of sets) files s result t

-- a limit that `build` has
abbrev pub IsBuildLimit : Limit → Type 0
IsBuildLimit limit = IsReadLimit limit ⊎ ((limit ≡ limits.Blocks MAX_BLOCKS) ⊎ (limit ≡ limits.Code MAX_CODE))

-- a refusal of a word that names a file to read
pub record IsRefusal (traces : List (List ℕ)) (s t : World) : Type 0 where
  pub word : ℕ
  pub number : ℕ
  pub place : ℕ
  pub first : 2 ≤ word
  pub last : word ≤ 2 + length traces
  pub line : Says (cause_text (RefusedWord word number place)) s t

-- What each status of `build N E T..` means. Over a shelf that tells, `told` decides by the contents which it is, and each line: E comes
-- first, then the traces in their order, then the blocks, then the code.
pub record MeansBuild (name original : List ℕ) (traces : List (List ℕ)) (s : World) (result : ℕ) (t : World) : Type 0 where
  pub told : (files : Files) → s.shelf.files ≡ Some files
      → UnlessBroken (ReadsContent (BuildsSets name files s result t) traces 2 (files original) files s result t) s result t
  pub done : result ≡ 0 → (files : Files) → s.shelf.files ≡ Some files
      → (stored : IsStored name original traces files t) × Says (built_line (built_of stored.exe (union_of stored.sets))) s t
  pub usage : result ≡ 1 → ⊥
  pub refused : result ≡ 2 → Unstored s t × IsRefusal traces s t
  pub outside : result ≡ 3 → HasFailed objects.Report s t ⊎ Says (object_text objects.Shelf) s t
  pub absent : result ≡ 3 → IsTrue s.shelf.calm
      → HasFailed objects.Report s t ⊎ (Unstored s t × IfSome s.shelf.files (IsOneAbsent (original ∷ traces)))
  pub memory : result ≡ 4 → Unstored s t ⊎ (HasFailed objects.Shelf s t ⊎ Stores name original traces s t)
  pub limit : result ≡ 7 → Unstored s t × (limit : Limit) × IsBuildLimit limit × Says (cause_text (Limited limit)) s t
  pub no_guest : (result ≡ 5) ⊎ (result ≡ 6) → ⊥
  pub others : OnlyUnder name s t
  pub input : t.input ≡ s.input
  pub out : t.out ≡ s.out
