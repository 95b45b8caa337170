-- What a command has done that reads an original and its traces, by what the work behind them has done.
use Rattle.std.specs.Prelude.{◌≡◌, ◌⊎◌, ◌<◌, ◌≤◌, ◌+◌, ℕ, List, [], ◌∷◌, ◌++◌, length, Option, Some, None, Result, Ok, Err}
use Rattle.elf_read.specs.declared.limits.TheConstants.{ORIGINAL_FILE_LIMIT}
use Rattle.trace_file.specs.declared.limits.TheConstants.{EDGE_LIMIT}
use Rattle.top_files.specs.declared.traces.TheConstants.{TRACE_FILE_LIMIT}
use Rattle.br_outside.specs.Files.{Files}
use Rattle.elf_read.specs.Elf.{elf, Refused}
use Rattle.elf_read.specs.declared.exe.Exe.{Exe}
use Rattle.elf_read.specs.declared.exe.Reach.TheVariants.{Original}
use Rattle.sha2.specs.Sha256.{sha256}
use Rattle.trace_file.specs.Edges.{Edge}
use Rattle.trace_file.specs.Trace.{trace}
use Rattle.trace_file.specs.Trace as trace_file
use Rattle.top_plan.specs.World.{World}
use Rattle.top_plan.specs.declared.ends.Limit.{Limit}
use Rattle.top_plan.specs.declared.ends.Limit.TheVariants as limits
use Rattle.top_files.specs.Answers.{IsAbsent, IsRefused, IsPast, UnlessLong}

-- By what a trace is: `next` is what its edges lead to, and `before` how many edges the traces before it have.
abbrev pub ReadsEdges : Result (List Edge) trace_file.Refused → (List Edge → Type 0) → ℕ → ℕ → World → ℕ → World → Type 0
ReadsEdges (Ok es) next word before s result t =
    (before + length es ≤ EDGE_LIMIT → next es) × (EDGE_LIMIT < before + length es → IsPast (limits.Edges EDGE_LIMIT) s result t)
ReadsEdges (Err refused) next word before s result t = IsRefused word refused.number refused.place s result t

-- by the content of a trace
abbrev pub ReadsTrace : Option (List ℕ) → (List Edge → Type 0) → List ℕ → ℕ → ℕ → World → ℕ → World → Type 0
ReadsTrace None next digest word before s result t = IsAbsent s result t
ReadsTrace (Some content) next digest word before s result t =
    UnlessLong TRACE_FILE_LIMIT content (ReadsEdges (trace content digest) next word before s result t) s result t

-- By the contents of the names that are left, whose traces have `before` edges together so far. With the edges of all it goes
-- on as `last` says.
abbrev pub ReadsTraces : (List (List Edge) → Type 0)
    → List ℕ → List (List ℕ) → ℕ → ℕ → List (List Edge) → Files → World → ℕ → World → Type 0
ReadsTraces last digest [] word before done files s result t = last done
ReadsTraces last digest (name ∷ names) word before done files s result t =
    ReadsTrace (files name)
    (λ es. ReadsTraces last digest names (word + 1) (before + length es) (done ++ es ∷ []) files s result t)
    digest word before s result t

-- by what the file is as an original, whose word stands before those of its traces
abbrev pub ReadsExe : (Exe → List ℕ → List (List Edge) → Type 0)
    → List (List ℕ) → ℕ → List ℕ → Result Exe Refused → Files → World → ℕ → World → Type 0
ReadsExe last names word content (Ok exe) files s result t =
    ReadsTraces (last exe (sha256 content)) (sha256 content) names (word + 1) 0 [] files s result t
ReadsExe last names word content (Err refused) files s result t = IsRefused word refused.number refused.place s result t

-- by the content of the original
abbrev pub ReadsContent : (Exe → List ℕ → List (List Edge) → Type 0)
    → List (List ℕ) → ℕ → Option (List ℕ) → Files → World → ℕ → World → Type 0
ReadsContent last names word None files s result t = IsAbsent s result t
ReadsContent last names word (Some content) files s result t =
    UnlessLong ORIGINAL_FILE_LIMIT content (ReadsExe last names word content (elf Original content) files s result t) s result t

-- ---- the same in single facts

-- a name holds a trace of the original with this digest, with these edges, which with those before it are not too many
pub record IsAccepted (files : Files) (digest name : List ℕ) (before : ℕ) (es : List Edge) : Type 0 where
  pub content : List ℕ
  pub there : files name ≡ Some content
  pub short : length content ≤ TRACE_FILE_LIMIT
  pub accepted : trace content digest ≡ Ok es
  pub few : before + length es ≤ EDGE_LIMIT

-- so does each of these names, one after another
abbrev pub AreAccepted : Files → List ℕ → List (List ℕ) → ℕ → List (List Edge) → Type 0
AreAccepted files digest [] before [] = Unit {0}
AreAccepted files digest (name ∷ names) before (es ∷ sets) =
    IsAccepted files digest name before es × AreAccepted files digest names (before + length es) sets
AreAccepted files digest _ before _ = ⊥

-- An original and its traces are accepted: the executable, and the edges of each trace.
pub record AreGiven (original : List ℕ) (names : List (List ℕ)) (files : Files) (exe : Exe) (sets : List (List Edge)) : Type 0 where
  pub content : List ℕ
  pub there : files original ≡ Some content
  pub short : length content ≤ ORIGINAL_FILE_LIMIT
  pub accepted : elf Original content ≡ Ok exe
  pub traces : AreAccepted files (sha256 content) names 0 sets

-- one of the names is nowhere
abbrev pub IsOneAbsent : List (List ℕ) → Files → Type 0
IsOneAbsent [] files = ⊥
IsOneAbsent (name ∷ names) files = (files name ≡ None) ⊎ IsOneAbsent names files

-- a limit on what is read
abbrev pub IsReadLimit : Limit → Type 0
IsReadLimit limit =
    (limit ≡ limits.File ORIGINAL_FILE_LIMIT) ⊎ ((limit ≡ limits.File TRACE_FILE_LIMIT) ⊎ (limit ≡ limits.Edges EDGE_LIMIT))
