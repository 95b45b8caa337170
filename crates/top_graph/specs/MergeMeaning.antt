-- What `merge` does, in a user's words.
use Rattle.std.specs.Prelude.{◌≡◌, ◌<◌, ◌≤◌, ℕ, List, length, Some}
use Rattle.trace_file.specs.declared.limits.TheConstants.{FILE_EDGE_LIMIT}
use Rattle.br_outside.specs.Files.{Files}
use Rattle.elf_read.specs.declared.exe.Exe.{Exe}
use Rattle.trace_file.specs.Edges.{Edge, union_of}
use Rattle.trace_file.specs.Trace.{trace_bytes}
use Rattle.top_plan.specs.World.{World}
use Rattle.top_graph.specs.MergePlan.{merged_line}
use Rattle.top_files.specs.Answers.{HasStored, UnlessBroken, IsPast}
use Rattle.top_files.specs.ReadMeaning.{ReadsContent}
use Rattle.top_plan.specs.declared.ends.Limit.TheVariants as limits

-- of the original with this digest the edges were stored, unless they are too many
abbrev pub MergesUnion : List ℕ → List ℕ → List Edge → Files → World → ℕ → World → Type 0
MergesUnion target digest es files s result t =
    (length es ≤ FILE_EDGE_LIMIT → HasStored target (trace_bytes es digest) (merged_line (length es)) files s result t)
    × (FILE_EDGE_LIMIT < length es → IsPast (limits.Union FILE_EDGE_LIMIT) s result t)

-- what was merged, by the original and the sets of edges of its traces
abbrev pub MergesSets : List ℕ → Files → World → ℕ → World → Exe → List ℕ → List (List Edge) → Type 0
MergesSets target files s result t exe digest sets = MergesUnion target digest (union_of sets) files s result t

-- What `merge` does over a shelf that tells; and over any objects it takes nothing of the input.
pub record MeansMerge (target original : List ℕ) (names : List (List ℕ)) (s : World) (result : ℕ) (t : World) : Type 0 where
  pub told : (files : Files) → s.shelf.files ≡ Some files
      → UnlessBroken (ReadsContent (MergesSets target files s result t) names 2 (files original) files s result t) s result t
  pub input : t.input ≡ s.input
