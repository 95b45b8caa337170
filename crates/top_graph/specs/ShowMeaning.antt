-- What `show` does, in a user's words.
use Rattle.std.specs.Prelude.{◌≡◌, ◌<◌, ◌≤◌, ℕ, List, ◌++◌, length, Some}
use Rattle.flow_graph.specs.declared.error.TheConstants.{MAX_BLOCKS}
use Rattle.std.specs.Option.{option_map}
use Rattle.br_outside.specs.Files.{Files}
use Rattle.elf_read.specs.declared.exe.Exe.{Exe}
use Rattle.trace_file.specs.Edges.{Edge, union_of}
use Rattle.flow_graph.specs.Graph.{Node}
use Rattle.flow_graph.specs.GraphOf.{graph_of}
use Rattle.top_plan.specs.World.{World}
use Rattle.top_graph.specs.ShowPlan.{listing, shown_line}
use Rattle.top_files.specs.Answers.{Says, Unstored, UnlessBroken, IsPast}
use Rattle.top_files.specs.ReadMeaning.{ReadsContent}
use Rattle.top_plan.specs.declared.ends.Limit.TheVariants as limits

-- a text was printed, and a line was reported; nothing else was done
pub record HasPrinted (text line : List ℕ) (s : World) (result : ℕ) (t : World) : Type 0 where
  pub status : result ≡ 0
  pub out : t.out.bytes ≡ option_map (λ written. written ++ text) s.out.bytes
  pub report : Says line s t
  pub shelf : Unstored s t
  pub input : t.input.bytes ≡ s.input.bytes

-- the blocks of the graph were listed, unless they are too many
abbrev pub ShowsGraph : Exe → List Node → World → ℕ → World → Type 0
ShowsGraph exe g s result t = (length g ≤ MAX_BLOCKS → HasPrinted (listing exe g) (shown_line (length g)) s result t)
    × (MAX_BLOCKS < length g → IsPast (limits.Blocks MAX_BLOCKS) s result t)

-- what was listed, by the original and the sets of edges of its traces
abbrev pub ShowsSets : World → ℕ → World → Exe → List ℕ → List (List Edge) → Type 0
ShowsSets s result t exe digest sets = ShowsGraph exe (graph_of exe (union_of sets)) s result t

-- What `show` does over a shelf that tells; and over any objects it takes nothing of the input.
pub record MeansShow (original : List ℕ) (names : List (List ℕ)) (s : World) (result : ℕ) (t : World) : Type 0 where
  pub told : (files : Files) → s.shelf.files ≡ Some files
      → UnlessBroken (ReadsContent (ShowsSets s result t) names 1 (files original) files s result t) s result t
  pub input : t.input ≡ s.input
