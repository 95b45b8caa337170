-- Edges of runs, and the edges that count.
use Rattle.std.specs.Prelude.{◌≡◌, ℕ, List, All, Ok, IsTrue}
use Rattle.br_word.specs.State.{State}
use Rattle.elf_read.specs.declared.exe.Exe.{Exe}
use Rattle.elf_read.specs.declared.exe.Reach.TheVariants.{Guest}
use Rattle.elf_read.specs.Elf.{is_exec, elf}
use Rattle.block_cut.specs.CountedEdges.{counts}
use Rattle.run_model.specs.Edges.{Edge, edge_of, edges_of}
use Rattle.run_model.specs.Run.{AreOfBytes}
use Rattle.sim_laws.specs.InCode.{IsStateOf}

-- each edge to code counts
abbrev pub AllCount : Exe → List Edge → Type 0
AllCount exe es = All (λ e. IsTrue (is_exec e.1 exe.segments) → IsTrue (counts exe e)) es

-- the edge of a step, whatever bits undefined flags take
abbrev pub EdgeCounts : Type 0
EdgeCounts = (exe : Exe) (s : State) (c : ℕ) → IsStateOf exe s → AllCount exe (edge_of s.stop s c)

-- the edges that a run gives, and the pair that says that it began
abbrev pub EdgesCount : Type 0
EdgesCount = (file : List ℕ) (exe : Exe) (words : List (List ℕ)) (input : List ℕ) (n : ℕ)
    → elf Guest file ≡ Ok exe → AreOfBytes file words input → AllCount exe (edges_of file words input n)
