-- The known exits of a block, and how runs leave it by them.
use Rattle.std.specs.Prelude.{◌≡◌, ℕ, ◌≢◌, ◌⊎◌, List, [], length, Contains, IsTrue}
use Rattle.br_word.specs.State.{State, Running}
use Rattle.elf_read.specs.declared.exe.Exe.{Exe}
use Rattle.elf_read.specs.Elf.{IsGuest, is_exec}
use Rattle.ia_inst.specs.Step.{step, IsWellDefined}
use Rattle.block_cut.specs.declared.ends.End.TheVariants.{Transfer, Island}
use Rattle.block_cut.specs.Blocks.{last_of, block_of}
use Rattle.block_cut.specs.CountedEdges.{counting}
use Rattle.flow_graph.specs.Graph.{known_of}
use Rattle.run_model.specs.Edges.{Edge, edge_of, edges_from}
use Rattle.run_model.specs.Run.{run, WellDefined}
use Rattle.sim_laws.specs.Covers.{AllIn}
use Rattle.sim_laws.specs.InCode.{IsStateOf}
use Rattle.sim_laws.specs.Through.{Comes}

-- the address to which a block's transfer led is a known exit, where it is code and its edge was recorded
abbrev pub LeadsToKnown : Type 0
LeadsToKnown = (exe : Exe) (es : List Edge) (start target : ℕ) (s : State) (c : ℕ)
    → IsStateOf exe s → (block_of exe start).end ≡ Transfer → last_of start (block_of exe start).insts ≡ s.eip
    → Contains (edge_of s.stop s c) (s.eip, target) → IsTrue (is_exec target exe.segments)
    → Contains es (s.eip, target) → Contains (known_of exe (counting exe es) start) target

-- where each edge was recorded, and the run goes on, a block is left by a known exit
abbrev pub LeavesByKnown : Type 0
LeavesByKnown = (exe : Exe) (es : List Edge) (s : State)
    → IsGuest exe → IsStateOf exe s → s.stop ≡ Running → (block_of exe s.eip).end ≢ Island
    → let n = length (block_of exe s.eip).insts in let t = run n s [] in
    WellDefined n s → IsWellDefined t → AllIn es (edges_from n s)
    → Comes exe s t × Contains (known_of exe (counting exe es) s.eip) t.eip

-- after a step of a native block that goes on, it stands there again, or was left by its known exit
abbrev pub LeavesNative : Type 0
LeavesNative = (exe : Exe) (es : List Edge) (s : State)
    → IsGuest exe → IsStateOf exe s → s.stop ≡ Running → (block_of exe s.eip).end ≡ Island
    → let t = step s 0 in IsWellDefined s → t.stop ≡ Running → IsWellDefined t
    → (t.eip ≡ s.eip) ⊎ Contains (known_of exe es s.eip) t.eip
