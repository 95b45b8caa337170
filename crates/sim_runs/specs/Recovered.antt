-- The plan of an executable and edges: the graph's blocks, their lines, and where their fragments stand.
use Rattle.std.specs.Prelude.{ℕ, Bool, true, false, ◌&&◌, List, [], ◌∷◌, length}
use Rattle.br_word.specs.Memory.{Region}
use Rattle.elf_read.specs.declared.exe.Exe.{Exe}
use Rattle.ia_inst.specs.declared.inst.Inst.{Inst}
use Rattle.ia_inst.specs.declared.inst.Inst.TheVariants.{Nop}
use Rattle.block_cut.specs.declared.ends.End.{End}
use Rattle.block_cut.specs.declared.ends.End.TheVariants.{Island}
use Rattle.block_cut.specs.Places.{Placed}
use Rattle.block_cut.specs.Transfers.{is_among}
use Rattle.block_cut.specs.Blocks.{size_of, block_of}
use Rattle.block_cut.specs.CountedEdges.{counting}
use Rattle.run_model.specs.Edges.{Edge}
use Rattle.flow_graph.specs.Graph.{known_of, starts_in}
use Rattle.flow_graph.specs.GraphOf.{graph_of}
use Rattle.lift_flow.specs.LiftedBlock.{lift_of}
use Rattle.par_moves.specs.declared.locations.Place.{Place}
use Rattle.ssa_form.specs.Value.{outs_of, exit_of}
use Rattle.ssa_form.specs.Same.{end_env}
use Rattle.sim_runs.specs.Relation.{Plan}

-- the recovered code: where virtual registers are kept, what is live at each start, where the fragment of a
-- start stands, and in it the own bytes of a native instruction; which starts have a copy of the original's
-- instructions, how many and where, and where a block goes for an exit that is not known
pub record Coded : Type 0 where
  pub code : Region
  pub home : ℕ → Place
  pub live : ℕ → ℕ → Bool
  pub address : ℕ → ℕ
  pub native : ℕ → ℕ
  pub cold : ℕ → Bool
  pub copied : ℕ → ℕ
  pub original : ℕ → ℕ → ℕ
  pub copy : ℕ → ℕ → ℕ
  pub beyond : ℕ → ℕ → ℕ

-- a block that is a native instruction
abbrev pub is_island_end : End → Bool
is_island_end Island = true
is_island_end _ = false

-- the instruction of a native block
abbrev pub first_inst : List Placed → Inst
first_inst [] = Nop
first_inst (p ∷ ps) = p.inst

-- a block of the graph starts here
abbrev pub is_start_of : Exe → List Edge → ℕ → Bool
is_start_of exe edges x = is_among (starts_in (graph_of exe edges)) x

-- y is a known exit of the block of x
abbrev pub knows_of : Exe → List Edge → ℕ → ℕ → Bool
knows_of exe edges x y = is_among (known_of exe (counting exe edges) x) y

-- the plan of an executable, edges and their recovered code
abbrev pub plan_of : Exe → List Edge → Coded → Plan
plan_of exe edges c = record {
  code = c.code;
  home = c.home;
  is_start = is_start_of exe edges;
  is_island = λ x. is_start_of exe edges x && is_island_end (block_of exe x).end;
  knows = knows_of exe edges;
  live = c.live;
  address = c.address;
  count = λ x. length (block_of exe x).insts;
  outs = λ x p m. outs_of (lift_of exe x).outs (end_env (lift_of exe x) p m);
  memory = λ x p m. (end_env (lift_of exe x) p m).mem;
  exit = λ x p m. exit_of (lift_of exe x).exit (end_env (lift_of exe x) p m);
  inst = λ x. first_inst (block_of exe x).insts;
  len = λ x. size_of (block_of exe x).insts;
  native = c.native;
  cold = c.cold;
  copied = c.copied;
  original = c.original;
  copy = c.copy;
  beyond = c.beyond;
}
