-- What the parts of a recovered file promise: all that the simulation assumes.
use Rattle.std.specs.Prelude.{◌≡◌, ℕ, ◌+◌, ◌<◌, ◌≤◌, Bool, true, false, not, ◌&&◌, ◌||◌, List, [], ◌∷◌, length, Contains, Ok, ◌⊎◌}
use Rattle.br_word.specs.Memory.{Region, HoldBytes}
use Rattle.br_word.specs.State.{State, Running}
use Rattle.elf_read.specs.declared.exe.Segment.{Segment}
use Rattle.elf_read.specs.declared.exe.Exe.{Exe}
use Rattle.elf_read.specs.declared.exe.Reach.TheVariants.{Guest}
use Rattle.elf_read.specs.Elf.{elf}
use Rattle.elf_read.specs.Regions.{region_of}
use Rattle.ia_inst.specs.Meaning.{wrap}
use Rattle.ia_inst.specs.Step.{There, found, IsWellDefined}
use Rattle.run_model.specs.Edges.{Edge}
use Rattle.block_cut.specs.declared.ends.End.TheVariants.{Transfer}
use Rattle.block_cut.specs.Blocks.{last_of, block_of}
use Rattle.block_cut.specs.CountedEdges.{counting}
use Rattle.flow_graph.specs.Graph.{known_of}
use Rattle.sim_laws.specs.InCode.{IsStateOf}
use Rattle.sim_laws.specs.Wider.{AllHigh, IsHigh}
use Rattle.ssa_form.specs.declared.form.Exit.{Exit}
use Rattle.ssa_form.specs.declared.form.Exit.TheVariants.{Jump, Cond, Way, Island}
use Rattle.ssa_form.specs.Agree.{AreBits}
use Rattle.ssa_form.specs.Value.{outs_of}
use Rattle.ssa_form.specs.Same.{AreSmall, end_env, IsAllowedAt}
use Rattle.lift_flow.specs.LiftedBlock.{lift_of}
use Rattle.code_laws.specs.Seen.{Cells, private_region, Sees}
use Rattle.sim_runs.specs.Coding.{Coding, Exits, Serves}
use Rattle.sim_runs.specs.Relation.{Plan, at_home, aside}
use Rattle.sim_runs.specs.Laws.{Leads, Arrives, Leaves, Opens, Captured, past, CopyLaws}
use Rattle.sim_runs.specs.Image.{Capturable}
use Rattle.sim_runs.specs.Recovered.{Coded, is_island_end, is_start_of, knows_of, plan_of}

-- a state of an original's run: sound, with the code of its executable, and all memory at or above 0x08000000
pub record IsOf (exe : Exe) (s : State) : Type 0 where
  pub state : IsStateOf exe s
  pub high : IsHigh 0x08000000 s

-- ---- fragments

-- live at one of these starts
abbrev pub is_live_at : (ℕ → ℕ → Bool) → List ℕ → ℕ → Bool
is_live_at live [] v = false
is_live_at live (y ∷ ys) v = live y v || is_live_at live ys v

-- some way out may not be known; an indirect one is never sure to be
abbrev pub is_unknown : (ℕ → Bool) → Exit → Bool
is_unknown knows (Jump to) = not (knows to)
is_unknown knows (Cond t taken next) = not (knows taken && knows next)
is_unknown knows (Way v) = true
is_unknown knows (Island len) = false

-- the exits of a block: what is live at a known one, and whether a way out is not known
abbrev pub exits_of : Exe → List Edge → Coded → ℕ → Exits
exits_of exe edges c x = record {
  live = is_live_at c.live (known_of exe (counting exe edges) x);
  unknown = is_unknown (knows_of exe edges x) (lift_of exe x).exit;
}

-- the coding of a block serves it
abbrev pub ServesAt : Exe → List Edge → Coded → ℕ → Coding → Type 0
ServesAt exe edges c x k = Serves c.home (c.live x) (lift_of exe x) (exits_of exe edges c x) k

-- a fragment is to be run: t stands at it and is seen as a, whose live homes hold p, and the block's lines
-- are allowed from p
pub record Runs (exe : Exe) (c : Coded) (x : ℕ) (p : ℕ → ℕ) (t : State) (a : Cells) : Type 0 where
  pub sees : Sees c.code t a
  pub eip : t.eip ≡ c.address x
  pub bytes : HoldBytes a.outer
  pub high : AllHigh 0x08000000 a.outer
  pub homes : (v : ℕ) → c.live x v ≡ true → a.cell (c.home v) ≡ p v
  pub home_bits : AreBits (λ v. a.cell (c.home v))
  pub bits : AreBits p
  pub small : AreSmall p
  pub allowed : IsAllowedAt (lift_of exe x) p a.outer
  pub out_bits : AreBits (outs_of (lift_of exe x).outs (end_env (lift_of exe x) p a.outer))
  pub out_small : AreSmall (outs_of (lift_of exe x).outs (end_env (lift_of exe x) p a.outer))

-- a coding that serves its block runs: from live homes to a known exit with the homes that are live there, or to the
-- original with all registers in place
abbrev pub FragmentRuns : Exe → List Edge → Coded → (ℕ → Coding) → ℕ → Type 0
FragmentRuns exe edges c coding high = (x : ℕ) (p : ℕ → ℕ) (t : State) (a : Cells) (cs : List ℕ)
    → is_start_of exe edges x ≡ true → is_island_end (block_of exe x).end ≡ false
    → ServesAt exe edges c x (coding x) → Runs exe c x p t a
    → Leads (λ u. Arrives (plan_of exe edges c) x p a u ⊎ Leaves (plan_of exe edges c) x p a u) high t cs

-- the exchange of state: into a native instruction, out of it, and at the entry, which jumps to a copy or the
-- original where no run began
pub record Exchanges (exe : Exe) (plan : Plan) (opening closing top : ℕ) : Type 0 where
  pub opens : (x : ℕ) (t : State) (a : Cells) (cs : List ℕ) → plan.is_island x ≡ true
      → Sees plan.code t a → t.eip ≡ plan.address x → AreBits (at_home plan a) → Leads (Opens plan x a) opening t cs
  pub closes : (x : ℕ) (t : State) (outer : List Region) (cs : List ℕ)
      → plan.is_island x ≡ true → plan.knows x (past plan x) ≡ true
      → Capturable plan outer t → t.eip ≡ wrap (plan.native x + plan.len x)
      → Leads (Captured plan (past plan x) outer t) closing t cs
  pub enters : (t : State) (outer : List Region) (cs : List ℕ) → plan.is_start exe.entry ≡ true
      → Capturable plan outer t → t.eip ≡ 0x01000000 → Leads (Captured plan exe.entry outer t) top t cs
  pub passes : (t : State) (outer : List Region) (cs : List ℕ) → plan.is_start exe.entry ≡ false
      → Capturable plan outer t → t.eip ≡ 0x01000000 → Leads (λ u. u ≡ record t { eip = aside plan exe.entry }) top t cs

-- ---- the file

-- the private segment, zeros as a run begins
abbrev pub own_segment : Segment
own_segment = record {
  start = 0x07000000;
  size = 65536;
  perms = record { read = true; write = true; exec = false };
  bytes = [];
}

-- the executable that the file is read as: the code, the private segment, and the original's segments
abbrev pub laid_exe : Exe → Segment → Exe
laid_exe exe segment = record { entry = 0x01000000; segments = segment ∷ own_segment ∷ exe.segments; brk_start = exe.brk_start }

-- it is read so, and the own bytes of a native instruction stand where they are said to
pub record IsLaid (exe : Exe) (plan : Plan) (file : List ℕ) : Type 0 where
  pub segment : Segment
  pub accepted : elf Guest file ≡ Ok (laid_exe exe segment)
  pub code : region_of segment ≡ plan.code
  pub low : plan.code.start + length plan.code.bytes ≤ 0x07000000
  pub copied : (x : ℕ) (own : List ℕ) (rs : List Region) → plan.is_island x ≡ true
      → found (plan.native x) (plan.code ∷ private_region own ∷ rs) ≡ There (plan.inst x) (plan.len x)
  pub inside : (x : ℕ) → plan.is_island x ≡ true → plan.native x + plan.len x < 0x07000000
  pub live : (x v : ℕ) → v < 14 → plan.is_island x ≡ true → plan.live x v ≡ true

-- the edges that count besides the recorded ones: each leads to a start or a copy, and none of a block leads where
-- the block leaves the code, but to where nothing runs
pub record Further (exe : Exe) (further : List Edge) (plan : Plan) : Type 0 where
  pub met : (e : Edge) → Contains further e → (plan.is_start e.1 ≡ true) ⊎ (plan.cold e.1 ≡ true)
  pub apart : (x y : ℕ) → plan.is_start x ≡ true → (block_of exe x).end ≡ Transfer → plan.knows x y ≡ false
      → plan.beyond x y ≡ y → Contains further (last_of x (block_of exe x).insts, y)
      → (s : State) → IsOf exe s → s.stop ≡ Running → s.eip ≡ y → IsWellDefined s → ⊥

-- all of it, with the bounds on steps: of a fragment, of a step from a copy or the way to one, of the exchanges round
-- a native instruction, and at the entry
pub record Laws (exe : Exe) (edges further : List Edge) (file : List ℕ) (c : Coded) : Type 0 where
  pub plain : ℕ
  pub turn : ℕ
  pub opening : ℕ
  pub closing : ℕ
  pub top : ℕ
  pub coding : ℕ → Coding
  pub serves : (x : ℕ) → is_start_of exe edges x ≡ true → is_island_end (block_of exe x).end ≡ false
      → ServesAt exe edges c x (coding x)
  pub fragment : FragmentRuns exe edges c coding plain
  pub exchange : Exchanges exe (plan_of exe edges c) opening closing top
  pub copies : CopyLaws (plan_of exe edges c) (IsOf exe) turn
  pub met : Further exe further (plan_of exe edges c)
  pub laid : IsLaid exe (plan_of exe edges c) file
  pub high : ℕ
  pub plain_bound : plain + turn ≤ high
  pub island_bound : opening + (1 + closing) ≤ high
  pub high_bound : high ≤ length file
  pub top_bound : top ≤ length file
