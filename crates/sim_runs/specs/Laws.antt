-- What the parts below give to the simulation: what a block means, and what its fragment does.
use Rattle.std.specs.Prelude.{◌≡◌, ℕ, ◌+◌, ◌^◌, ◌<◌, ◌≤◌, Bool, true, false, List, [], ◌∷◌, length, get_or, ◌⊎◌}
use Rattle.br_word.specs.Memory.{Region}
use Rattle.br_word.specs.Words.{bit}
use Rattle.br_word.specs.State.{State, Running, Flag, flag_of}
use Rattle.run_model.specs.Run.{observed, run}
use Rattle.ia_inst.specs.declared.inst.Inst.{Inst}
use Rattle.ia_inst.specs.declared.inst.Kind.TheVariants as kinds
use Rattle.ia_inst.specs.Kinds.{kind_of}
use Rattle.block_cut.specs.Transfers.{is_indirect}
use Rattle.ia_inst.specs.Act.{Past, Again}
use Rattle.ia_inst.specs.Meaning.{wrap, meaning}
use Rattle.ia_inst.specs.Step.{step, IsWellDefined, found, There}
use Rattle.sim_laws.specs.Wider.{IsHigh}
use Rattle.ssa_form.specs.Agree.{number, AgreesOn, AreBits, every}
use Rattle.code_laws.specs.Seen.{Cells, private_region, Sees}
use Rattle.sim_runs.specs.Forward.{AllGood}
use Rattle.sim_runs.specs.Native.{AllEnds}
use Rattle.sim_runs.specs.Passes.{Gets}
use Rattle.sim_runs.specs.Relation.{Plan, at_home, AtBlock, Ready, IsBeside, InPlace, InCopy, IsOver}

-- within so many steps, in recovered code and with nothing new shown, to a state of P
pub record Leads (P : State → Type 0) (high : ℕ) (t : State) (cs : List ℕ) : Type 0 where
  pub steps : ℕ
  pub going : 0 < steps
  pub bound : steps ≤ high
  pub shows : (i : ℕ) → i ≤ steps → observed (run i t cs) ≡ observed t
  pub inside : (i : ℕ) → i < steps → (run i t cs).eip < 0x07000000
  pub there : P (run steps t cs)

-- what stays through a run of recovered code
pub record Stays (a b : Cells) : Type 0 where
  pub shows : b.seen ≡ a.seen
  pub brk_start : b.brk_start ≡ a.brk_start
  pub brk : b.brk ≡ a.brk

-- at this address the processor holds these numbers as its own, beside the private segment; what is seen and
-- allocated is as in a
pub record Restored (plan : Plan) (at : ℕ) (g : ℕ → ℕ) (outer : List Region) (a : Cells) (t : State) : Type 0 where
  pub own : List ℕ
  pub size : length own ≡ 65536
  pub mem : t.regions ≡ plan.code ∷ private_region own ∷ outer
  pub count : length t.cpu.regs ≡ 8
  pub regs : (r : ℕ) → r < 8 → get_or t.cpu.regs r 0 ≡ g r
  pub flags : (f : Flag) → bit (flag_of f t.cpu.flags) ≡ g (number f)
  pub df : bit t.cpu.df ≡ g 13
  pub eip : t.eip ≡ at
  pub shows : observed t ≡ a.seen
  pub brk_start : t.brk_start ≡ a.brk_start
  pub brk : t.brk ≡ a.brk

-- what a block's lines give of its steps
pub record Lifted (plan : Plan) (x : ℕ) (p : ℕ → ℕ) (s : State) : Type 0 where
  pub agrees : AgreesOn every (run (plan.count x) s []).cpu (plan.outs x p s.regions)
  pub memory : (run (plan.count x) s []).regions ≡ plan.memory x p s.regions
  pub eip : (run (plan.count x) s []).eip ≡ plan.exit x p s.regions
  pub brk_start : (run (plan.count x) s []).brk_start ≡ s.brk_start
  pub brk : (run (plan.count x) s []).brk ≡ s.brk

-- the fragment of a block has come to the fragment of a known exit
pub record Arrives (plan : Plan) (x : ℕ) (p : ℕ → ℕ) (a : Cells) (t : State) : Type 0 where
  pub known : plan.knows x (plan.exit x p a.outer) ≡ true
  pub cells : Cells
  pub sees : Sees plan.code t cells
  pub there : t.eip ≡ plan.address (plan.exit x p a.outer)
  pub outer : cells.outer ≡ plan.memory x p a.outer
  pub homes : (v : ℕ) → v < 14 → plan.live (plan.exit x p a.outer) v ≡ true → at_home plan cells v ≡ plan.outs x p a.outer v
  pub bits : AreBits (at_home plan cells)
  pub stays : Stays a cells

-- or with all registers in place to the original, or to the place of the code from which it goes on
pub record Leaves (plan : Plan) (x : ℕ) (p : ℕ → ℕ) (a : Cells) (t : State) : Type 0 where
  pub unknown : plan.knows x (plan.exit x p a.outer) ≡ false
  pub restored : Restored plan (plan.beyond x (plan.exit x p a.outer)) (plan.outs x p a.outer) (plan.memory x p a.outer) a t
  pub ready : (plan.beyond x (plan.exit x p a.outer) ≡ plan.exit x p a.outer → ⊥) → Ready restored.own t.cpu.df

-- the own bytes of a native instruction are next
pub record Opens (plan : Plan) (x : ℕ) (a : Cells) (t : State) : Type 0 where
  pub restored : Restored plan (plan.native x) (at_home plan a) a.outer a t
  pub ready : Ready restored.own t.cpu.df

-- u is at the fragment of a start, and its homes hold the registers and flags of t
pub record Captured (plan : Plan) (y : ℕ) (outer : List Region) (t u : State) : Type 0 where
  pub cells : Cells
  pub sees : Sees plan.code u cells
  pub there : u.eip ≡ plan.address y
  pub outer_is : cells.outer ≡ outer
  pub regs : (r : ℕ) → r < 8 → at_home plan cells r ≡ get_or t.cpu.regs r 0
  pub flags : (f : Flag) → at_home plan cells (number f) ≡ bit (flag_of f t.cpu.flags)
  pub df : at_home plan cells 13 ≡ bit t.cpu.df
  pub shows : cells.seen ≡ observed t
  pub brk_start : cells.brk_start ≡ t.brk_start
  pub brk : cells.brk ≡ t.brk

-- the address behind a native instruction of the original
abbrev pub past : Plan → ℕ → ℕ
past plan x = wrap (x + plan.len x)

-- what the states of the original's run are and stay
pub record Original (Static : State → Type 0) : Type 0 where
  pub on : (s : State) → Static s → IsWellDefined s → Static (step s 0)
  pub high : (s : State) → Static s → IsHigh 0x08000000 s
  pub eight : (s : State) → Static s → length s.cpu.regs ≡ 8
  pub small : (s : State) → Static s → (r : ℕ) → r < 8 → get_or s.cpu.regs r 0 < 2 ^ 32

-- the file's code, and the starts of its fragments
pub record Laid (plan : Plan) : Type 0 where
  pub low : plan.code.start + length plan.code.bytes ≤ 0x07000000
  pub known_start : (x y : ℕ) → plan.is_start x ≡ true → plan.knows x y ≡ true → plan.is_start y ≡ true
  pub island_live : (x v : ℕ) → v < 14 → plan.is_island x ≡ true → plan.live x v ≡ true

-- the original stands at the start of a block that is not native
pub record Starts (plan : Plan) (Static : State → Type 0) (x : ℕ) (s : State) : Type 0 where
  pub start : plan.is_start x ≡ true
  pub plain : plan.is_island x ≡ false
  pub static : Static s
  pub goes : s.stop ≡ Running
  pub eip : s.eip ≡ x

-- a block that is not native: how long it is, what is seen of it, what its lines give, and what its fragment does
pub record PlainLaws (plan : Plan) (Static : State → Type 0) (high : ℕ) : Type 0 where
  pub few : (x : ℕ) → plan.count x ≤ 64
  pub empty : (x : ℕ) (s : State) → Starts plan Static x s → plan.count x ≡ 0 → IsWellDefined s → ⊥
  pub steady : (x j : ℕ) (s : State) → Starts plan Static x s → j ≤ plan.count x → AllGood IsWellDefined j s
      → observed (run j s []) ≡ observed s
  pub lift : (x : ℕ) (p : ℕ → ℕ) (s : State) → Starts plan Static x s → AgreesOn every s.cpu p → AreBits p
      → AllGood IsWellDefined (plan.count x) s → Lifted plan x p s
  pub fragment : (x : ℕ) (p : ℕ → ℕ) (s t : State) (a : Cells) (cs : List ℕ) → Starts plan Static x s
      → AgreesOn every s.cpu p → AllGood IsWellDefined (plan.count x) s
      → a.outer ≡ s.regions → Sees plan.code t a → t.eip ≡ plan.address x
      → ((v : ℕ) → plan.live x v ≡ true → at_home plan a v ≡ p v) → AreBits (at_home plan a) → AreBits p
      → Leads (λ u. Arrives plan x p a u ⊎ Leaves plan x p a u) high t cs

-- a native instruction: where it and its copy stand, what it keeps, and the exchanges of state round its copy
pub record IslandLaws (plan : Plan) (Static : State → Type 0) (opening closing : ℕ) : Type 0 where
  pub here : (x : ℕ) (s : State) → plan.is_island x ≡ true → Static s → s.eip ≡ x
      → found s.eip s.regions ≡ There (plan.inst x) (plan.len x)
  pub copied : (x : ℕ) (own : List ℕ) (rs : List Region) → plan.is_island x ≡ true
      → found (plan.native x) (plan.code ∷ private_region own ∷ rs) ≡ There (plan.inst x) (plan.len x)
  pub inside : (x : ℕ) → plan.is_island x ≡ true → plan.native x + plan.len x < 0x07000000
  pub placeless : (x : ℕ) (regs : List ℕ) (at to : ℕ) (df : Bool) → plan.is_island x ≡ true
      → meaning (plan.inst x) (plan.len x) regs at df ≡ meaning (plan.inst x) (plan.len x) regs to df
  pub ends : (x : ℕ) (regs : List ℕ) (at : ℕ) (df : Bool) → plan.is_island x ≡ true
      → AllEnds (λ to. (to ≡ Past (plan.len x)) ⊎ (to ≡ Again)) (meaning (plan.inst x) (plan.len x) regs at df)
  pub keeps_df : (x : ℕ) (s : State) → plan.is_island x ≡ true → Static s → s.eip ≡ x → IsWellDefined s
      → (step s 0).cpu.df ≡ s.cpu.df
  pub no_code : (x : ℕ) (s : State) → plan.is_island x ≡ true → plan.knows x (past plan x) ≡ false
      → Static s → s.stop ≡ Running → s.eip ≡ x → IsWellDefined s
      → (step s 0).stop ≡ Running → (step s 0).eip ≡ past plan x → IsWellDefined (step s 0) → ⊥
  pub opens : (x : ℕ) (t : State) (a : Cells) (cs : List ℕ) → plan.is_island x ≡ true
      → Sees plan.code t a → t.eip ≡ plan.address x → AreBits (at_home plan a) → Leads (Opens plan x a) opening t cs
  pub closes : (x : ℕ) (t : State) (own : List ℕ) (outer : List Region) (cs : List ℕ)
      → plan.is_island x ≡ true → plan.knows x (past plan x) ≡ true
      → t.regions ≡ plan.code ∷ private_region own ∷ outer → Ready own t.cpu.df → length t.cpu.regs ≡ 8
      → ((r : ℕ) → r < 8 → get_or t.cpu.regs r 0 < 2 ^ 32) → t.stop ≡ Running → t.eip ≡ wrap (plan.native x + plan.len x)
      → Leads (Captured plan (past plan x) outer t) closing t cs

-- ---- copies of the original's instructions

-- the original's next instruction is a transfer whose target is no part of it
pub record IsIndirect (s : State) : Type 0 where
  pub inst : Inst
  pub len : ℕ
  pub here : found s.eip s.regions ≡ There inst len
  pub kind : kind_of inst ≡ kinds.Transfer
  pub indirect : is_indirect inst ≡ true

-- the file has come to where it goes on for the original's eip: to a block, to a copy, or anywhere, where the
-- original's next step is not well defined
pub data Landed (plan : Plan) (Static : State → Type 0) (s t : State) : Type 0 where
  in_block : (y : ℕ) → AtBlock plan Static y s t → Landed plan Static s t
  in_copy : plan.cold s.eip ≡ true → InPlace plan (plan.copy s.eip 0) s t → Landed plan Static s t
  nowhere : (IsWellDefined s → ⊥) → observed t ≡ observed s → Landed plan Static s t

-- behind one step of the original, from a copy: at an instruction of a copy, landed, at the original, where an
-- indirect transfer led to neither a block nor a copy, or over
pub data After (plan : Plan) (Static : State → Type 0) (before s t : State) : Type 0 where
  in_place : (x k : ℕ) → InCopy plan Static x k s t → After plan Static before s t
  lands : s.stop ≡ Running → Landed plan Static s t → After plan Static before s t
  leaves : IsIndirect before → s.stop ≡ Running → plan.is_start s.eip ≡ false → plan.cold s.eip ≡ false
      → (own : List ℕ) → length own ≡ 65536 → IsBeside plan own s.eip s t → After plan Static before s t
  stops : IsOver s.stop → observed t ≡ observed s → t.eip < 0x07000000 → After plan Static before s t

-- one step of the original, and some of the file
pub record Turned (plan : Plan) (Static : State → Type 0) (high : ℕ) (s t : State) (cs : List ℕ) : Type 0 where
  pub steps : ℕ
  pub going : 0 < steps
  pub bound : steps ≤ high
  pub shows : (i : ℕ) → i ≤ steps → (j : ℕ) × (j ≤ 1) × (observed (run i t cs) ≡ observed (run j s []))
  pub inside : (i : ℕ) → i < steps → (run i t cs).eip < 0x07000000
  pub next : After plan Static s (step s 0) (run steps t cs)

-- copies, and the places to which blocks go for exits that are not known
pub record CopyLaws (plan : Plan) (Static : State → Type 0) (high : ℕ) : Type 0 where
  pub turns : (x k : ℕ) (s t : State) (cs : List ℕ) → InCopy plan Static x k s t → IsWellDefined s → Static (step s 0)
      → Turned plan Static high s t cs
  pub first : (x : ℕ) → plan.cold x ≡ true → 0 < plan.copied x → plan.original x 0 ≡ x
  pub empty : (x : ℕ) (s : State) → plan.cold x ≡ true → plan.copied x ≡ 0 → Static s → s.stop ≡ Running → s.eip ≡ x
      → IsWellDefined s → ⊥
  pub beyond : (x : ℕ) (s t : State) (cs : List ℕ) → plan.is_start x ≡ true → plan.is_island x ≡ false
      → plan.knows x s.eip ≡ false → (plan.beyond x s.eip ≡ s.eip → ⊥) → Static s → s.stop ≡ Running
      → InPlace plan (plan.beyond x s.eip) s t → Gets (Landed plan Static s) 0 high t cs
