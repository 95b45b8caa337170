-- What holds between the two guests between two blocks.
use Rattle.std.specs.Prelude.{◌≡◌, ℕ, ◌<◌, Bool, true, if◌then◌else◌, List, [], ◌∷◌, length, get_or}
use Rattle.br_word.specs.declared.types.Flags.{Flags}
use Rattle.br_word.specs.Memory.{Region}
use Rattle.br_word.specs.Words.{bit}
use Rattle.br_word.specs.State.{State, RunState, Running, Exited, Faulted, Flag}
use Rattle.ia_inst.specs.declared.inst.Inst.{Inst}
use Rattle.ia_inst.specs.Step.{IsWellDefined}
use Rattle.run_model.specs.Run.{observed}
use Rattle.sim_laws.specs.Wider.{Agree, IsHigh}
use Rattle.par_moves.specs.declared.locations.Place.{Place}
use Rattle.ssa_form.specs.Agree.{number, AgreesOn, AreBits}
use Rattle.code_laws.specs.Seen.{Cells, private_region, word, Sees}
use Rattle.sim_runs.specs.Native.{placed}

-- All that is fixed once the original and the edges are: the code, its fragments, and what each block means.
pub record Plan : Type 0 where
  -- the recovered code, and the place in which it keeps each virtual register between two blocks
  pub code : Region
  pub home : ℕ → Place
  -- the starts of blocks, those of native instructions, and the known exits of each block
  pub is_start : ℕ → Bool
  pub is_island : ℕ → Bool
  pub knows : ℕ → ℕ → Bool
  -- the virtual registers that are live at a start, and the address of its fragment
  pub live : ℕ → ℕ → Bool
  pub address : ℕ → ℕ
  -- of a block that is not native: how many instructions, and what its lines give
  pub count : ℕ → ℕ
  pub outs : ℕ → (ℕ → ℕ) → List Region → ℕ → ℕ
  pub memory : ℕ → (ℕ → ℕ) → List Region → List Region
  pub exit : ℕ → (ℕ → ℕ) → List Region → ℕ
  -- of a native instruction: it, its length, and where its own bytes stand in the code
  pub inst : ℕ → Inst
  pub len : ℕ → ℕ
  pub native : ℕ → ℕ
  -- of copies of the original's instructions: the starts that have one, how many instructions it has, and where
  -- instruction k of it stands in the original and in the code
  pub cold : ℕ → Bool
  pub copied : ℕ → ℕ
  pub original : ℕ → ℕ → ℕ
  pub copy : ℕ → ℕ → ℕ
  -- where a block goes for an exit that is not known: to that address itself, or to a place of the code
  pub beyond : ℕ → ℕ → ℕ

-- the regions that the file's guest has besides the original's
abbrev pub extra_of : Plan → List ℕ → List Region
extra_of plan own = plan.code ∷ private_region own ∷ []

-- what the home of a virtual register holds
abbrev pub at_home : Plan → Cells → ℕ → ℕ
at_home plan a v = a.cell (plan.home v)

-- the original stands at a start, and the file at the fragment of that start
pub record AtBlock (plan : Plan) (Static : State → Type 0) (x : ℕ) (s t : State) : Type 0 where
  pub start : plan.is_start x ≡ true
  pub eip : s.eip ≡ x
  pub goes : s.stop ≡ Running
  pub static : Static s
  -- the file's guest: live homes hold the original's registers, and what is seen and allocated is the same
  pub cells : Cells
  pub sees : Sees plan.code t cells
  pub there : t.eip ≡ plan.address x
  pub outer : cells.outer ≡ s.regions
  pub homes : AgreesOn (plan.live x) s.cpu (at_home plan cells)
  pub bits : AreBits (at_home plan cells)
  pub shows : cells.seen ≡ observed s
  pub brk_start : cells.brk_start ≡ s.brk_start
  pub brk : cells.brk ≡ s.brk

-- the words of the private segment that a capture needs
pub record Ready (own : List ℕ) (df : Bool) : Type 0 where
  pub size : length own ≡ 65536
  pub bytes : (i : ℕ) → get_or own i 0 < 256
  pub df_word : word own 13 ≡ bit df
  pub flags : (f : Flag) → word own (number f) < 2

-- the file's guest is the original's, but for code and private segment, undefined flags, marks and eip
pub record IsBeside (plan : Plan) (own : List ℕ) (at : ℕ) (s t : State) : Type 0 where
  pub flags : Flags
  pub marks : Flags
  pub agree : Agree s.cpu.marks flags s.cpu.flags
  pub same : t ≡ placed (extra_of plan own) flags marks at s

-- the original stands at a native instruction, and the file at the own bytes of its copy
pub record AtNative (plan : Plan) (Static : State → Type 0) (x : ℕ) (s t : State) : Type 0 where
  pub start : plan.is_start x ≡ true
  pub island : plan.is_island x ≡ true
  pub eip : s.eip ≡ x
  pub goes : s.stop ≡ Running
  pub static : Static s
  pub own : List ℕ
  pub ready : Ready own s.cpu.df
  pub wider : IsBeside plan own (plan.native x) s t

-- the file's guest stands in place at an address: it has the original's registers and flags, and its own segment is
-- ready for a capture
pub record InPlace (plan : Plan) (at : ℕ) (s t : State) : Type 0 where
  pub own : List ℕ
  pub ready : Ready own s.cpu.df
  pub wider : IsBeside plan own at s t

-- the original stands at instruction k of what was copied from a start, and the file at its copy
pub record InCopy (plan : Plan) (Static : State → Type 0) (x k : ℕ) (s t : State) : Type 0 where
  pub cold : plan.cold x ≡ true
  pub within : k < plan.copied x
  pub eip : s.eip ≡ plan.original x k
  pub goes : s.stop ≡ Running
  pub static : Static s
  pub stands : InPlace plan (plan.copy x k) s t

-- where the code goes on for an address that is no start: at its copy, or in the original
abbrev pub aside : Plan → ℕ → ℕ
aside plan y = if plan.cold y then plan.copy y 0 else y

-- it has exited or faulted
abbrev pub IsOver : RunState → Type 0
IsOver Running = ⊥
IsOver (Exited n) = Unit {0}
IsOver (Faulted f) = Unit {0}

-- both stand still
pub record Over (W : State → Type 0) (s t : State) : Type 0 where
  pub same : observed t ≡ observed s
  pub over : IsOver s.stop
  pub quiet : W t

-- the original's next step is not well defined
pub record Doomed (s t : State) : Type 0 where
  pub same : observed t ≡ observed s
  pub doomed : IsWellDefined s → ⊥

-- the relation; may tells whether the recovered code may be left
pub data Related (plan : Plan) (Static W : State → Type 0) (may : Type 0) (s t : State) : Type 0 where
  at_block : (x : ℕ) → AtBlock plan Static x s t → Related plan Static W may s t
  at_native : (x : ℕ) → AtNative plan Static x s t → Related plan Static W may s t
  at_copy : (x k : ℕ) → InCopy plan Static x k s t → Related plan Static W may s t
  gone : may → (own : List ℕ) → length own ≡ 65536 → IsHigh 0x08000000 s → IsBeside plan own s.eip s t
      → Related plan Static W may s t
  over : Over W s t → Related plan Static W may s t
  doomed : Doomed s t → Related plan Static W may s t
