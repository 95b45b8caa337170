-- The laws of recovered code, over the machine's own steps, for every list of choices.
use Rattle.std.specs.Prelude.{◌≡◌, ℕ, ◌+◌, ◌^◌, ◌<◌, ◌≤◌, ◌⊎◌, false, List, [], ◌∷◌, length, get_or, nat_eq, Bool, Option, None, Some, if◌then◌else◌}
use Rattle.br_word.specs.declared.types.Width.{Width}
use Rattle.br_word.specs.Memory.{Region, zeros, load, store}
use Rattle.br_word.specs.Words.{size_of}
use Rattle.br_word.specs.State.{State, Running}
use Rattle.ia_inst.specs.declared.inst.Inst.{Inst}
use Rattle.ia_inst.specs.declared.inst.Inst.TheVariants.{Alu, Test, JmpRm}
use Rattle.ia_inst.specs.declared.inst.Src.TheVariants as src
use Rattle.br_word.specs.declared.types.Width.TheVariants.{B32}
use Rattle.ia_inst.specs.Canonical.{canonical}
use Rattle.ia_inst.specs.Instructions.{decode_of}
use Rattle.ia_inst.specs.Step.{There, found}
use Rattle.run_model.specs.Run.{Observation, observed, run}
use Rattle.par_moves.specs.declared.locations.Place.{Place}
use Rattle.par_moves.specs.declared.locations.Place.TheVariants.{Reg, Slot}
use Rattle.par_moves.specs.declared.locations.MoveSource.{MoveSource as Source}
use Rattle.par_moves.specs.Locations.{rm_of, same_place as place_eq, held, InRange, IsFit, IsKept, IsFree}
use Rattle.ssa_form.specs.declared.form.BinOp.{BinOp}
use Rattle.ssa_form.specs.declared.form.OneOp.{OneOp}
use Rattle.ssa_form.specs.Value.{bin_value, one_value, select_value}
use Rattle.emit_ops.specs.Templates.{eax, load_reg, bin_code, one_code, select_code, load_code, store_code, move_code}
use Rattle.ia_encode.specs.declared.item.Dest.{Dest}
use Rattle.ia_encode.specs.Items.{size_of_items, size_of_jump, jump_inst, distance, Reads, StandsAt, Stands}
use Rattle.code_laws.specs.Exchange.{Homes, FlagsHeld, Besides, Captured, Restored, Opened}
use Rattle.par_moves.specs.Homes.{AreHomes}
use Rattle.fall_stubs.specs.Exchange.{capture_items, restore_items, opening_items, island_items}
use Rattle.code_laws.specs.Seen.{Cells, private_region, IsCode, Sees, Leads, Quiet}

-- at this address, seen as cells of which Q holds
pub record Comes (code : Region) (to : ℕ) (Q : Cells → Type 0) (t : State) : Type 0 where
  pub cells : Cells
  pub sees : Sees code t cells
  pub eip : t.eip ≡ to
  pub holds : Q cells

-- where its own bytes stand, in the code of a native instruction at this address
abbrev pub own_start : Homes → ℕ → ℕ → ℕ
own_start homes label at = at + size_of_items (opening_items homes label)

-- The exchange of state from s, seen as a, wherever the items stand and whichever virtual registers live in registers.
pub record ExchangeKeeps (code : Region) (homes : Homes) (dest : Dest → ℕ) (s : State) (a : Cells) (cs : List ℕ) : Type 0 where
  pub capture : (to : ℕ) → Stands dest code s.eip (capture_items homes) to →
      Leads (Quiet a.seen) (Comes code to (Captured homes a)) (13 + length homes) s cs
  -- one step more where DF is set
  pub restore : (label to : ℕ) → Stands dest code s.eip (restore_items label) to →
      Leads (Quiet a.seen) (Comes code to (Restored a)) (27 + a.cell (Slot 13)) s cs
  -- on the way to the original
  pub leaving : (label to : ℕ) → Stands dest code s.eip (opening_items homes label) to →
      Leads (Quiet a.seen) (Comes code to (Opened homes a)) (length homes + (27 + a.cell (Slot 13))) s cs
  -- to the first of a native instruction's own bytes
  pub opening : (bytes : List ℕ) (label to : ℕ) (next : Dest) →
      Stands dest code s.eip (island_items homes bytes label next) to →
      Leads (Quiet a.seen) (Comes code (own_start homes label s.eip) (Opened homes a)) (length homes + (27 + a.cell (Slot 13))) s cs
  -- from the byte behind them
  pub closing : (bytes : List ℕ) (label at to : ℕ) (next : Dest) →
      Stands dest code at (island_items homes bytes label next) to → s.eip ≡ own_start homes label at + length bytes →
      dest next < 2 ^ 32 →
      Leads (Quiet a.seen) (Comes code (dest next) (Captured homes a)) (14 + length homes) s cs

-- a state of the code that shows what one of two did
pub record Between (u v : Observation) (t : State) : Type 0 where
  pub shows : (observed t ≡ u) ⊎ (observed t ≡ v)
  pub live : t.stop ≡ Running
  pub in_code : t.eip < 0x07000000

-- after the own steps of a native instruction of n bytes: behind it, showing v, with the slots from 8 on as before
pub record OwnEnd (code : Region) (behind : ℕ) (v : Observation) (b : Cells) (u : State) : Type 0 where
  pub cells : Cells
  pub sees : Sees code u cells
  pub eip : u.eip ≡ behind
  pub shows : cells.seen ≡ v
  pub slots : (k : ℕ) → 8 ≤ k → cells.cell (Slot k) ≡ b.cell (Slot k)

-- its k own steps; a repeated instruction takes several
pub record OwnSteps (code : Region) (behind k : ℕ) (u v : Observation) (b : Cells) (t : State) (cs : List ℕ) : Type 0 where
  pub ends : OwnEnd code behind v b (run k t cs)
  pub before : (i : ℕ) → i < k → Between u v (run i t cs)

-- a native instruction between the two exchanges
pub record Exchanged (code : Region) (homes : Homes) (behind k : ℕ) (v : Observation) (a d : Cells) : Type 0 where
  -- where its own steps begin: registers and flags are what homes and slots held
  pub from : State
  pub began : Cells
  pub sees : Sees code from began
  pub opened : Opened homes a began
  pub choices : List ℕ
  pub own : OwnEnd code behind v began (run k from choices)
  -- homes and slots hold what it came to
  pub captured : Captured homes own.cells d
  pub others : (j : ℕ) → 13 ≤ j → d.cell (Slot j) ≡ a.cell (Slot j)

-- The whole of a native instruction, whose k own steps stop nothing and leave the slots.
abbrev pub IslandKeeps : Type 0
IslandKeeps = (code : Region) (homes : Homes) (dest : Dest → ℕ) (s : State) (a : Cells) (bytes : List ℕ) (label : ℕ) (next : Dest) →
    (to k : ℕ) (cs : List ℕ) (v : Observation) →
    IsCode code → AreHomes homes → Sees code s a → FlagsHeld a → dest next < 2 ^ 32 →
    Stands dest code s.eip (island_items homes bytes label next) to →
    ((t : State) (b : Cells) (ds : List ℕ) → Sees code t b → Opened homes a b → t.eip ≡ own_start homes label s.eip →
    OwnSteps code (own_start homes label s.eip + length bytes) k a.seen v b t ds) →
    Leads (Between a.seen v) (Comes code (dest next) (Exchanged code homes (own_start homes label s.eip + length bytes) k v a))
    (length homes + (27 + a.cell (Slot 13)) + (k + (14 + length homes))) s cs

-- ---- templates

-- the place has the value, and besides only eax, ecx, flags and marks may differ
pub record Gave (a : Cells) (r : Place) (v : ℕ) (b : Cells) : Type 0 where
  pub value : b.cell r ≡ v
  pub others : (q : Place) → IsKept q → place_eq q r ≡ false → b.cell q ≡ a.cell q
  pub df : b.df ≡ a.df
  pub besides : Besides a b

-- The memory is m; of what a saw, only eax and ecx may differ. This also covers a store to the private segment.
pub record Stored (a : Cells) (m : List Region) (to : ℕ) (t : State) : Type 0 where
  pub eip : t.eip ≡ to
  pub regions : t.regions ≡ m
  pub count : length t.cpu.regs ≡ 8
  pub small : (r : ℕ) → r < 8 → get_or t.cpu.regs r 0 < 2 ^ 32
  pub regs : (r : ℕ) → r < 8 → IsKept (Reg r) → get_or t.cpu.regs r 0 ≡ a.cell (Reg r)
  pub flags : t.cpu.flags ≡ a.flags
  pub marks : t.cpu.marks ≡ a.marks
  pub df : t.cpu.df ≡ a.df
  pub seen : observed t ≡ a.seen
  pub brk_start : t.brk_start ≡ a.brk_start
  pub brk : t.brk ≡ a.brk
  pub running : t.stop ≡ Running

-- what an operand of a template asks
abbrev pub IsOperand : Source → Type 0
IsOperand x = IsFree x × IsFit x

abbrev pub IsResult : Place → Type 0
IsResult r = IsKept r × InRange r

-- n instructions standing from eip to an address lead there, and the place then has the value
abbrev pub Means : Region → State → Cells → List Inst → ℕ → List ℕ → Place → ℕ → Type 0
Means code s a is to cs r v = StandsAt code s.eip is to → Leads (Quiet a.seen) (Comes code to (Gave a r v)) (length is) s cs

-- What the templates do from s, seen as a, wherever they stand and for any places of operands and result.
pub record TemplateMeans (code : Region) (s : State) (a : Cells) (to : ℕ) (cs : List ℕ) : Type 0 where
  pub bin : (op : BinOp) (x y : Source) (r : Place) → IsOperand x → IsOperand y → IsResult r →
      Means code s a (bin_code op x y r) to cs r (bin_value op (held a.cell x) (held a.cell y))
  pub one : (op : OneOp) (x : Source) (r : Place) → IsOperand x → IsResult r →
      Means code s a (one_code op x r) to cs r (one_value op (held a.cell x))
  pub select : (c x y : Source) (r : Place) → IsOperand c → IsOperand x → IsOperand y → IsResult r →
      Means code s a (select_code c x y r) to cs r (select_value (held a.cell c) (held a.cell x) (held a.cell y))
  -- a load that the whole memory allows
  pub load : (w : Width) (x : Source) (r : Place) (v : ℕ) → IsOperand x → IsResult r →
      load (held a.cell x) (size_of w) s.regions ≡ Some v → v < 2 ^ 32 →
      Means code s a (load_code w x r) to cs r v
  -- a store that the whole memory allows
  pub store : (w : Width) (x y : Source) (m : List Region) → IsOperand x → IsOperand y →
      store (held a.cell x) (size_of w) (held a.cell y) s.regions ≡ Some m →
      StandsAt code s.eip (store_code w x y) to →
      Leads (Quiet a.seen) (Stored a m to) 3 s cs
  -- to any place from any source, a home or not
  pub move : (r : Place) (x : Source) → InRange r → IsFit x → Means code s a (move_code r x) to cs r (held a.cell x)

-- ---- items

-- The own bytes of a native instruction are read as it in every state.
abbrev pub OwnFound : Type 0
OwnFound = (code : Region) (dest : Dest → ℕ) (homes : Homes) (bytes : List ℕ) (label at : ℕ) (next : Dest) →
    (to : ℕ) (i : Inst) (s : State) (a : Cells) →
    IsCode code → ((k : ℕ) → get_or bytes k 0 < 256) → 0 < length bytes → decode_of bytes ≡ Some (i, length bytes) →
    Stands dest code at (island_items homes bytes label next) to → Sees code s a → s.eip ≡ own_start homes label at →
    found s.eip s.regions ≡ There i (length bytes)

-- ---- the opening

abbrev pub start_cell : List ℕ → Place → ℕ
start_cell regs (Reg r) = get_or regs r 0
start_cell regs (Slot k) = 0

-- A running state whose private segment is zeros is seen, with 0 in every slot.
abbrev pub StartSeen : Type 0
StartSeen = (code : Region) (outer : List Region) (n : ℕ) (s : State) → n ≡ 65536 → s.regions ≡ code ∷ private_region (zeros n) ∷ outer →
    length s.cpu.regs ≡ 8 → ((r : ℕ) → r < 8 → get_or s.cpu.regs r 0 < 2 ^ 32) → s.stop ≡ Running →
    Sees code s (record {
      cell = start_cell s.cpu.regs;
      flags = s.cpu.flags;
      marks = s.cpu.marks;
      df = s.cpu.df;
      outer = outer;
      seen = observed s;
      brk_start = s.brk_start;
      brk = s.brk;
    })

-- ---- jumps

-- a jump stands at eip
abbrev pub JumpStands : (Dest → ℕ) → Region → State → Option ℕ → Dest → Type 0
JumpStands dest code s cond d = Reads code s.eip (jump_inst cond (distance (s.eip + size_of_jump cond) (dest d))) (size_of_jump cond)

-- One step, which changes eip alone: to the destination of a jump, or past it.
pub record JumpsLead (code : Region) (dest : Dest → ℕ) : Type 0 where
  pub always : (s : State) (a : Cells) (d : Dest) (cs : List ℕ) → Sees code s a → dest d < 2 ^ 32 → JumpStands dest code s None d →
      Leads (Quiet a.seen) (λ t. t ≡ record s { eip = dest d }) 1 s cs
  -- JZ
  pub zero : (s : State) (a : Cells) (d : Dest) (cs : List ℕ) → Sees code s a → dest d < 2 ^ 32 → JumpStands dest code s (Some 4) d →
      Leads (Quiet a.seen) (λ t. t ≡ record s { eip = if a.flags.zf then dest d else s.eip + 6 }) 1 s cs
  -- JNZ
  pub nonzero : (s : State) (a : Cells) (d : Dest) (cs : List ℕ) → Sees code s a → dest d < 2 ^ 32 → JumpStands dest code s (Some 5) d →
      Leads (Quiet a.seen) (λ t. t ≡ record s { eip = if a.flags.zf then s.eip + 6 else dest d }) 1 s cs
  -- by a slot
  pub by_slot : (s : State) (a : Cells) (k : ℕ) (cs : List ℕ) → Sees code s a → k < 16384 →
      Reads code s.eip (JmpRm (rm_of (Slot k))) (length (canonical (JmpRm (rm_of (Slot k))))) →
      Leads (Quiet a.seen) (λ t. t ≡ record s { eip = a.cell (Slot k) }) 1 s cs

-- ---- tests before a jump

-- ZF is z, and eax v; besides only ecx and the other flags may differ
pub record Tested (a : Cells) (v : ℕ) (z : Bool) (b : Cells) : Type 0 where
  pub zf : b.flags.zf ≡ z
  pub eax : b.cell (Reg 0) ≡ v
  pub others : (q : Place) → IsKept q → b.cell q ≡ a.cell q
  pub df : b.df ≡ a.df
  pub besides : Besides a b

pub record TestsMean (code : Region) (s : State) (a : Cells) (to : ℕ) (cs : List ℕ) : Type 0 where
  -- of a value with 0
  pub test : (x : Source) → IsOperand x → StandsAt code s.eip (load_reg 0 x ∷ Test B32 eax (src.Rm eax) ∷ []) to →
      Leads (Quiet a.seen) (Comes code to (Tested a (held a.cell x) (nat_eq (held a.cell x) 0))) 2 s cs
  -- of eax with a number
  pub compare : (n : ℕ) → n < 2 ^ 32 → StandsAt code s.eip (Alu 7 B32 eax (src.Imm n) ∷ []) to →
      Leads (Quiet a.seen) (Comes code to (Tested a (a.cell (Reg 0)) (nat_eq (a.cell (Reg 0)) n))) 1 s cs
