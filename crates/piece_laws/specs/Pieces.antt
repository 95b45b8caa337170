-- The pieces of a fragment, in the words of block_make, and that they do what they have to.
use Rattle.std.specs.Prelude.{◌≡◌, ℕ, suc, ◌^◌, ◌<◌, ◌==◌, Bool, true, false, List, [], ◌∷◌, Option, Some, None, get_or, if◌then◌else◌}
use Rattle.br_word.specs.declared.types.Width.TheVariants.{B32}
use Rattle.br_word.specs.State.{State}
use Rattle.elf_read.specs.declared.exe.Exe.{Exe}
use Rattle.ia_inst.specs.declared.inst.Inst.TheVariants.{Alu}
use Rattle.ia_inst.specs.declared.inst.Src.TheVariants as src
use Rattle.ia_encode.specs.declared.item.Dest.{Dest}
use Rattle.ia_encode.specs.declared.item.Dest.TheVariants as dests
use Rattle.ia_encode.specs.declared.item.Item.{Item}
use Rattle.ia_encode.specs.declared.item.Item.TheVariants as item
use Rattle.run_model.specs.Edges.{Edge}
use Rattle.par_moves.specs.Homes.{home_of}
use Rattle.ssa_form.specs.declared.form.Exit.{Exit}
use Rattle.ssa_form.specs.declared.form.Exit.TheVariants.{Jump, Cond, Way, Island}
use Rattle.emit_ops.specs.Templates.{eax, load_reg, test_all}
use Rattle.code_laws.specs.Seen.{Cells, IsCode}
use Rattle.block_make.specs.Choices.{Choice}
use Rattle.block_make.specs.Keys.{live_at, has}
use Rattle.block_make.specs.FragmentItems.{lines_items, source_in, tail_items, stub_items, aim_items, way_stub_items}
use Rattle.sim_runs.specs.Recovered.{Coded, knows_of, plan_of}
use Rattle.sim_runs.specs.Promised.{ServesAt, Runs}
use Rattle.sim_runs.specs.Pieces.{Pieces, PiecesRun, is_out, body_end, whole_end}
use Rattle.piece_laws.specs.Choices.{coding_of, Suits}

-- ---- the pieces

-- the live set of a known exit; of another address none
abbrev pub set_or_none : Option ℕ → ℕ
set_or_none None = 0
set_or_none (Some set) = set

abbrev pub set_of : List (ℕ × ℕ) → ℕ → ℕ
set_of exits y = set_or_none (live_at exits y)

-- the label of a known exit's tail: they are numbered from l on, as the exits stand
abbrev pub label_of : ℕ → List (ℕ × ℕ) → ℕ → ℕ
label_of l [] y = l
label_of l (e ∷ es) y = if e.0 == y then l else label_of (suc l) es y

-- a condition's value in eax, and its test
abbrev pub ask_of : Choice → Exit → List Item
ask_of c (Cond test taken next) = item.Inst (load_reg 0 (source_in c test)) ∷ item.Inst test_all ∷ []
ask_of c (Jump to) = []
ask_of c (Way v) = []
ask_of c (Island len) = []

-- an indirect exit's target, and its side exit
abbrev pub aim_of : Choice → Exit → List Item
aim_of c (Way v) = aim_items c v
aim_of c (Jump to) = []
aim_of c (Cond test taken next) = []
aim_of c (Island len) = []

abbrev pub way_of : Choice → Exit → List Item
way_of c (Way v) = way_stub_items c v
way_of c (Jump to) = []
way_of c (Cond test taken next) = []
way_of c (Island len) = []

-- of a choice and its known exits
abbrev pub pieces_of : Choice → List (ℕ × ℕ) → Pieces
pieces_of c exits = record {
  body = lines_items c c.split.body;
  ask = ask_of c c.block.exit;
  other = 2;
  tail = λ y. tail_items c (set_of exits y) y;
  stub = λ l y. stub_items c l y;
  aim = aim_of c c.block.exit;
  compare = λ y. Alu 7 B32 eax (src.Imm y);
  label = label_of 1 exits;
  way_stub = way_of c c.block.exit;
}

-- ---- what they stand in

-- the code is there, of bytes, and virtual registers live where block_make puts them
pub record IsHome (c : Coded) : Type 0 where
  pub here : IsCode c.code
  pub bytes : (i : ℕ) → get_or c.code.bytes i 0 < 256
  pub home : (v : ℕ) → c.home v ≡ home_of v

-- each known exit has the live set of its start
abbrev pub LiveSets : (ℕ → Bool) → (ℕ → ℕ → Bool) → List (ℕ × ℕ) → Type 0
LiveSets knows live exits = (y : ℕ) → knows y ≡ true → (v : ℕ) → v < 14 → has (set_of exits y) v ≡ live y v

-- of the block of x: blocks, and what lies beyond its direct exits that are not known, lie where the code says, and
-- addresses that are jumped to have 32 bits
pub record GoesTo (knows : ℕ → Bool) (c : Coded) (x : ℕ) (exit : Exit) (dest : Dest → ℕ) : Type 0 where
  pub block : (y : ℕ) → dest (dests.Block y) ≡ c.address y
  pub original : (y : ℕ) → is_out exit y ≡ true → knows y ≡ false → dest (dests.Original y) ≡ c.beyond x y
  pub label : (l : ℕ) → dest (dests.Label l) < 2 ^ 32
  pub known : (y : ℕ) → knows y ≡ true → c.address y < 2 ^ 32
  pub out : (y : ℕ) → is_out exit y ≡ true → knows y ≡ false → c.beyond x y < 2 ^ 32

-- ---- the law

-- The pieces of a choice that serves its block do what the simulation asks of them, wherever they stand.
abbrev pub PiecesDo : Type 0
PiecesDo = (exe : Exe) (edges : List Edge) (c : Coded) (x : ℕ) (choice : Choice) (exits : List (ℕ × ℕ)) (dest : Dest → ℕ)
    → IsHome c → ServesAt exe edges c x (coding_of choice) → Suits choice
    → LiveSets (knows_of exe edges x) c.live exits → GoesTo (knows_of exe edges x) c x choice.block.exit dest
    → (p : ℕ → ℕ) (t : State) (a : Cells) → Runs exe c x p t a
    → PiecesRun dest (plan_of exe edges c) c x (coding_of choice) (pieces_of choice exits) (knows_of exe edges x) a
    (body_end (coding_of choice) (λ v. a.cell (c.home v)) a.outer) (whole_end (coding_of choice) (λ v. a.cell (c.home v)) a.outer)
