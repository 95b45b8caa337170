-- The pieces of a fragment, what each has to do, and fragments that are made of such pieces.
use Rattle.std.specs.Prelude.{◌≡◌, ℕ, ◌+◌, ◌*◌, ◌<◌, ◌≤◌, Bool, true, false, not, nat_eq, ◌==◌, ◌||◌, if◌then◌else◌, List, [], ◌∷◌}
use Rattle.std.specs.Prelude.{◌++◌, length, get_or, Some, ◌⊎◌}
use Rattle.br_word.specs.Memory.{Region}
use Rattle.br_word.specs.State.{State}
use Rattle.elf_read.specs.declared.exe.Exe.{Exe}
use Rattle.ia_inst.specs.declared.inst.Inst.{Inst}
use Rattle.ia_inst.specs.Canonical.{canonical}
use Rattle.ia_encode.specs.declared.item.Dest.{Dest}
use Rattle.ia_encode.specs.declared.item.Dest.TheVariants as dests
use Rattle.ia_encode.specs.declared.item.Item.{Item}
use Rattle.ia_encode.specs.declared.item.Item.TheVariants as item
use Rattle.ia_encode.specs.Items.{size_of_items, bytes_of_items, with_labels, AreDistinct, AreValid}
use Rattle.run_model.specs.Edges.{Edge}
use Rattle.block_cut.specs.Blocks.{block_of}
use Rattle.block_cut.specs.CountedEdges.{counting}
use Rattle.flow_graph.specs.Graph.{known_of}
use Rattle.ssa_form.specs.declared.form.Exit.{Exit}
use Rattle.ssa_form.specs.declared.form.Exit.TheVariants.{Jump, Cond, Way, Island}
use Rattle.ssa_form.specs.Value.{Env, value, fold, outs_of, exit_of}
use Rattle.ssa_form.specs.Same.{rows, start_env}
use Rattle.code_laws.specs.Placed.{AllHigh}
use Rattle.code_laws.specs.Seen.{Cells, Sees}
use Rattle.sim_runs.specs.Relation.{Plan, Ready}
use Rattle.sim_runs.specs.Laws.{Stays, Restored}
use Rattle.emit_ops.specs.Sequences.{kept}
use Rattle.sim_runs.specs.Coding.{Coding, NamedLater}
use Rattle.sim_runs.specs.Recovered.{Coded, is_island_end, is_start_of, knows_of, plan_of}
use Rattle.sim_runs.specs.Promised.{ServesAt, Runs, FragmentRuns}
use Rattle.sim_runs.specs.Passes.{Gets, StandsFrom, Passes, count_of, cond_items, chain, tails, is_in}

-- what a fragment is made of
pub record Pieces : Type 0 where
  pub body : List Item
  -- a condition's test, and the label of its taken part
  pub ask : List Item
  pub other : ℕ
  -- the way to a known block, and, with a label of its own, the exit to an address of the original
  pub tail : ℕ → List Item
  pub stub : ℕ → ℕ → List Item
  -- an indirect exit: its target, its comparisons, the labels of its tails, and its exit to the original
  pub aim : List Item
  pub compare : ℕ → Inst
  pub label : ℕ → ℕ
  pub way_stub : List Item

-- the way to an address: to a known block, or to the original
abbrev pub part_of : (ℕ → Bool) → Pieces → ℕ → ℕ → List Item
part_of knows k l y = if knows y then k.tail y else k.stub l y

-- what stands behind the body, by the exit; ys are the known exits
abbrev pub exit_items : (ℕ → Bool) → List ℕ → Pieces → Exit → List Item
exit_items knows ys k (Jump to) = part_of knows k 0 to
exit_items knows ys k (Cond t taken next) = cond_items k.ask k.other (part_of knows k 0 next) (part_of knows k 1 taken)
exit_items knows ys k (Way v) = k.aim ++ (chain k.compare k.label ys ++ (k.way_stub ++ tails k.tail k.label ys))
exit_items knows ys k (Island len) = []

-- each way through an exit has at most so many instructions
abbrev pub ExitWithin : (ℕ → Bool) → List ℕ → Pieces → Exit → ℕ → Type 0
ExitWithin knows ys k (Jump to) n = count_of (part_of knows k 0 to) ≤ n
ExitWithin knows ys k (Cond t taken next) n =
    (count_of k.ask + 1 + count_of (part_of knows k 0 next) ≤ n) × (count_of k.ask + 1 + count_of (part_of knows k 1 taken) ≤ n)
ExitWithin knows ys k (Way v) n =
    (count_of k.aim + 2 * length ys + count_of k.way_stub ≤ n)
    × ((y : ℕ) → is_in y ys ≡ true → count_of k.aim + 2 * length ys + count_of (k.tail y) ≤ n)
ExitWithin knows ys k (Island len) n = Unit {0}

-- after the body, and after the sunk lines behind it
abbrev pub body_end : Coding → (ℕ → ℕ) → List Region → Env
body_end k q m = fold (kept k.body (rows k.block)) (start_env q m)

abbrev pub whole_end : Coding → (ℕ → ℕ) → List Region → Env
whole_end k q m = fold (kept k.sunk (rows k.block)) (body_end k q m)

-- the body is done: homes as before, each line in its place that a sunk line, an out or the exit names, and
-- memory that of the lines
pub record Held (c : Coded) (k : Coding) (env : Env) (a : Cells) (at : ℕ) (t : State) : Type 0 where
  pub cells : Cells
  pub sees : Sees c.code t cells
  pub eip : t.eip ≡ at
  pub homes : (v : ℕ) → v < 14 → cells.cell (c.home v) ≡ a.cell (c.home v)
  pub lines : (j : ℕ) → k.body j ≡ true → NamedLater k.block j (kept k.sunk (rows k.block))
      → cells.cell (k.place j) ≡ env.lines j
  pub outer : cells.outer ≡ env.mem
  pub high : AllHigh 0x07010000 env.mem
  pub stays : Stays a cells

-- the homes that are live at the next start hold the outs, the others what they held
pub record Tailed (c : Coded) (k : Coding) (env : Env) (a : Cells) (y : ℕ) (t : State) : Type 0 where
  pub cells : Cells
  pub sees : Sees c.code t cells
  pub there : t.eip ≡ c.address y
  pub outer : cells.outer ≡ env.mem
  pub homes : (v : ℕ) → v < 14 → c.live y v ≡ true → cells.cell (c.home v) ≡ outs_of k.block.outs env v
  pub others : (v : ℕ) → v < 14 → c.live y v ≡ false → cells.cell (c.home v) ≡ a.cell (c.home v)
  pub stays : Stays a cells

-- an indirect exit's target is in eax
pub record Aimed (c : Coded) (k : Coding) (env : Env) (a : Cells) (target at : ℕ) (t : State) : Type 0 where
  pub held : Held c k env a at t
  pub eax : get_or t.cpu.regs 0 0 ≡ target

-- an exit by a condition
abbrev pub is_cond : Exit → Bool
is_cond (Cond t taken next) = true
is_cond _ = false

-- an indirect exit
abbrev pub is_way : Exit → Bool
is_way (Way v) = true
is_way _ = false

-- an address to which a direct exit leads
abbrev pub is_out : Exit → ℕ → Bool
is_out (Jump to) y = y == to
is_out (Cond t taken next) y = y == taken || y == next
is_out (Way v) y = false
is_out (Island len) y = false

-- which way a condition takes
abbrev pub test_of : Exit → Env → Bool
test_of (Jump to) env = true
test_of (Cond t taken next) env = not (value env t == 0)
test_of (Way v) env = true
test_of (Island len) env = true

-- behind a test and its jump: at the label of the taken part, or at the part of next
abbrev pub tested_to : (Dest → ℕ) → Coding → Pieces → Env → ℕ → ℕ
tested_to dest k pieces env at =
    if test_of k.block.exit env then dest (dests.Label pieces.other) else at + size_of_items pieces.ask + 6

-- after a comparison: at the label of the known exit where the target is this one, and behind the jump where not
abbrev pub Compared : (Dest → ℕ) → Coded → Coding → Pieces → Cells → Env → ℕ → ℕ → State → Type 0
Compared dest c k pieces a env y at w =
    ((nat_eq (exit_of k.block.exit env) y ≡ true) × Held c k env a (dest (dests.Label (pieces.label y))) w)
    ⊎ ((nat_eq (exit_of k.block.exit env) y ≡ false)
    × Aimed c k env a (exit_of k.block.exit env) (at + length (canonical (pieces.compare y)) + 6) w)

-- what a side exit restores, with the private segment ready for a capture
pub record Returned (plan : Plan) (at : ℕ) (g : ℕ → ℕ) (outer : List Region) (a : Cells) (t : State) : Type 0 where
  pub restored : Restored plan at g outer a t
  pub ready : Ready restored.own t.cpu.df

-- what each piece of the fragment of x does, wherever it stands; env is the body's end, whole that of the sunk lines
-- behind it
pub record PiecesRun (dest : Dest → ℕ) (plan : Plan) (c : Coded) (x : ℕ) (k : Coding) (pieces : Pieces)
    (knows : ℕ → Bool) (a : Cells) (env whole : Env) : Type 0 where
  pub body : (at : ℕ) (u : State) (cs : List ℕ) → StandsFrom dest c.code at pieces.body → Sees c.code u a → u.eip ≡ at
      → Gets (Held c k env a (at + size_of_items pieces.body)) 0 (count_of pieces.body) u cs
  pub tail : (y : ℕ) → knows y ≡ true
      → Passes dest c.code (pieces.tail y) (Held c k env a) (Tailed c k env a y)
  pub stub : (l y : ℕ) → is_out k.block.exit y ≡ true → knows y ≡ false
      → Passes dest c.code (pieces.stub l y) (Held c k env a)
      (Returned plan (plan.beyond x y) (outs_of k.block.outs whole) whole.mem a)
  pub ask : is_cond k.block.exit ≡ true → (at : ℕ) (u : State) (cs : List ℕ)
      → StandsFrom dest c.code at (pieces.ask ++ (item.Jump (Some 5) (dests.Label pieces.other) ∷ [])) → Held c k env a at u
      → Gets (Held c k env a (tested_to dest k pieces env at)) 0 (count_of pieces.ask + 1) u cs
  pub aim : is_way k.block.exit ≡ true → (at : ℕ) (u : State) (cs : List ℕ)
      → StandsFrom dest c.code at pieces.aim → Held c k env a at u
      → Gets (Aimed c k env a (exit_of k.block.exit env) (at + size_of_items pieces.aim)) 0 (count_of pieces.aim) u cs
  pub meets : is_way k.block.exit ≡ true → (y at : ℕ) (u : State) (cs : List ℕ)
      → StandsFrom dest c.code at (item.Inst (pieces.compare y) ∷ item.Jump (Some 4) (dests.Label (pieces.label y)) ∷ [])
      → Aimed c k env a (exit_of k.block.exit env) at u
      → Gets (Compared dest c k pieces a env y at) 0 2 u cs
  pub way_stub : is_way k.block.exit ≡ true → knows (exit_of k.block.exit env) ≡ false
      → Passes dest c.code pieces.way_stub (Aimed c k env a (exit_of k.block.exit env))
      (Returned plan (exit_of k.block.exit env) (outs_of k.block.outs whole) whole.mem a)

-- ---- fragments

-- the items of a fragment
abbrev pub fragment_items : Exe → List Edge → Coding → Pieces → ℕ → List Item
fragment_items exe edges k pieces x =
    pieces.body ++ exit_items (knows_of exe edges x) (known_of exe (counting exe edges) x) pieces k.block.exit

-- their bytes stand at an address of the code, with destinations where goes says
pub record IsLinked (code : Region) (goes : Dest → ℕ) (at : ℕ) (is : List Item) : Type 0 where
  pub front : List ℕ
  pub behind : List ℕ
  pub bytes : code.bytes ≡ front ++ (bytes_of_items (with_labels goes at is) at is ++ behind)
  pub place : at ≡ code.start + length front
  pub valid : AreValid is
  pub distinct : AreDistinct is

-- each fragment is linked at its address, its pieces do what they have to, and an exit that is not known and no direct
-- one leads to that address itself
pub record FragmentsMade (exe : Exe) (edges : List Edge) (c : Coded) (coding : ℕ → Coding) : Type 0 where
  pub goes : Dest → ℕ
  pub literal : (x y : ℕ) → is_out (coding x).block.exit y ≡ false → c.beyond x y ≡ y
  pub pieces : ℕ → Pieces
  pub linked : (x : ℕ) → is_start_of exe edges x ≡ true → is_island_end (block_of exe x).end ≡ false
      → IsLinked c.code goes (c.address x) (fragment_items exe edges (coding x) (pieces x) x)
  pub run : (x : ℕ) (p : ℕ → ℕ) (t : State) (a : Cells)
      → is_start_of exe edges x ≡ true → is_island_end (block_of exe x).end ≡ false
      → ServesAt exe edges c x (coding x) → Runs exe c x p t a
      → PiecesRun (with_labels goes (c.address x) (fragment_items exe edges (coding x) (pieces x) x)) (plan_of exe edges c) c x
      (coding x) (pieces x) (knows_of exe edges x) a
      (body_end (coding x) (λ v. a.cell (c.home v)) a.outer) (whole_end (coding x) (λ v. a.cell (c.home v)) a.outer)

-- each way through a fragment has at most so many instructions
pub record PathWithin (exe : Exe) (edges : List Edge) (k : Coding) (pieces : Pieces) (x high : ℕ) : Type 0 where
  pub exit : ℕ
  pub ways : ExitWithin (knows_of exe edges x) (known_of exe (counting exe edges) x) pieces k.block.exit exit
  pub fits : count_of pieces.body + exit ≤ high

-- of each fragment
abbrev pub PathsWithin : (exe : Exe) (edges : List Edge) (c : Coded) (coding : ℕ → Coding)
    → FragmentsMade exe edges c coding → ℕ → Type 0
PathsWithin exe edges c coding made high = (x : ℕ) → is_start_of exe edges x ≡ true → is_island_end (block_of exe x).end ≡ false
    → PathWithin exe edges (coding x) (made.pieces x) x high

-- Then they run, each within as many steps as its longest way has instructions, so within as many as the code has bytes.
pub record FragmentsRun : Type 0 where
  pub by_paths : (exe : Exe) (edges : List Edge) (c : Coded) (coding : ℕ → Coding)
      → (made : FragmentsMade exe edges c coding) → (high : ℕ) → PathsWithin exe edges c coding made high
      → FragmentRuns exe edges c coding high
  pub by_length : (exe : Exe) (edges : List Edge) (c : Coded) (coding : ℕ → Coding)
      → FragmentsMade exe edges c coding → FragmentRuns exe edges c coding (length c.code.bytes)
