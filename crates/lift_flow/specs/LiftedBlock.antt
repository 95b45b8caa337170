-- The lines of the basic block of a start.
use Rattle.std.specs.Prelude.{ℕ, List, [], ◌∷◌}
use Rattle.elf_read.specs.declared.exe.Exe.{Exe}
use Rattle.ssa_form.specs.declared.form.Val.{Val}
use Rattle.ssa_form.specs.declared.form.Val.TheVariants.{Param}
use Rattle.ssa_form.specs.declared.form.Exit.TheVariants as exits
use Rattle.ssa_form.specs.declared.form.Block.{Block}
use Rattle.block_cut.specs.declared.ends.End.{End}
use Rattle.block_cut.specs.declared.ends.End.TheVariants.{Transfer, Island, BeforeIsland, Unreadable, Full}
use Rattle.block_cut.specs.Places.{Placed}
use Rattle.block_cut.specs.Blocks.{size_of, block_of}
use Rattle.lift_alu.specs.Lifted.{lifted}

-- each virtual register holds what it held before the block
abbrev pub params : List Val
params = Param 0 ∷ Param 1 ∷ Param 2 ∷ Param 3 ∷ Param 4 ∷ Param 5 ∷ Param 6 ∷ Param 7 ∷
    Param 8 ∷ Param 9 ∷ Param 10 ∷ Param 11 ∷ Param 12 ∷ Param 13 ∷ []

-- a block without lines, which goes on at its start
abbrev pub blank : ℕ → Block
blank start = record { start = start; lines = []; outs = params; exit = exits.Jump start }

-- one instruction after another
abbrev pub lifted_all : List Placed → Block → Block
lifted_all [] b = b
lifted_all (p ∷ ps) b = lifted_all ps (lifted p.inst p.at p.size b)

-- a native instruction has no lines, and an exit of its own
abbrev pub lifted_to : End → List Placed → ℕ → Block
lifted_to Transfer is start = lifted_all is (blank start)
lifted_to Island is start = record (blank start) { exit = exits.Island (size_of is) }
lifted_to BeforeIsland is start = lifted_all is (blank start)
lifted_to Unreadable is start = lifted_all is (blank start)
lifted_to Full is start = lifted_all is (blank start)

-- the block of a start
unfoldable pub lift_of : Exe → ℕ → Block
lift_of exe start = lifted_to (block_of exe start).end (block_of exe start).insts start
