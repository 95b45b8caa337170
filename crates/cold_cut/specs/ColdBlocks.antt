-- Cold blocks: the instructions from a start up to and with the first transfer.
use Rattle.std.specs.Prelude.{ℕ, zero, suc, ◌+◌, List, [], ◌∷◌, length}
use Rattle.elf_read.specs.declared.exe.Exe.{Exe}
use Rattle.ia_inst.specs.declared.inst.Kind.{Kind}
use Rattle.ia_inst.specs.declared.inst.Kind.TheVariants as kinds
use Rattle.ia_inst.specs.Kinds.{kind_of}
use Rattle.ia_inst.specs.Step.{Found, NoCode, NoInst, There}
use Rattle.block_cut.specs.Places.{Placed, found_at}
use Rattle.block_cut.specs.Blocks.{size_of, last_of}
use Rattle.cold_cut.specs.declared.ends.ColdEnd.{ColdEnd}
use Rattle.cold_cut.specs.declared.ends.ColdEnd.TheVariants.{Transfers, Unreadable, Full}
use Rattle.cold_cut.specs.declared.ends.ColdCut.{ColdCut}
use Rattle.cold_cut.specs.declared.ends.TheConstants.{MAX_COPIED}

-- a cold block: its instructions in order, and what ends it
pub record ColdBlock : Type 0 where
  pub insts : List Placed
  pub end : ColdEnd

-- no further instruction
abbrev pub ends_cold : ColdEnd → ColdBlock
ends_cold end = record { insts = []; end = end }

-- an instruction, and the rest behind it
abbrev pub before_cold : Placed → ColdBlock → ColdBlock
before_cold p b = record { insts = p ∷ b.insts; end = b.end }

-- a transfer is the last; native instructions are taken like plain ones
abbrev pub cold_by : Kind → Placed → ColdBlock → ColdBlock
cold_by kinds.Plain p rest = before_cold p rest
cold_by kinds.Island p rest = before_cold p rest
cold_by kinds.Transfer p rest = before_cold p (ends_cold Transfers)

-- what is found at an address decides how the block goes on there
abbrev pub cold_at : Found → ℕ → (ℕ → ColdBlock) → ColdBlock
cold_at NoCode at rest = ends_cold Unreadable
cold_at NoInst at rest = ends_cold Unreadable
cold_at (There i n) at rest = cold_by (kind_of i) (record { at = at; inst = i; size = n }) (rest (at + n))

-- from an address on, with room for so many instructions
abbrev pub cold_from : Exe → ℕ → ℕ → ColdBlock
cold_from exe zero at = ends_cold Full
cold_from exe (suc n) at = cold_at (found_at exe at) at (cold_from exe n)

-- the cold block of a start
unfoldable pub cold_of : Exe → ℕ → ColdBlock
cold_of exe start = cold_from exe MAX_COPIED start

-- how far the cold block of a start goes
abbrev pub cold_cut_of : ℕ → ColdBlock → ColdCut
cold_cut_of start b = record { count = length b.insts; len = size_of b.insts; end = b.end; last = last_of start b.insts }
