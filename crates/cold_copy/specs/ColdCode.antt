-- The pieces behind the fragments of recovered code with copies: the copies, the re-entries and the dispatcher.
use Rattle.std.specs.Prelude.{ℕ, ◌&&◌, Bool, List, map, filter, nat_lt, length}
use Rattle.elf_read.specs.declared.exe.Exe.{Exe}
use Rattle.ia_encode.specs.declared.item.Dest.TheVariants as dests
use Rattle.par_moves.specs.Homes.{register_homes}
use Rattle.fall_stubs.specs.Exchange.{closing_items}
use Rattle.block_cut.specs.Transfers.{is_among}
use Rattle.block_cut.specs.Blocks.{block_of}
use Rattle.cold_code.specs.Copies.{Around, copy_of, by_blocks}
use Rattle.cold_code.specs.Dispatcher.{merged, dispatcher_of}
use Rattle.code_layout.specs.Linked.{Fragment}

-- the copy of the cold block of a start
abbrev pub copy_piece : Exe → Around → ℕ → Fragment
copy_piece exe around x = record { start = x; items = copy_of exe around x }

-- those of all cold blocks, in the order of their starts
abbrev pub copies_by : Exe → List ℕ → List ℕ → List Fragment
copies_by exe blocks cold = map (copy_piece exe (by_blocks blocks cold)) cold

-- no instruction stands at the start of an empty block, so from there no step is well defined
abbrev pub has_instructions : Exe → ℕ → Bool
has_instructions exe y = nat_lt 0 (length (block_of exe y).insts)

-- the starts of blocks to which a jump of a fragment leads as to an address of the original, but those of empty blocks
abbrev pub reentered_from : Exe → List ℕ → List ℕ → List ℕ
reentered_from exe outs blocks = filter (λ y. is_among outs y && has_instructions exe y) blocks

-- a re-entry: the state is captured, and the block is next
abbrev pub reentry_at : ℕ → Fragment
reentry_at y = record { start = y; items = closing_items register_homes (dests.Block y) }

-- the dispatcher, over all starts of blocks and cold starts
abbrev pub turn_piece : List ℕ → List ℕ → Fragment
turn_piece blocks cold = record { start = 0; items = dispatcher_of dests.Block (is_among blocks) (merged blocks cold) }
