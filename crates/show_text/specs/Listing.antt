-- The listing of a block: its address, its instructions, and where it goes on.
use Rattle.std.specs.Prelude.{ℕ, ◌+◌, ◌==◌, Bool, true, false, List, [], ◌++◌, take, reverse, codes, if◌then◌else◌}
use Rattle.std.specs.List.{flat_map, list_any}
use Rattle.elf_read.specs.declared.exe.Exe.{Exe}
use Rattle.elf_read.specs.Code.{code_at}
use Rattle.ia_inst.specs.declared.inst.Inst.{Inst}
use Rattle.ia_inst.specs.Step.{Found, NoCode, NoInst, There}
use Rattle.br_word.specs.declared.types.Width.TheVariants.{B8, B32}
use Rattle.ia_text.specs.Operands.{digits_text}
use Rattle.ia_text.specs.Text.{text_of}
use Rattle.block_cut.specs.declared.ends.End.{End}
use Rattle.block_cut.specs.declared.ends.End.TheVariants.{Transfer, Island, BeforeIsland, Unreadable, Full}
use Rattle.block_cut.specs.declared.ends.Cut.{Cut}
use Rattle.block_cut.specs.Places.{Placed, found_at}
use Rattle.block_cut.specs.Transfers.{direct_targets, is_indirect}
use Rattle.block_cut.specs.Blocks.{block_of, cut_of}

-- ---- numbers

-- an address in eight digits
abbrev pub address_text : ℕ → List ℕ
address_text at = digits_text B32 at

-- each byte in two digits
abbrev pub bytes_text : List ℕ → List ℕ
bytes_text bytes = flat_map (digits_text B8) bytes

-- ---- instructions

-- the address, the bytes and the text of an instruction
abbrev pub line_text : Placed → List ℕ → List ℕ
line_text p bytes =
    let text = text_of p.inst p.at p.size in
    codes "  " ++ (address_text p.at ++ (codes " " ++ (bytes_text bytes ++ (codes " " ++ (text ++ codes "\n")))))

-- of one of so many bytes, the first of these
abbrev pub spelled_line : ℕ → Inst → ℕ → List ℕ → List ℕ
spelled_line at inst size bytes = line_text (record { at = at; inst = inst; size = size }) (take size bytes)

-- of one that stands in an executable
abbrev pub line_of : Exe → Placed → List ℕ
line_of exe p = line_text p (take p.size (code_at p.at exe.segments))

-- of each of them
abbrev pub lines_of : Exe → List Placed → List ℕ
lines_of exe insts = flat_map (line_of exe) insts

-- ---- ways

-- a way to an address, of a kind
abbrev pub way_line : List ℕ → ℕ → List ℕ
way_line kind to = codes "  to " ++ (address_text to ++ (codes " " ++ (kind ++ codes "\n")))

-- known, or left to the original
abbrev pub way_to : List ℕ → ℕ → List ℕ
way_to known to = way_line (if list_any (λ x. x == to) known then codes "known" else codes "original") to

-- each known way of an indirect transfer, and all others
abbrev pub ways_to_any : List ℕ → List ℕ
ways_to_any known = flat_map (way_line (codes "known")) known ++ codes "  to other original\n"

-- the ways of a transfer at an address: the one not taken first
abbrev pub transfer_ways : List ℕ → Found → ℕ → List ℕ
transfer_ways known NoCode at = []
transfer_ways known NoInst at = []
transfer_ways known (There i n) at =
    if is_indirect i then ways_to_any known else flat_map (way_to known) (reverse (direct_targets i n at))

-- it ends with a transfer
abbrev pub is_transfer : End → Bool
is_transfer Transfer = true
is_transfer Island = false
is_transfer BeforeIsland = false
is_transfer Unreadable = false
is_transfer Full = false

-- a block that ends with no transfer goes on behind its instructions
abbrev pub ways_of : Exe → List ℕ → ℕ → Cut → List ℕ
ways_of exe known start cut =
    if is_transfer cut.end then transfer_ways known (found_at exe cut.last) cut.last else way_to known (start + cut.len)

-- ---- the block

-- the listing of the block of a start, with these known ways
unfoldable pub listing_of : Exe → ℕ → List ℕ → List ℕ
listing_of exe start known =
    let b = block_of exe start in
    let ways = ways_of exe known start (cut_of start b) in
    codes "block " ++ (address_text start ++ (codes "\n" ++ (lines_of exe b.insts ++ ways)))
