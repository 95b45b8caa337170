-- The file that is written for an original and edges: the recovered code, a private segment, and the original's segments at their
-- addresses.
use Rattle.std.specs.Prelude.{◌≡◌, ℕ, ◌+◌, ◌-◌, ◌%◌, ◌^◌, ◌<◌, true, false, List, [], ◌∷◌, length}
use Rattle.br_word.specs.Memory.{bytes_of}
use Rattle.elf_read.specs.declared.exe.Segment.{Segment}
use Rattle.elf_read.specs.declared.exe.Exe.{Exe}
use Rattle.elf_write.specs.File.{file_of}
use Rattle.run_model.specs.Edges.{Edge}
use Rattle.flow_graph.specs.declared.error.TheConstants.{MAX_BLOCKS}
use Rattle.flow_graph.specs.GraphOf.{graph_of}
use Rattle.code_layout.specs.declared.place.TheConstants.{CODE_START, PRIVATE_START, PRIVATE_SIZE, MAX_CODE}
use Rattle.code_layout.specs.declared.built.Built.{Built}
use Rattle.code_layout.specs.Linked.{code_of}

-- the segment of recovered code is executed and not written
abbrev pub code_segment : List ℕ → Segment
code_segment code = record { start = CODE_START; size = length code; perms = record { read = true; write = false; exec = true }; bytes = code }

-- the private segment is of zeros
abbrev pub private_segment : Segment
private_segment =
    record { start = PRIVATE_START; size = PRIVATE_SIZE; perms = record { read = true; write = true; exec = false }; bytes = [] }

-- the segments of the file, and the file, by the recovered code
abbrev pub segments_with : Exe → List ℕ → List Segment
segments_with exe code = code_segment code ∷ private_segment ∷ exe.segments

unfoldable pub image_with : Exe → List ℕ → List ℕ
image_with exe code = file_of (segments_with exe code) CODE_START

-- the file of an original and edges
abbrev pub image : Exe → List Edge → List ℕ
image exe edges = image_with exe (code_of exe edges)

-- with the number of its blocks and the length of its code
abbrev pub built_of : Exe → List Edge → Built
built_of exe edges = record { bytes = image exe edges; blocks = length (graph_of exe edges); code = length (code_of exe edges) }

-- ---- when there is none

-- more blocks than a graph may have
abbrev pub HasTooManyBlocks : Exe → List Edge → Type 0
HasTooManyBlocks exe edges = MAX_BLOCKS < length (graph_of exe edges)

-- more code than there is room for below the private segment
abbrev pub IsTooLong : Exe → List Edge → Type 0
IsTooLong exe edges = MAX_CODE < length (code_of exe edges)

-- ---- without edges

-- the code is one jump to the original's entry (SDM volume 2, JMP: E9 and the distance from its end)
abbrev pub EmptyImage : Type 0
EmptyImage = (exe : Exe) → code_of exe [] ≡ 0xE9 ∷ bytes_of 4 ((exe.entry + 2 ^ 32 - 0x01000005) % 2 ^ 32)
