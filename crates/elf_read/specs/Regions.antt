-- The regions of a guest's memory as it begins: the segments of the file, the stack and an empty heap.
use Rattle.std.specs.Prelude.{ℕ, ◌-◌, true, false, List, [], ◌∷◌, ◌++◌, length, map}
use Rattle.br_word.specs.Memory.{Region, zeros}
use Rattle.elf_read.specs.declared.exe.Segment.{Segment}
use Rattle.elf_read.specs.declared.exe.Exe.{Exe}

-- a segment in memory: the bytes of the file, and zeros behind them
abbrev pub region_of : Segment → Region
region_of s = record { start = s.start; perms = s.perms; bytes = s.bytes ++ zeros (s.size - length s.bytes) }

-- the bytes of the stack, which ends with these and is zero below them
unfoldable pub stack_with : List ℕ → List ℕ
stack_with top = zeros (1048576 - length top) ++ top

abbrev pub stack_region : List ℕ → Region
stack_region top = record { start = 0xBFF00000; perms = record { read = true; write = true; exec = false }; bytes = stack_with top }

abbrev pub heap_region : ℕ → Region
heap_region start = record { start = start; perms = record { read = true; write = true; exec = false }; bytes = [] }

abbrev pub opening_regions : Exe → List ℕ → List Region
opening_regions exe top = map region_of exe.segments ++ (stack_region top ∷ heap_region exe.brk_start ∷ [])
