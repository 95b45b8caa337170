-- The code of an executable.
use Rattle.std.specs.Prelude.{ℕ, ◌-◌, ◌&&◌, if◌then◌else◌, List, [], ◌∷◌, ◌++◌, length, drop}
use Rattle.br_word.specs.Memory.{zeros}
use Rattle.elf_read.specs.declared.exe.Segment.{Segment}
use Rattle.elf_read.specs.Elf.{in_segment}

-- the bytes of a segment in memory: those of the file, then zeros
abbrev pub segment_bytes : Segment → List ℕ
segment_bytes s = s.bytes ++ zeros (s.size - length s.bytes)

-- the bytes of the executable segment from an address on, none where the address lies in none
abbrev pub code_at : ℕ → List Segment → List ℕ
code_at at [] = []
code_at at (s ∷ ss) = if s.perms.exec && in_segment at s then drop (at - s.start) (segment_bytes s) else code_at at ss
