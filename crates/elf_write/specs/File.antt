-- The file that is written of segments (System V ABI, chapters 4 and 5: ELF header, program header).
use Rattle.std.specs.Prelude.{◌≡◌, ℕ, ◌+◌, ◌-◌, ◌*◌, ◌%◌, ◌^◌, ◌<◌, ◌≤◌, Bool, true, nat_eq, if◌then◌else◌, List, [], ◌∷◌, ◌++◌, length, Ok}
use Rattle.br_word.specs.declared.types.Perms.{Perms}
use Rattle.br_word.specs.Memory.{bytes_of, zeros}
use Rattle.elf_read.specs.declared.exe.Segment.{Segment}
use Rattle.elf_read.specs.declared.exe.Reach.TheVariants.{Guest}
use Rattle.elf_read.specs.declared.limits.TheConstants.{GUEST_LOWEST, GUEST_SEGMENT_LIMIT, GUEST_MEMORY_LIMIT}
use Rattle.elf_read.specs.Elf.{AreSegments, Ascend, is_exec, sizes, elf, exe_of}

-- a number where a test holds, and 0 elsewhere
abbrev pub bit : Bool → ℕ → ℕ
bit b n = if b then n else 0

-- the permissions as p_flags: PF_X is 1, PF_W 2, PF_R 4 (Program header, segment permissions)
abbrev pub flags_of_perms : Perms → ℕ
flags_of_perms p = bit p.exec 1 + bit p.write 2 + bit p.read 4

-- no bytes in the file (p_filesz is 0)
abbrev pub has_none : Segment → Bool
has_none s = nat_eq (length s.bytes) 0

-- how many zeros come before a segment's bytes, so that p_offset and p_vaddr agree below 4096 (Program header, p_align)
abbrev pub padding : ℕ → Segment → ℕ
padding at s = (s.start % 4096 + 4096 - at % 4096) % 4096

-- p_offset of a segment, if the file ended here before it
abbrev pub offset_of : ℕ → Segment → ℕ
offset_of at s = if has_none s then s.start % 4096 else at + padding at s

-- where the file ends after a segment's bytes, if it ended here before them
abbrev pub end_after : ℕ → Segment → ℕ
end_after at s = if has_none s then at else at + padding at s + length s.bytes

-- where a file ends after these segments
abbrev pub end_of_all : ℕ → List Segment → ℕ
end_of_all at [] = at
end_of_all at (s ∷ ss) = end_of_all (end_after at s) ss

-- the bytes that a segment adds to the file, if it ended here before them
abbrev pub piece_of : ℕ → Segment → List ℕ
piece_of at s = if has_none s then [] else zeros (padding at s) ++ s.bytes

-- a 32-bit field, the lowest byte first (ELF header, e_ident[EI_DATA] = ELFDATA2LSB)
abbrev pub word : ℕ → List ℕ
word v = bytes_of 4 v

-- a 16-bit field
abbrev pub half : ℕ → List ℕ
half v = bytes_of 2 v

-- p_type PT_LOAD, p_offset, p_vaddr, p_paddr, p_filesz, p_memsz, p_flags and p_align, before what comes after them (Program header)
abbrev pub program_header : ℕ → Segment → List ℕ → List ℕ
program_header at s rest =
    word 1 ++ (word (offset_of at s) ++ (word s.start ++ (word s.start
    ++ (word (length s.bytes) ++ (word s.size ++ (word (flags_of_perms s.perms) ++ (word 4096 ++ rest)))))))

-- the program headers, before what comes after them
abbrev pub program_headers : ℕ → List Segment → List ℕ → List ℕ
program_headers at [] rest = rest
program_headers at (s ∷ ss) rest = program_header at s (program_headers (end_after at s) ss rest)

-- the bytes of the segments, each behind its padding
abbrev pub pieces : ℕ → List Segment → List ℕ
pieces at [] = []
pieces at (s ∷ ss) = piece_of at s ++ pieces (end_after at s) ss

-- e_ident, e_type ET_EXEC, e_machine EM_386, e_version, e_entry, e_phoff, e_shoff, e_flags, e_ehsize, e_phentsize, e_phnum
-- and no sections, before what comes after them (ELF header)
abbrev pub file_header : ℕ → ℕ → List ℕ → List ℕ
file_header count entry rest =
    0x7F ∷ 0x45 ∷ 0x4C ∷ 0x46 ∷ 1 ∷ 1 ∷ 1 ∷ 0 ∷ 0 ∷ 0 ∷ 0 ∷ 0 ∷ 0 ∷ 0 ∷ 0 ∷ 0
    ∷ (half 2 ++ (half 3 ++ (word 1 ++ (word entry ++ (word 52 ++ (word 0 ++ (word 0
    ++ (half 52 ++ (half 32 ++ (half count ++ (half 0 ++ (half 0 ++ (half 0 ++ rest)))))))))))))

-- how long the headers are: 52 bytes, and 32 for each segment
abbrev pub head_length : List Segment → ℕ
head_length segments = 52 + 32 * length segments

-- the file: ELF header, program headers, bytes
unfoldable pub file_of : List Segment → ℕ → List ℕ
file_of segments entry =
    let start = head_length segments in
    file_header (length segments) entry (program_headers start segments (pieces start segments))

-- of what a file may be written
pub record IsWritable (segments : List Segment) (entry : ℕ) : Type 0 where
  pub count : length segments ≤ GUEST_SEGMENT_LIMIT
  pub each : AreSegments GUEST_LOWEST segments
  pub order : Ascend 0 segments
  pub entry_small : entry < 2 ^ 32
  pub entry_held : is_exec entry segments ≡ true
  pub memory : sizes segments ≤ GUEST_MEMORY_LIMIT

-- what is written reads, as a guest, as the same segments and entry
abbrev pub ReadsBack : Type 0
ReadsBack =
    (segments : List Segment) (entry : ℕ)
    → IsWritable segments entry
    → elf Guest (file_of segments entry) ≡ Ok (exe_of entry segments)
