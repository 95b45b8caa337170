-- ELF files: which are accepted, and what an accepted file says (System V ABI, chapters 4 and 5: ELF header, program header).
use Rattle.std.specs.Prelude.{◌≡◌, ℕ, zero, suc, ◌+◌, ◌-◌, ◌*◌, ◌/◌, ◌%◌, ◌≤◌, ◌<◌, Bool, true, false, not, ◌&&◌, ◌||◌, nat_eq, nat_lt, nat_le, if◌then◌else◌, List, [], ◌∷◌, length, take, drop, map, filter, get_or, Option, Some, None, Result, Ok, Err}
use Rattle.br_word.specs.declared.types.Perms.{Perms}
use Rattle.elf_read.specs.declared.header.Header.{Header}
use Rattle.elf_read.specs.declared.limits.TheConstants.{ORIGINAL_LOWEST, GUEST_LOWEST, HIGHEST_END, ORIGINAL_SEGMENT_LIMIT, GUEST_SEGMENT_LIMIT, ORIGINAL_MEMORY_LIMIT, GUEST_MEMORY_LIMIT}
use Rattle.elf_read.specs.declared.exe.Segment.{Segment}
use Rattle.elf_read.specs.declared.exe.Exe.{Exe}
use Rattle.elf_read.specs.declared.exe.Reach.{Reach}
use Rattle.elf_read.specs.declared.exe.Reach.TheVariants.{Original, Guest}
use Rattle.br_word.specs.Memory.{number_of}

-- the lowest address that a segment may have (p_vaddr)
abbrev pub lowest : Reach → ℕ
lowest Original = ORIGINAL_LOWEST
lowest Guest = GUEST_LOWEST

-- how many segments there may be
abbrev pub most_segments : Reach → ℕ
most_segments Original = ORIGINAL_SEGMENT_LIMIT
most_segments Guest = GUEST_SEGMENT_LIMIT

-- how many bytes all segments may have in memory, together
abbrev pub most_memory : Reach → ℕ
most_memory Original = ORIGINAL_MEMORY_LIMIT
most_memory Guest = GUEST_MEMORY_LIMIT

-- the number of so many bytes at an offset, the lowest byte first (ELF header, e_ident[EI_DATA] = ELFDATA2LSB)
abbrev pub field : ℕ → ℕ → List ℕ → ℕ
field n at bytes = number_of (take n (drop at bytes))

-- the program header with which the bytes begin (Program header: p_type, p_offset, p_vaddr, p_filesz, p_memsz, p_flags)
abbrev pub header_at : ℕ → List ℕ → Header
header_at place bytes = record {
  place = place;
  kind = field 4 0 bytes;
  offset = field 4 4 bytes;
  vaddr = field 4 8 bytes;
  filesz = field 4 16 bytes;
  memsz = field 4 20 bytes;
  flags = field 4 24 bytes;
}

-- so many program headers, the first at this place
abbrev pub headers : ℕ → ℕ → List ℕ → List Header
headers zero place bytes = []
headers (suc n) place bytes = header_at place bytes ∷ headers n (place + 32) (drop 32 bytes)

-- the program header table: e_phnum headers from e_phoff on (ELF header)
abbrev pub table_of : List ℕ → List Header
table_of bytes = headers (field 2 44 bytes) (field 4 28 bytes) (drop (field 4 28 bytes) bytes)

-- the permissions in p_flags: PF_X is 1, PF_W 2, PF_R 4 (Program header, segment permissions)
abbrev pub perms_of : ℕ → Perms
perms_of flags = record {
  read = nat_eq (flags / 4 % 2) 1;
  write = nat_eq (flags / 2 % 2) 1;
  exec = nat_eq (flags % 2) 1;
}

-- type PT_LOAD, with memory (Program header, p_type and p_memsz)
abbrev pub is_loaded : Header → Bool
is_loaded h = nat_eq h.kind 1 && nat_lt 0 h.memsz

-- the loaded headers of a file, in the order of the table
abbrev pub loaded : List ℕ → List Header
loaded bytes = filter is_loaded (table_of bytes)

-- the place of the first header that a test takes
abbrev pub first_where : (Header → Bool) → List Header → Option ℕ
first_where p [] = None
first_where p (h ∷ hs) = if p h then Some h.place else first_where p hs

-- a place where a test holds, and elsewhere another answer
abbrev pub place_if : Bool → ℕ → Option ℕ → Option ℕ
place_if b place other = if b then Some place else other

-- type PT_DYNAMIC, PT_INTERP or PT_TLS: what needs a loader of its own (Program header, p_type)
abbrev pub is_other_kind : Header → Bool
is_other_kind h = nat_eq h.kind 2 || (nat_eq h.kind 3 || nat_eq h.kind 7)

-- writable and executable at once
abbrev pub writes_code : Header → Bool
writes_code h = (perms_of h.flags).write && (perms_of h.flags).exec

-- below the lowest address, past the highest, or with bytes past the end of the file
abbrev pub is_outside : Reach → ℕ → Header → Bool
is_outside reach file_length h =
    nat_lt h.vaddr (lowest reach)
    || (nat_lt HIGHEST_END (h.vaddr + h.memsz)
    || (nat_lt 0 h.filesz && nat_lt file_length (h.offset + h.filesz)))

-- the first header that starts below the end of the one before it
abbrev pub first_below : ℕ → List Header → Option ℕ
first_below end [] = None
first_below end (h ∷ hs) = if nat_lt h.vaddr end then Some h.place else first_below (h.vaddr + h.memsz) hs

-- an executable header holds the entry (ELF header, e_entry)
abbrev pub holds_entry : ℕ → List Header → Bool
holds_entry entry [] = false
holds_entry entry (h ∷ hs) =
    ((perms_of h.flags).exec && (nat_le h.vaddr entry && nat_lt entry (h.vaddr + h.memsz)))
    || holds_entry entry hs

-- more bytes in the file than in memory (Program header, p_filesz and p_memsz)
abbrev pub has_more_bytes : Header → Bool
has_more_bytes h = nat_eq h.kind 1 && nat_lt h.memsz h.filesz

-- the first header past so many, or past so much memory
abbrev pub first_past : ℕ → ℕ → List Header → Option ℕ
first_past count room [] = None
first_past count room (h ∷ hs) =
    if nat_eq count 0 || nat_lt room h.memsz then Some h.place else first_past (count - 1) (room - h.memsz) hs

-- the place of a byte that is not this value, and elsewhere another answer
abbrev pub wrong_byte : ℕ → ℕ → List ℕ → Option ℕ → Option ℕ
wrong_byte at value bytes other = place_if (not (nat_eq (get_or bytes at 0) value)) at other

-- the place of a field that is not this value, and elsewhere another answer
abbrev pub wrong_field : ℕ → ℕ → ℕ → List ℕ → Option ℕ → Option ℕ
wrong_field n at value bytes other = place_if (not (nat_eq (field n at bytes) value)) at other

-- fewer bytes than the ELF header has
abbrev pub short_file : List ℕ → Option ℕ
short_file bytes = place_if (nat_lt (length bytes) 52) (length bytes) None

-- e_ident[EI_MAG0] to e_ident[EI_MAG3]: 0x7F, 'E', 'L', 'F' (ELF Identification)
abbrev pub wrong_magic : List ℕ → Option ℕ
wrong_magic bytes = wrong_byte 0 0x7F bytes (wrong_byte 1 0x45 bytes (wrong_byte 2 0x4C bytes (wrong_byte 3 0x46 bytes None)))

-- ELFCLASS32, ELFDATA2LSB and EV_CURRENT in e_ident, and e_version (ELF Identification, ELF header)
abbrev pub wrong_version : List ℕ → Option ℕ
wrong_version bytes = wrong_byte 4 1 bytes (wrong_byte 5 1 bytes (wrong_byte 6 1 bytes (wrong_field 4 20 1 bytes None)))

-- e_ehsize, e_phentsize, and a table that lies in the file (ELF header)
abbrev pub wrong_table : List ℕ → Option ℕ
wrong_table bytes =
    wrong_field 2 40 52 bytes
    (wrong_field 2 42 32 bytes
    (place_if (nat_lt (length bytes) (field 4 28 bytes + 32 * field 2 44 bytes)) 28 None))

-- the refusals for the program headers, in the order of their numbers, from 7
abbrev pub table_refusals : Reach → List ℕ → List (Option ℕ)
table_refusals reach bytes =
    first_where is_other_kind (table_of bytes)
    ∷ first_where writes_code (loaded bytes)
    ∷ first_where (is_outside reach (length bytes)) (loaded bytes)
    ∷ first_below 0 (loaded bytes)
    ∷ place_if (not (holds_entry (field 4 24 bytes) (loaded bytes))) 24 None
    ∷ first_where has_more_bytes (table_of bytes)
    ∷ first_past (most_segments reach) (most_memory reach) (loaded bytes)
    ∷ []

-- the refusals in the order of their numbers, from 1; the fourth and fifth are e_type (ET_EXEC) and e_machine (EM_386)
abbrev pub refusals : Reach → List ℕ → List (Option ℕ)
refusals reach bytes =
    short_file bytes
    ∷ wrong_magic bytes
    ∷ wrong_version bytes
    ∷ wrong_field 2 16 2 bytes None
    ∷ wrong_field 2 18 3 bytes None
    ∷ wrong_table bytes
    ∷ table_refusals reach bytes

-- a refusal: its number, from 1 to 13, and its place in the file
pub record Refused : Type 0 where
  pub number : ℕ
  pub place : ℕ

-- the first refusal that holds, where the first of the list has this number
abbrev pub first_refused : ℕ → List (Option ℕ) → Option Refused
first_refused n [] = None
first_refused n (None ∷ rest) = first_refused (n + 1) rest
first_refused n (Some place ∷ rest) = Some (record { number = n; place = place })

-- the segment of a loaded header
abbrev pub segment_of : List ℕ → Header → Segment
segment_of bytes h = record {
  start = h.vaddr;
  size = h.memsz;
  perms = perms_of h.flags;
  bytes = take h.filesz (drop h.offset bytes);
}

-- where the last segment ends
abbrev pub end_of_last : List Segment → ℕ
end_of_last [] = 0
end_of_last (s ∷ []) = s.start + s.size
end_of_last (s ∷ t ∷ rest) = end_of_last (t ∷ rest)

-- up to the next page of 4096 bytes
abbrev pub round_up : ℕ → ℕ
round_up x = (x + 4095) / 4096 * 4096

-- an executable of these segments; its heap begins at the page behind the last
abbrev pub exe_of : ℕ → List Segment → Exe
exe_of entry segments = record { entry = entry; segments = segments; brk_start = round_up (end_of_last segments) }

-- the executable, or the refusal
abbrev pub unless_refused : Option Refused → Exe → Result Exe Refused
unless_refused None exe = Ok exe
unless_refused (Some r) exe = Err r

-- what a file says, or its first refusal
unfoldable pub elf : Reach → List ℕ → Result Exe Refused
elf reach bytes =
    unless_refused (first_refused 1 (refusals reach bytes)) (exe_of (field 4 24 bytes) (map (segment_of bytes) (loaded bytes)))

-- ---- what is known of the fields of an executable that was read

-- a segment that a file may have, from this address up
pub record IsSegment (lowest : ℕ) (s : Segment) : Type 0 where
  pub low : lowest ≤ s.start
  pub high : s.start + s.size ≤ HIGHEST_END
  pub some : 0 < s.size
  pub bytes : length s.bytes ≤ s.size
  pub perms : (s.perms.write && s.perms.exec) ≡ false

-- each of them is such a segment
abbrev pub AreSegments : ℕ → List Segment → Type 0
AreSegments low [] = Unit {0}
AreSegments low (s ∷ ss) = IsSegment low s × AreSegments low ss

-- each segment starts at or above the end of the one before it
abbrev pub Ascend : ℕ → List Segment → Type 0
Ascend end [] = Unit {0}
Ascend end (s ∷ ss) = (end ≤ s.start) × Ascend (s.start + s.size) ss

-- an address lies in a segment's memory
abbrev pub in_segment : ℕ → Segment → Bool
in_segment at s = nat_le s.start at && nat_lt at (s.start + s.size)

-- an address lies in an executable segment
abbrev pub is_exec : ℕ → List Segment → Bool
is_exec at [] = false
is_exec at (s ∷ ss) = (s.perms.exec && in_segment at s) || is_exec at ss

-- how many bytes all segments have in memory
abbrev pub sizes : List Segment → ℕ
sizes [] = 0
sizes (s ∷ ss) = s.size + sizes ss

-- an executable as an accepted file gives it
pub record IsExe (reach : Reach) (exe : Exe) : Type 0 where
  pub segments : AreSegments (lowest reach) exe.segments
  pub order : Ascend 0 exe.segments
  pub entry : is_exec exe.entry exe.segments ≡ true
  pub count : length exe.segments ≤ most_segments reach
  pub memory : sizes exe.segments ≤ most_memory reach
  pub brk : exe.brk_start ≡ round_up (end_of_last exe.segments)

-- one that is to be recompiled
abbrev pub IsOriginal : Exe → Type 0
IsOriginal exe = IsExe Original exe

-- one that is run
abbrev pub IsGuest : Exe → Type 0
IsGuest exe = IsExe Guest exe
