-- A flat file: one segment, read and executed, which is the whole file, headers and all (System V ABI, chapters 4 and 5: ELF header,
-- program header).
use Rattle.std.specs.Prelude.{◌≡◌, ℕ, ◌+◌, ◌≤◌, ◌<◌, true, false, List, [], ◌∷◌, ◌++◌, length, drop, Ok}
use Rattle.br_word.specs.Memory.{AreBytes}
use Rattle.elf_read.specs.declared.exe.Segment.{Segment}
use Rattle.elf_read.specs.declared.exe.Exe.{Exe}
use Rattle.elf_read.specs.declared.exe.Reach.{Reach}
use Rattle.elf_read.specs.declared.limits.TheConstants.{ORIGINAL_MEMORY_LIMIT}
use Rattle.elf_read.specs.Elf.{is_exec, round_up, elf}
use Rattle.elf_read.specs.Code.{code_at}
use Rattle.elf_write.specs.File.{word, file_header}

-- where the file lies in memory, and where it begins to run: behind its headers
abbrev pub flat_start : ℕ
flat_start = 0x08048000

abbrev pub flat_entry : ℕ
flat_entry = 0x08048054

-- the program header of a file of this length: PT_LOAD, from its first byte on, as long in memory, PF_R and PF_X, pages of 4096
abbrev pub flat_header : ℕ → List ℕ
flat_header size =
    word 1 ++ (word 0 ++ (word flat_start ++ (word flat_start ++ (word size ++ (word size ++ (word 5 ++ word 4096))))))

-- the headers of a file of this length, 84 bytes, and what comes after them
abbrev pub headed : ℕ → List ℕ → List ℕ
headed size rest = file_header 1 flat_entry (flat_header size ++ rest)

-- how long the file of so much code is
abbrev pub flat_length : List ℕ → ℕ
flat_length code = 84 + length code

-- the file of some code
unfoldable pub flat_file : List ℕ → List ℕ
flat_file code = headed (flat_length code) code

-- ---- what it is read as

-- its one segment is the whole file
abbrev pub flat_segment : List ℕ → Segment
flat_segment code = record {
  start = flat_start;
  size = flat_length code;
  perms = record { read = true; write = false; exec = true };
  bytes = flat_file code;
}

-- it begins behind its headers; the heap begins at the page behind the segment
abbrev pub flat_exe : List ℕ → Exe
flat_exe code = record {
  entry = flat_entry;
  segments = flat_segment code ∷ [];
  brk_start = round_up (flat_start + flat_length code);
}

-- the file is of bytes, and accepted as an original and as a guest; the code stands from the entry on
pub record IsFlatAccepted (code : List ℕ) : Type 0 where
  pub bytes : AreBytes (flat_file code)
  pub long : length (flat_file code) ≡ flat_length code
  pub reads : (reach : Reach) → elf reach (flat_file code) ≡ Ok (flat_exe code)
  pub runs : (off : ℕ) → off < length code → is_exec (flat_entry + off) (flat_exe code).segments ≡ true
  pub stands : (off : ℕ) → off < length code → code_at (flat_entry + off) (flat_exe code).segments ≡ drop off code

-- for any code that the memory of an original has room for
abbrev pub FlatAccepted : Type 0
FlatAccepted = (code : List ℕ) → AreBytes code → 0 < length code → flat_length code ≤ ORIGINAL_MEMORY_LIMIT → IsFlatAccepted code
