-- The demonstration as an executable.
use Rattle.std.specs.Prelude.{◌≡◌, ℕ, ◌+◌, ◌≤◌, true, false, [], ◌∷◌, Ok}
use Rattle.br_word.specs.Memory.{AreBytes}
use Rattle.elf_read.specs.declared.exe.Segment.{Segment}
use Rattle.elf_read.specs.declared.exe.Exe.{Exe}
use Rattle.elf_read.specs.declared.exe.Reach.TheVariants.{Original, Guest}
use Rattle.elf_read.specs.Elf.{elf, round_up}
use Rattle.elf_flat.specs.Flat.{flat_start, flat_entry}
use Rattle.demo_gen.specs.Demonstration.{demo_length, demo_file}

-- its one segment, read and executed, is the whole file
abbrev pub demo_segment : ℕ → Segment
demo_segment count = record {
  start = flat_start;
  size = demo_length count;
  perms = record { read = true; write = false; exec = true };
  bytes = demo_file count;
}

-- it begins behind its headers; the heap begins at the page behind the segment
abbrev pub demo_of : ℕ → Exe
demo_of count = record {
  entry = flat_entry;
  segments = demo_segment count ∷ [];
  brk_start = round_up (flat_start + demo_length count);
}

-- the file is accepted, as an original and as a guest, and is of bytes
pub record IsDemoAccepted (count : ℕ) : Type 0 where
  pub original : elf Original (demo_file count) ≡ Ok (demo_of count)
  pub guest : elf Guest (demo_file count) ≡ Ok (demo_of count)
  pub bytes : AreBytes (demo_file count)

-- with any number of functions from 1 to 1000
abbrev pub DemoAccepted : Type 0
DemoAccepted = (count : ℕ) → 1 ≤ count → count ≤ 1000 → IsDemoAccepted count
