-- The file of an original and recovered code can be written.
use Rattle.std.proofs.Common.{ℕ, ◌+◌, ◌<◌, ◌≤◌, ◌≡◌, nat_lt, ◌||◌, true, List, length, refl, arith, lit<, lit≤}
use Rattle.elf_read.specs.declared.exe.Exe.{Exe}
use Rattle.std.proofs.lemmas.Bool.{lt-ltb}
use Rattle.elf_read.specs.Elf.{IsOriginal, is_exec}
use Rattle.elf_read.proofs.Accepted.{lower, ascend_from}
use Rattle.elf_write.specs.File.{IsWritable}
use Rattle.code_layout.specs.declared.place.TheConstants.{CODE_START, MAX_CODE}
use Rattle.code_layout.specs.Image.{segments_with}

pub writable : (exe : Exe) (code : List ℕ) → IsOriginal exe → 0 < length code → length code ≤ MAX_CODE → IsWritable (segments_with exe code) CODE_START
writable exe code a some short =
    let c = a.count in
    let m = a.memory in
    record {
      count = omega arith;
      each = (
        record { low = lit≤ tt; high = omega arith; some = some; bytes = omega arith; perms = refl },
        (record { low = lit≤ tt; high = lit≤ tt; some = lit< tt; bytes = lit≤ tt; perms = refl }, lower 0x01000000 0x08000000 exe.segments (lit≤ tt) a.segments),
      );
      order = (lit≤ tt, (omega arith, ascend_from (0x07000000 + 65536) 0x08000000 exe.segments (lit≤ tt) a.segments a.order));
      entry_small = lit< tt;
      entry_held = held (CODE_START + length code) (omega arith);
      memory = omega arith;
    }
  where
    held : (end : ℕ) → CODE_START < end → (nat_lt CODE_START end || is_exec CODE_START exe.segments) ≡ true
    held end l = rw (lt-ltb CODE_START end l) refl
