-- Each original is a guest too.
use Rattle.std.proofs.Common.{ℕ, ◌≤◌, List, [], ◌∷◌, arith, lit≤}
use Rattle.elf_read.specs.Elf.{AreSegments, IsOriginal, IsGuest}
use Rattle.elf_read.specs.declared.exe.Exe.{Exe}
use Rattle.elf_read.specs.declared.exe.Segment.{Segment}
use Rattle.elf_read.specs.declared.limits.TheConstants.{ORIGINAL_LOWEST, GUEST_LOWEST}

lower : (low high : ℕ) (ss : List Segment) → low ≤ high → AreSegments high ss → AreSegments low ss
lower low high [] le h = tt
lower low high (s ∷ ss) le h =
    let l = h.0.low in
    (record { low = omega arith; high = h.0.high; some = h.0.some; bytes = h.0.bytes; perms = h.0.perms }, lower low high ss le h.1)

no_more : (a b c : ℕ) → a ≤ b → b ≤ c → a ≤ c
no_more a b c h k = omega arith

pub original_is_guest : (exe : Exe) → IsOriginal exe → IsGuest exe
original_is_guest exe h = record {
  segments = lower GUEST_LOWEST ORIGINAL_LOWEST exe.segments (lit≤ tt) h.segments;
  order = h.order;
  entry = h.entry;
  count = no_more _ _ _ h.count (lit≤ tt);
  memory = no_more _ _ _ h.memory (lit≤ tt);
  brk = h.brk;
}
