-- What the memory of a guest is seen as, and what its calls do to it.
use Rattle.std.specs.Prelude.{ℕ, ◌+◌, ◌-◌, Bool, nat_le, ◌&&◌, if◌then◌else◌, List, [], map, take, Option, Some, None}
use Rattle.br_word.specs.Memory.{Region, resized}
use Rattle.guest_mem.specs.declared.memory.TheConstants.{HEAP_LIMIT, INSTRUCTION_LIMIT}

-- a memory is seen as its regions and its break
pub record MemoryView : Type 0 where
  pub regions : List Region
  -- where the heap starts and ends
  pub brk_start : ℕ
  pub brk : ℕ

-- the memory after a write, which is as before where the write is not allowed
abbrev pub with_regions : Option (List Region) → MemoryView → MemoryView
with_regions None m = m
with_regions (Some rs) m = record m { regions = rs }

-- what is fetched of the bytes from an address on
abbrev pub fetched : Option (List ℕ) → List ℕ
fetched None = []
fetched (Some bytes) = take INSTRUCTION_LIMIT bytes

-- the heap may end there
abbrev pub in_reach : ℕ → ℕ → Bool
in_reach start to = nat_le start to && nat_le to (start + HEAP_LIMIT)

-- the memory after the break is asked to move
abbrev pub with_break : ℕ → MemoryView → MemoryView
with_break to m =
    if in_reach m.brk_start to
    then record m { brk = to; regions = map (resized m.brk_start (to - m.brk_start)) m.regions }
    else m
