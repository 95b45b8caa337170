-- What a region and a memory lend.
use Rattle.std.specs.Prelude.{ℕ, List}
use Rattle.std.specs.Borrow.{Lends, MutBor, Fml, Array, u8}
use Rattle.br_word.specs.Memory.{Region}
use Rattle.guest_mem.specs.View.{MemoryView}
use Rattle.guest_mem.specs.Pieces.{put_piece, with_piece}
use Rattle.guest_mem.specs.contracts.area.Area.{the_row}
use Rattle.guest_mem.specs.contracts.memory.Memory.{the_row as memory_row}

-- a region ends with the last value behind r over its bytes from an address
abbrev pub LendsPiece : MutBor Region → ℕ → MutBor (List ℕ) → Fml
LendsPiece a at r = Lends the_row (Array u8 0) a r (λ w. put_piece at w a.now)

-- the same of a memory
abbrev pub LendsMemory : MutBor MemoryView → ℕ → ℕ → MutBor (List ℕ) → Fml
LendsMemory m at len r = Lends memory_row (Array u8 0) m r (with_piece at len m.now)
