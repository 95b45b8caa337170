-- Pieces of memory that are lent: each lies in one page.
use Rattle.std.specs.Prelude.{ℕ, ◌+◌, ◌-◌, ◌%◌, nat_le, min, if◌then◌else◌, List, [], ◌∷◌, length, take}
use Rattle.br_word.specs.Memory.{Region, Writes, put_over}
use Rattle.guest_mem.specs.Layout.{is_usable}
use Rattle.guest_mem.specs.View.{MemoryView}

-- as many of len bytes at an address as lie in its page
abbrev pub piece_size : ℕ → ℕ → ℕ
piece_size at len = min len (4096 - at % 4096)

-- the bytes at an address, where they lie in one page, and else none
abbrev pub in_page : ℕ → List ℕ → List ℕ
in_page at bytes = if nat_le (at % 4096 + length bytes) 4096 then bytes else []

-- the bytes of a region from an address to the end of its page
abbrev pub page_rest : ℕ → Region → ℕ
page_rest at r = piece_size at (length r.bytes - (at - r.start))

-- a region with w put over the bytes from an address, cut at the end of their page
abbrev pub put_piece : ℕ → List ℕ → Region → Region
put_piece at w r = record r { bytes = put_over r.bytes (at - r.start) (take (page_rest at r) w) }

-- the same in the region where len bytes may be written
unfoldable pub put_pieces : ℕ → ℕ → List ℕ → List Region → List Region
put_pieces at len w [] = []
put_pieces at len w (r ∷ rs) = if is_usable Writes at len r then put_piece at w r ∷ rs else r ∷ put_pieces at len w rs

-- a memory in which w was left in the piece of len bytes that was lent at an address
abbrev pub with_piece : ℕ → ℕ → MemoryView → List ℕ → MemoryView
with_piece at len m w = record m { regions = put_pieces at len w m.regions }
