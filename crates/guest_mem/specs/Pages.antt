-- Pages: the bytes of a region, cut at the multiples of 4096.
use Rattle.std.specs.Prelude.{◌≡◌, ◌<◌, ◌≤◌, ◌+◌, ◌*◌, ℕ, suc, zero, List, [], ◌∷◌, ◌++◌, length}
use Rattle.guest_mem.specs.declared.area.Page.{Page}

-- the bytes of pages that follow one another
abbrev pub joined : List Page → List ℕ
joined [] = []
joined (p ∷ ps) = p.bytes.items ++ joined ps

-- a page has a byte, room for so many, and is full where others follow it
abbrev pub IsPage : ℕ → Page → List Page → Type 0
IsPage room p [] = (0 < length p.bytes.items) × (length p.bytes.items ≤ room)
IsPage room p (q ∷ qs) = length p.bytes.items ≡ room

-- the first page has room up to a multiple of 4096, each other for 4096 bytes
abbrev pub ArePages : ℕ → List Page → Type 0
ArePages room [] = Unit {0}
ArePages room (p ∷ ps) = IsPage room p ps × ArePages 4096 ps

-- the offset at which the page of a number begins
abbrev pub page_begin : ℕ → ℕ → ℕ
page_begin room zero = 0
page_begin room (suc j) = room + j * 4096

-- the room of that page
abbrev pub page_room : ℕ → ℕ → ℕ
page_room room zero = room
page_room room (suc j) = 4096
