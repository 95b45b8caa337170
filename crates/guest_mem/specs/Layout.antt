-- How the regions of a guest lie.
use Rattle.std.specs.Prelude.{◌≡◌, ◌⊎◌, ℕ, ◌+◌, ◌-◌, ◌^◌, ◌<◌, ◌≤◌, Bool, ◌&&◌, nat_eq, if◌then◌else◌, List, [], ◌∷◌, length, map}
use Rattle.br_word.specs.Memory.{Region, Use, allows, covers}
use Rattle.guest_mem.specs.declared.memory.TheConstants.{HEAP_LIMIT}

-- the access is to bytes of the region, and its permissions allow it
abbrev pub is_usable : Use → ℕ → ℕ → Region → Bool
is_usable how at n r = covers r at n && allows how r.perms

-- a region starts at this address exactly where it is the last
abbrev pub IsHeapLast : ℕ → List Region → Type 0
IsHeapLast start [] = Unit {0}
IsHeapLast start (r ∷ rs) = (nat_eq r.start start ≡ nat_eq (length rs) 0) × IsHeapLast start rs

-- a region that starts at this address has this size
abbrev pub HasSize : ℕ → ℕ → List Region → Type 0
HasSize start size [] = Unit {0}
HasSize start size (r ∷ rs) = (r.start ≡ start → length r.bytes ≡ size) × HasSize start size rs

-- the last region is the heap, which lies from its start to the break
pub record HasHeap (start brk : ℕ) (rs : List Region) : Type 0 where
  pub some : 0 < length rs
  pub last : IsHeapLast start rs
  pub size : HasSize start (brk - start) rs

-- ---- no address lies in two regions

-- addresses that follow one another: the first, and how many
abbrev pub Range : Type 0
Range = ℕ × ℕ

-- one of the two ends at or before the address with which the other begins
abbrev pub AreApart : Range → Range → Type 0
AreApart p q = (p.0 + p.1 ≤ q.0) ⊎ (q.0 + q.1 ≤ p.0)

-- a range is apart from each of the others
abbrev pub IsApartFrom : Range → List Range → Type 0
IsApartFrom p [] = Unit {0}
IsApartFrom p (q ∷ qs) = AreApart p q × IsApartFrom p qs

-- each two are apart, and all lie below 2^32
abbrev pub LieApart : List Range → Type 0
LieApart [] = Unit {0}
LieApart (p ∷ ps) = (p.0 + p.1 ≤ 2 ^ 32) × IsApartFrom p ps × LieApart ps

-- the addresses of a region
abbrev pub range : Region → Range
range r = (r.start, length r.bytes)

-- how many bytes a region may come to have: the heap, which starts at this address, as many as the break may rise, another those
-- that it has
abbrev pub extent : ℕ → Region → ℕ
extent start r = if nat_eq r.start start then HEAP_LIMIT else length r.bytes

-- the addresses that a region may come to have
abbrev pub reach : ℕ → Region → Range
reach start r = (r.start, extent start r)

-- none has more bytes than that
abbrev pub AreWithin : ℕ → List Region → Type 0
AreWithin start [] = Unit {0}
AreWithin start (r ∷ rs) = (length r.bytes ≤ extent start r) × AreWithin start rs

-- the regions lie apart, however far the heap grows
pub record HaveRoom (start : ℕ) (rs : List Region) : Type 0 where
  pub apart : LieApart (map (reach start) rs)
  pub fits : AreWithin start rs
