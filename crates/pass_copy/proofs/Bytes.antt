-- Memory of bytes, by recursion.
use Rattle.std.proofs.Common.{ℕ, ◌<◌, List, [], ◌∷◌}
use Rattle.std.proofs.lemmas.List.Elements.{All-head, All-tail}
use Rattle.br_word.specs.Memory.{Region, AreBytes, HoldBytes}

abbrev pub AllSmall : List ℕ → Type 0
AllSmall [] = Unit {0}
AllSmall (b ∷ bs) = (b < 256) × AllSmall bs

abbrev pub HoldsBytes : List Region → Type 0
HoldsBytes [] = Unit {0}
HoldsBytes (r ∷ rs) = AllSmall r.bytes × HoldsBytes rs

abbrev IsByte : ℕ → Type 0
IsByte b = b < 256

abbrev OfBytes : Region → Type 0
OfBytes r = AreBytes r.bytes

small_bytes : (bs : List ℕ) → AreBytes bs → AllSmall bs
small_bytes [] h = tt
small_bytes (b ∷ bs) h = (All-head IsByte b bs h, small_bytes bs (All-tail IsByte b bs h))

pub small_memory : (rs : List Region) → HoldBytes rs → HoldsBytes rs
small_memory [] h = tt
small_memory (r ∷ rs) h = (small_bytes r.bytes (All-head OfBytes r rs h), small_memory rs (All-tail OfBytes r rs h))
