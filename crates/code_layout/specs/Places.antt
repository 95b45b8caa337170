-- Where addresses of the original lie, of which some have copies elsewhere.
use Rattle.std.specs.Prelude.{ℕ, ◌==◌, if◌then◌else◌, List, [], ◌∷◌, map}
use Rattle.std.specs.List.Sorted.{IsStrictlyIncreasing}

-- the place of an address: that of its pair, and itself where it has none
abbrev pub place_in : List (ℕ × ℕ) → ℕ → ℕ
place_in [] y = y
place_in (p ∷ ps) y = if p.0 == y then p.1 else place_in ps y

-- each address once, in order
abbrev pub AddressesAscend : List (ℕ × ℕ) → Type 0
AddressesAscend ps = IsStrictlyIncreasing (map (λ (p : ℕ × ℕ). p.0) ps)
