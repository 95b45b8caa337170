-- Where each virtual register lives between blocks: in its slot, but for those that live in a register of the processor.
use Rattle.std.specs.Prelude.{◌≡◌, ℕ, ◌<◌, ◌⊎◌, false, List, [], ◌∷◌, nat_eq, if◌then◌else◌}
use Rattle.par_moves.specs.declared.locations.Place.{Place}
use Rattle.par_moves.specs.declared.locations.Place.TheVariants.{Reg, Slot}
use Rattle.par_moves.specs.declared.homes.RegisterHome.{RegisterHome}

-- esp lives in ebp, eax in ebx and ebp in esi
abbrev pub register_homes : List RegisterHome
register_homes = record { register = 5; slot = 4 } ∷ record { register = 3; slot = 0 } ∷ record { register = 6; slot = 5 } ∷ []

-- the home of a virtual register, by such a list
abbrev pub home_in : List RegisterHome → ℕ → Place
home_in [] v = Slot v
home_in (h ∷ hs) v = if nat_eq h.slot v then Reg h.register else home_in hs v

abbrev pub home_of : ℕ → Place
home_of v = home_in register_homes v

-- none has this register, none this slot
abbrev pub NoRegister : ℕ → List RegisterHome → Type 0
NoRegister r [] = Unit {0}
NoRegister r (h ∷ hs) = (nat_eq r h.register ≡ false) × NoRegister r hs

abbrev pub NoSlot : ℕ → List RegisterHome → Type 0
NoSlot k [] = Unit {0}
NoSlot k (h ∷ hs) = (nat_eq h.slot k ≡ false) × NoSlot k hs

-- distinct registers among ebx, ebp and esi, and distinct slots below 8
abbrev pub AreHomes : List RegisterHome → Type 0
AreHomes [] = Unit {0}
AreHomes (h ∷ hs) =
    ((h.register ≡ 3) ⊎ ((h.register ≡ 5) ⊎ (h.register ≡ 6))) × (h.slot < 8) × NoRegister h.register hs × NoSlot h.slot hs × AreHomes hs
