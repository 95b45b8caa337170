-- Pairs whose addresses ascend: where an address lies.
use Rattle.std.proofs.Common.{◌≡◌, ℕ, zero, suc, ◌<◌, ◌≤◌, Bool, true, false, List, [], ◌∷◌, length, map, get_or, refl, ◌∙◌, inl, inr, arith}
use Rattle.std.specs.Prelude.{◌==◌, if◌then◌else◌}
use Rattle.std.proofs.lemmas.Bool.{cases_lt}
use Rattle.std.proofs.lemmas.Bool.Decides.{nat_tests}
use Rattle.std.proofs.lemmas.List.{get_or-map, length-map}
use Rattle.code_layout.specs.Places.{place_in, AddressesAscend}
use Rattle.code_layout.proofs.Found.{rise}

abbrev first : ℕ × ℕ → ℕ
first p = p.0

-- an address that is below another is no later one
pub no_later : (ps : List (ℕ × ℕ)) → AddressesAscend ps → (i j : ℕ) (d : ℕ × ℕ) → i ≤ j → j < length ps → (get_or ps i d).0 ≤ (get_or ps j d).0
no_later ps up i j d le l =
    let n = length-map ps first in
    omega (arith, rise (map first ps) i j up le (omega arith), get_or-map first ps i d 0 (omega arith), get_or-map first ps j d 0 l)

other : (p : ℕ × ℕ) (ps : List (ℕ × ℕ)) (y : ℕ) (b : Bool) → (p.0 == y) ≡ b → (p.0 ≡ y → ⊥) → (if b then p.1 else place_in ps y) ≡ place_in ps y
other p ps y true e n = absurd (n (grind (arith, nat_tests)))
other p ps y false e n = refl

same : (p : ℕ × ℕ) (ps : List (ℕ × ℕ)) (y : ℕ) (b : Bool) → (p.0 == y) ≡ b → p.0 ≡ y → (if b then p.1 else place_in ps y) ≡ p.1
same p ps y true e s = refl
same p ps y false e s = absurd (grind (arith, nat_tests))

-- at the pair of an index, where no pair before it has the address
pub place_here : (ps : List (ℕ × ℕ)) (i : ℕ) (d : ℕ × ℕ) (y : ℕ) → i < length ps → ((k : ℕ) → k < i → (get_or ps k d).0 < y) → (get_or ps i d).0 ≡ y → place_in ps y ≡ (get_or ps i d).1
place_here [] i d y l below e = absurd (omega arith)
place_here (p ∷ ps) zero d y l below e = same p ps y (p.0 == y) refl e
place_here (p ∷ ps) (suc i) d y l below e =
    other p ps y (p.0 == y) refl (λ s. let b = below 0 (omega arith) in absurd (omega arith))
    ∙ place_here ps i d y (omega arith) (λ k h. below (suc k) (omega arith)) e

-- and at itself, where no pair has it
pub place_none : (ps : List (ℕ × ℕ)) (d : ℕ × ℕ) (y : ℕ) → ((k : ℕ) → k < length ps → (get_or ps k d).0 ≡ y → ⊥) → place_in ps y ≡ y
place_none [] d y none = refl
place_none (p ∷ ps) d y none = other p ps y (p.0 == y) refl (none 0 (omega arith)) ∙ place_none ps d y (λ k l. none (suc k) (omega arith))

-- none has it where those before an index are below it, and that of the index, if there is one, is above
pub none_there : (ps : List (ℕ × ℕ)) (i : ℕ) (d : ℕ × ℕ) (y : ℕ) → AddressesAscend ps → ((k : ℕ) → k < i → (get_or ps k d).0 < y) → (i < length ps → y < (get_or ps i d).0) → place_in ps y ≡ y
none_there ps i d y up below above = place_none ps d y (λ k l e.
    elim (cases_lt k i) as (λ _. ⊥) [
      | inl lt ↦ omega (arith, below k lt, e)
      | inr ge ↦ omega (arith, above (omega arith), e, no_later ps up i k d ge l)
    ])
