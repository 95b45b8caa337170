-- Pieces of code behind the fragments, before they are linked, and where they stand.
use Rattle.std.specs.Prelude.{ℕ, ◌+◌, ◌≤◌, nat_lt, if◌then◌else◌, List, [], ◌∷◌, map, All, length}
use Rattle.block_cut.specs.Transfers.{is_among}
use Rattle.block_make.specs.declared.fragment.Fix.{Fix}
use Rattle.block_make.specs.FragmentCode.{OpenCode, code_of_items}
use Rattle.code_layout.specs.Linked.{Fragment}
use Rattle.code_layout.specs.Layout.{Added}
use Rattle.code_layout.specs.Places.{place_in}

-- a piece before it is linked
abbrev pub opened : Fragment → Added
opened f = record { start = f.start; code = code_of_items f.items }

-- each fix of code lies in it
abbrev pub IsWithin : OpenCode → Type 0
IsWithin c = All (λ (f : Fix). f.at + 4 ≤ length c.bytes) c.fixes

-- ---- two lists of places

abbrev pub addresses_in : List (ℕ × ℕ) → List ℕ
addresses_in ps = map (λ (p : ℕ × ℕ). p.0) ps

-- by one list, where that has the address, and else by the other
abbrev pub either_place : List (ℕ × ℕ) → List (ℕ × ℕ) → ℕ → ℕ
either_place ps qs y = if is_among (addresses_in ps) y then place_in ps y else place_in qs y

-- both as one, at each place the pair with the lower address of the two that are next
abbrev pub join_step : (ℕ × ℕ) → (List (ℕ × ℕ) → List (ℕ × ℕ)) → List (ℕ × ℕ) → List (ℕ × ℕ)
join_step p rest [] = p ∷ rest []
join_step p rest (q ∷ qs) = if nat_lt q.0 p.0 then (q ∷ join_step p rest qs) else (p ∷ rest (q ∷ qs))

abbrev pub joined : List (ℕ × ℕ) → List (ℕ × ℕ) → List (ℕ × ℕ)
joined [] qs = qs
joined (p ∷ ps) qs = join_step p (joined ps) qs
