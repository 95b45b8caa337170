-- The pairs of a shelf in memory, as a map from names to bytes: the first pair of a name counts.
use Rattle.std.specs.Prelude.{◌≡◌, ◌<◌, ◌≤◌, Result, Ok, Err, ℕ, List, [], ◌∷◌, length, take}
use Rattle.std.specs.Prelude.{Option, Some, None, cond, string_bytes, String, Vec}
use Rattle.std.specs.List.{HoldsAt}
use Rattle.std.specs.Str.{bytes_eq}
use Rattle.br_outside.specs.declared.errors.ShelfError.{ShelfError}
use Rattle.br_outside.specs.declared.errors.ShelfError.TheVariants as shelf_errors

-- what each name holds
abbrev pub Files : Type 0
Files = List ℕ → Option (List ℕ)

-- the files with this content under the name, and all others as they are
abbrev pub put : List ℕ → Option (List ℕ) → Files → Files
put name content files q = cond (bytes_eq name q) content (files q)

-- what the pairs hold under each name
abbrev pub found : {A B : Type 0} → List (String A × Vec ℕ B) → Files
found [] q = None
found (pair ∷ pairs) q = cond (bytes_eq (string_bytes pair.0) q) (Some (pair.1).items) (found pairs q)

-- the pair at this place is the first of the name
pub record IsFirst {A B : Type 0} (name : List ℕ) (pairs : List (String A × Vec ℕ B)) (place : ℕ) : Type 0 where
  pub none_before : found (take place pairs) name ≡ None
  pub here : HoldsAt (λ pair. string_bytes pair.0 ≡ name) pairs place

-- the answer is the content of the name, or says why not
abbrev pub Reads : List ℕ → ℕ → Files → Result (List ℕ) ShelfError → Type 0
Reads name limit files (Ok bytes) = (files name ≡ Some bytes) × (length bytes ≤ limit)
Reads name limit files (Err shelf_errors.Failed) = files name ≡ None
Reads name limit files (Err shelf_errors.TooLong) = (bytes : List ℕ) × (files name ≡ Some bytes) × (limit < length bytes)
Reads name limit files (Err shelf_errors.Memory) = (bytes : List ℕ) × (files name ≡ Some bytes) × (length bytes ≤ limit)
