-- Which rows lead to which.
use Rattle.std.specs.Prelude.{◌≡◌, ℕ, ◌<◌, ◌⊎◌, List, [], length, get_or}
use Rattle.live_flow.specs.declared.row.LiveRow.{LiveRow}
use Rattle.live_flow.specs.Live.{ways, IsAmong}

-- place p is in the list of place i
abbrev pub HasLinks : List (List ℕ) → ℕ → ℕ → Type 0
HasLinks links i p = IsAmong (get_or links i []) p

-- the new lists are the old ones, with place p in those of these places
pub record AddsLinks (to : List ℕ) (p : ℕ) (old new : List (List ℕ)) : Type 0 where
  pub each : length new ≡ length old
  pub comes : (i q : ℕ) → HasLinks new i q → HasLinks old i q ⊎ ((q ≡ p) × IsAmong to i)
  pub stays : (i q : ℕ) → HasLinks old i q → HasLinks new i q
  pub added : (i : ℕ) → i < length old → IsAmong to i → HasLinks new i p

-- for each row the rows before place n that lead to it
pub record LinksBelow (rows : List LiveRow) (n : ℕ) (links : List (List ℕ)) : Type 0 where
  pub each : length links ≡ length rows
  pub sound : (i p : ℕ) → HasLinks links i p → (p < n) × IsAmong (ways rows p) i
  pub complete : (i p : ℕ) → i < length rows → p < n → IsAmong (ways rows p) i → HasLinks links i p

abbrev pub AreLinks : List LiveRow → List (List ℕ) → Type 0
AreLinks rows links = LinksBelow rows (length rows) links
