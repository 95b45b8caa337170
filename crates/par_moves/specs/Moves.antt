-- Parallel moves: the order in which they are done one after another, and what they do.
use Rattle.std.specs.Prelude.{◌≡◌, ℕ, zero, suc, Bool, false, not, ◌||◌, cond, List, [], ◌∷◌, ◌++◌, length, Option, Some, None, map, filter, find, All, ◌<◌, slice_index_or}
use Rattle.std.specs.List.{list_all}
use Rattle.par_moves.specs.declared.locations.Place.{Place}
use Rattle.par_moves.specs.declared.locations.MoveSource.TheVariants.{Place as Of}
use Rattle.par_moves.specs.declared.locations.PlaceMove.{PlaceMove}
use Rattle.par_moves.specs.Locations.{same_place, spare, is_from, held}

-- ---- the order

-- no other pending move reads the destination
abbrev pub is_ready : List PlaceMove → PlaceMove → Bool
is_ready pending m = list_all (λ x. same_place x.to m.to || not (is_from x.from m.to)) pending

-- the pending moves to other destinations
abbrev pub others : PlaceMove → List PlaceMove → List PlaceMove
others m pending = filter (λ x. not (same_place x.to m.to)) pending

-- a move that read the place reads the spare
abbrev pub redirect : Place → PlaceMove → PlaceMove
redirect p m = record { to = m.to; from = cond (is_from m.from p) (Of spare) m.from }

pub record Turn : Type 0 where
  pub done : List PlaceMove
  pub left : List PlaceMove

-- takes the ready move; where there is none, saves the first destination in the spare, and takes the first move
abbrev pub turn_of : PlaceMove → List PlaceMove → Option PlaceMove → Turn
turn_of m ms (Some r) = record { done = r ∷ []; left = others r (m ∷ ms) }
turn_of m ms None = record { done = record { to = spare; from = Of m.to } ∷ redirect m.to m ∷ []; left = map (redirect m.to) ms }

unfoldable pub sequenced : ℕ → List PlaceMove → List PlaceMove
sequenced zero ms = []
sequenced (suc n) [] = []
sequenced (suc n) (m ∷ ms) = let t = turn_of m ms (find (is_ready (m ∷ ms)) (m ∷ ms)) in t.done ++ sequenced n t.left

-- ---- what moves do

-- what each location holds
abbrev pub Cells : Type 0
Cells = Place → ℕ

abbrev pub put : Cells → Place → ℕ → Cells
put s p v = λ q. cond (same_place p q) v (s q)

-- the moves, one after another
unfoldable pub done : List PlaceMove → Cells → Cells
done [] s = s
done (m ∷ ms) s = done ms (put s m.to (held s m.from))

-- the moves one after another have the effect of the given ones at once
pub record ActAtOnce (moves list : List PlaceMove) : Type 0 where
  pub moved : (s : Cells) → All (λ m. done list s m.to ≡ held s m.from) moves
  pub kept : (s : Cells) (q : Place) → All (λ m. same_place m.to q ≡ false) moves → same_place spare q ≡ false
      → done list s q ≡ s q

-- distinct destinations, and none of them the spare
abbrev pub AreApart : List PlaceMove → Type 0
AreApart moves = (i j : ℕ) (d e : PlaceMove) → i < j → j < length moves
    → same_place (slice_index_or moves i d).to (slice_index_or moves j e).to ≡ false
