-- Distinct destinations, by a test.
use Rattle.std.proofs.Common.{◌≡◌, zero, suc, Bool, true, false, not, ◌&&◌, List, [], ◌∷◌, get_or, ap, ◌∙◌, arith, inl, inr}
use Rattle.std.specs.Prelude.{All}
use Rattle.std.proofs.lemmas.Bool.{and_parts, not-true}
use Rattle.par_moves.specs.declared.locations.Place.{Place}
use Rattle.par_moves.specs.declared.locations.PlaceMove.{PlaceMove}
use Rattle.par_moves.specs.Locations.{same_place, spare}
use Rattle.par_moves.specs.Moves.{AreApart}
use Rattle.par_moves.proofs.Membership.{In, at_index}
use Rattle.par_moves.proofs.AtOnce.{differ_sym}

-- no move goes to the place
abbrev pub is_off : Place → List PlaceMove → Bool
is_off p [] = true
is_off p (m ∷ ms) = not (same_place m.to p) && is_off p ms

abbrev pub are_distinct : List PlaceMove → Bool
are_distinct [] = true
are_distinct (m ∷ ms) = is_off m.to ms && are_distinct ms

off_in : (p : Place) (ms : List PlaceMove) → is_off p ms ≡ true → (x : PlaceMove) → In ms x → same_place x.to p ≡ false
off_in p [] e x i = absurd i
off_in p (m ∷ ms) e x (inl i) = ap (λ (y : PlaceMove). same_place y.to p) i ∙ not-true (same_place m.to p) (and_parts (not (same_place m.to p)) (is_off p ms) e).0
off_in p (m ∷ ms) e x (inr i) = off_in p ms (and_parts (not (same_place m.to p)) (is_off p ms) e).1 x i

pub spare_of : (ms : List PlaceMove) → is_off spare ms ≡ true → All (λ m. same_place m.to spare ≡ false) ms
spare_of ms e k d l = off_in spare ms e (get_or ms k d) (at_index ms k d l)

pub apart_of : (ms : List PlaceMove) → are_distinct ms ≡ true → AreApart ms
apart_of [] e i j d f lt l = absurd (omega arith)
apart_of (m ∷ ms) e zero zero d f lt l = absurd (omega arith)
apart_of (m ∷ ms) e zero (suc j) d f lt l =
    differ_sym (get_or ms j f).to m.to (off_in m.to ms (and_parts (is_off m.to ms) (are_distinct ms) e).0 (get_or ms j f) (at_index ms j f (omega arith)))
apart_of (m ∷ ms) e (suc i) zero d f lt l = absurd (omega arith)
apart_of (m ∷ ms) e (suc i) (suc j) d f lt l = apart_of ms (and_parts (is_off m.to ms) (are_distinct ms) e).1 i j d f (omega arith) (omega arith)
