-- A union by halves.
use Rattle.std.proofs.Common.{◌≡◌, ℕ, ◌≤◌, List, [], ◌∷◌, ◌++◌, length, take, drop, get_or, refl, sym, ap, subst, ◌∙◌, arith}
use Rattle.std.specs.Prelude.{All}
use Rattle.std.proofs.lemmas.List.{take-append-drop}
use Rattle.std.proofs.lemmas.List.Elements.{All-append, All-weaker}
use Rattle.std.proofs.lemmas.List.Sums.{sum_by-append}
use Rattle.trace_file.specs.Edges.{Edge, IsEdges, IsInOrder, merge, union_of, pairs}
use Rattle.trace_file.proofs.Union.{merge_length}
use Rattle.trace_file.proofs.Unique.{union_append}

merge_none : (es : List Edge) → merge es [] ≡ es
merge_none [] = refl
merge_none (a ∷ es) = ap (λ zs. a ∷ zs) (merge_none es)

-- the only set of its list, at the first place
pub one_set : (sets : List (List Edge)) (es : List Edge) → length sets ≡ 1 → es ≡ get_or sets 0 es → union_of sets ≡ es
one_set [] es l h = absurd (omega arith)
one_set (xs ∷ []) es l h = merge_none xs ∙ sym h
one_set (xs ∷ ys ∷ sets) es l h = absurd (omega arith)

-- what is told of a list that joins sets
pub record Joins (sets : List (List Edge)) (all : List Edge) : Type 0 where
  pub ordered : All IsEdges sets
  pub value : all ≡ union_of sets
  pub count : length all ≤ pairs sets

joins_both : (xs ys : List (List Edge)) (left right : List Edge) → Joins xs left → Joins ys right → Joins (xs ++ ys) (merge left right)
joins_both xs ys left right h g =
    let most = merge_length left right in
    let l = h.count in
    let r = g.count in
    let both = sum_by-append length xs ys in
    record {
      ordered = All-append IsEdges xs ys h.ordered g.ordered;
      value = ap (λ l. merge l right) h.value ∙ ap (merge (union_of xs)) g.value ∙ sym (union_append xs ys (in_order_each xs h.ordered) (in_order_each ys g.ordered));
      count = omega arith;
    }
  where
    in_order_each : (sets : List (List Edge)) → All IsEdges sets → All IsInOrder sets
    in_order_each sets o = All-weaker IsEdges IsInOrder (λ es s. s.order) sets o

pub joins_halves : (n : ℕ) (sets front back : List (List Edge)) (left right : List Edge) → front ≡ take n sets → back ≡ drop n sets → Joins front left → Joins back right → Joins sets (merge left right)
joins_halves n sets front back left right f b h g =
    subst (λ s. Joins s (merge left right)) (ap (λ s. s ++ back) f ∙ ap (λ s. take n sets ++ s) b ∙ take-append-drop n sets) (joins_both front back left right h g)
