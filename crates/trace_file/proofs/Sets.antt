-- The lists that are sets have exactly their edges, in order.
use Rattle.std.proofs.Common.{◌≡◌, List, [], ◌∷◌, inl, inr, refl, sym, subst}
use Rattle.std.specs.Prelude.{Contains, All}
use Rattle.trace_file.specs.Edges.{Edge, with_edge, collected, in_order, union_of, IsInOrder, IsSetOf, IsInSome, SetsHold}
use Rattle.trace_file.proofs.Union.{Either, here, there, first_or_later, from_merge, to_merge, ascends_merge}
use Rattle.trace_file.proofs.Unique.{none, unique, ascends_union}

-- ---- edges put in one after another

ascends_collected : (more es : List Edge) → IsInOrder es → IsInOrder (collected more es)
ascends_collected [] es h = h
ascends_collected (e ∷ more) es h = ascends_collected more (with_edge e es) (ascends_merge (e ∷ []) es refl h)

from_collected : (x : Edge) (more es : List Edge) → Contains (collected more es) x → Either more es x
from_collected x [] es c = inr c
from_collected x (e ∷ more) es c = elim (from_collected x more (with_edge e es) c) [
  | inl l ↦ inl (there e x more l)
  | inr r ↦ elim (from_merge x (e ∷ []) es r) [
    | inl f ↦ elim (first_or_later e x [] f) [
      | inl s ↦ inl (subst (λ a. Contains (a ∷ more) x) (sym s) (here x more))
      | inr n ↦ absurd (none x n)
    ]
    | inr y ↦ inr y
  ]
]

to_collected : (x : Edge) (more es : List Edge) → Either more es x → Contains (collected more es) x
to_collected x [] es (inl c) = absurd (none x c)
to_collected x [] es (inr c) = c
to_collected x (e ∷ more) es (inl c) = elim (first_or_later e x more c) [
  | inl s ↦ to_collected x more (with_edge e es) (inr (to_merge x (e ∷ []) es (inl (subst (λ a. Contains (a ∷ []) x) (sym s) (here x [])))))
  | inr l ↦ to_collected x more (with_edge e es) (inl l)
]
to_collected x (e ∷ more) es (inr c) = to_collected x more (with_edge e es) (inr (to_merge x (e ∷ []) es (inr c)))

gathered : (es : List Edge) → IsSetOf (Contains es) (in_order es)
gathered es = record {
  order = ascends_collected es [] refl;
  members = λ e. (
    λ c. elim (from_collected e es [] c) [ inl l ↦ l | inr n ↦ absurd (none e n) ],
    λ c. to_collected e es [] (inl c),
  );
}

-- ---- unions

from_union : (e : Edge) (sets : List (List Edge)) → Contains (union_of sets) e → IsInSome sets e
from_union e [] c = absurd (none e c)
from_union e (es ∷ sets) c = elim (from_merge e es (union_of sets) c) [
  | inl x ↦ (es, here es sets, x)
  | inr y ↦ let s = from_union e sets y in (s.0, there es s.0 sets s.1, s.2)
]

to_union : (e : Edge) (sets : List (List Edge)) → IsInSome sets e → Contains (union_of sets) e
to_union e [] (xs, c, x) = absurd (none xs c)
to_union e (es ∷ sets) (xs, c, x) = elim (first_or_later es xs sets c) [
  | inl s ↦ to_merge e es (union_of sets) (inl (subst (λ zs. Contains zs e) (sym s) x))
  | inr r ↦ to_merge e es (union_of sets) (inr (to_union e sets (xs, r, x)))
]

united : (sets : List (List Edge)) → All IsInOrder sets → IsSetOf (IsInSome sets) (union_of sets)
united sets h = record {
  order = ascends_union sets h;
  members = λ e. (from_union e sets, to_union e sets);
}

only : (es made : List Edge) → IsInOrder es → IsSetOf (Contains es) made → made ≡ es
only es made h s = unique made es s.order h (λ e. (s.members e).0) (λ e. (s.members e).1)

pub sets_hold : SetsHold
sets_hold = record { gathered = gathered; united = united; unique = only }
