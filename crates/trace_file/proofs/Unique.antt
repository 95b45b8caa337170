-- A list that ascends is the only one of its edges that does; so unions may be taken in any grouping.
use Rattle.std.proofs.Common.{◌≡◌, true, List, [], ◌∷◌, ◌++◌, inl, inr, refl, sym, ap, subst, ◌∙◌, arith}
use Rattle.std.specs.Prelude.{Contains, All}
use Rattle.std.proofs.lemmas.List.Elements.{All-head, All-tail}
use Rattle.trace_file.specs.Edges.{Edge, before, ascends_after, merge, union_of, IsInOrder}
use Rattle.trace_file.proofs.Sorted.{not_before_itself, before_after, after_at, ascends_later}
use Rattle.trace_file.proofs.Union.{here, there, first_or_later, from_merge, to_merge, ascends_merge}

abbrev Within : List Edge → List Edge → Type 0
Within xs ys = (e : Edge) → Contains xs e → Contains ys e

pub none : {X : Type 0} (e : X) → Contains [] e → ⊥
none e (k, l, h) = absurd (omega arith)

-- what ascends from an edge has only later ones
later : (a e : Edge) (es : List Edge) → ascends_after a es ≡ true → Contains es e → before a e ≡ true
later a e es h (k, l, is) = subst (λ x. before a x ≡ true) is (after_at a es k e h l)

not_again : (a : Edge) (es : List Edge) → ascends_after a es ≡ true → Contains es a → ⊥
not_again a es h c = let x = later a a es h c in let y = not_before_itself a in absurd cc

-- the first edges of two lists that have the same ones
same_first : (a b : Edge) (xs ys : List Edge) → ascends_after a xs ≡ true → ascends_after b ys ≡ true → Within (a ∷ xs) (b ∷ ys) → Within (b ∷ ys) (a ∷ xs) → a ≡ b
same_first a b xs ys h g f t = elim (first_or_later b a ys (f a (here a xs))) [
  | inl s ↦ sym s
  | inr c ↦ elim (first_or_later a b xs (t b (here b ys))) [
    | inl s ↦ s
    | inr d ↦
        let x = before_after b a b (later b a ys g c) (later a b xs h d) in
        let y = not_before_itself b in
        absurd cc
  ]
]

-- without that first edge they still have the same ones
rest_within : (a b : Edge) (xs ys : List Edge) → ascends_after a xs ≡ true → a ≡ b → Within (a ∷ xs) (b ∷ ys) → Within xs ys
rest_within a b xs ys h s f e c = elim (first_or_later b e ys (f e (there a e xs c))) [
  | inl t ↦ absurd (not_again a xs h (subst (Contains xs) (sym (s ∙ t)) c))
  | inr d ↦ d
]

pub unique : (xs ys : List Edge) → IsInOrder xs → IsInOrder ys → Within xs ys → Within ys xs → xs ≡ ys
unique [] [] h g f t = refl
unique [] (b ∷ ys) h g f t = absurd (none b (t b (here b ys)))
unique (a ∷ xs) [] h g f t = absurd (none a (f a (here a xs)))
unique (a ∷ xs) (b ∷ ys) h g f t =
    let s = same_first a b xs ys h g f t in
    let r = unique xs ys (ascends_later a xs h) (ascends_later b ys g) (rest_within a b xs ys h s f) (rest_within b a ys xs g (sym s) t) in
    ap (λ x. x ∷ xs) s ∙ ap (λ zs. b ∷ zs) r

-- ---- the union in another grouping

merge_within : (xs ys zs : List Edge) → Within (merge xs (merge ys zs)) (merge (merge xs ys) zs)
merge_within xs ys zs e c = elim (from_merge e xs (merge ys zs) c) [
  | inl x ↦ to_merge e (merge xs ys) zs (inl (to_merge e xs ys (inl x)))
  | inr r ↦ elim (from_merge e ys zs r) [
    | inl y ↦ to_merge e (merge xs ys) zs (inl (to_merge e xs ys (inr y)))
    | inr z ↦ to_merge e (merge xs ys) zs (inr z)
  ]
]

merge_back : (xs ys zs : List Edge) → Within (merge (merge xs ys) zs) (merge xs (merge ys zs))
merge_back xs ys zs e c = elim (from_merge e (merge xs ys) zs c) [
  | inl l ↦ elim (from_merge e xs ys l) [
    | inl x ↦ to_merge e xs (merge ys zs) (inl x)
    | inr y ↦ to_merge e xs (merge ys zs) (inr (to_merge e ys zs (inl y)))
  ]
  | inr z ↦ to_merge e xs (merge ys zs) (inr (to_merge e ys zs (inr z)))
]

merge_regrouped : (xs ys zs : List Edge) → IsInOrder xs → IsInOrder ys → IsInOrder zs → merge xs (merge ys zs) ≡ merge (merge xs ys) zs
merge_regrouped xs ys zs h g k =
    unique (merge xs (merge ys zs)) (merge (merge xs ys) zs)
    (ascends_merge xs (merge ys zs) h (ascends_merge ys zs g k))
    (ascends_merge (merge xs ys) zs (ascends_merge xs ys h g) k)
    (merge_within xs ys zs) (merge_back xs ys zs)

pub ascends_union : (sets : List (List Edge)) → All IsInOrder sets → IsInOrder (union_of sets)
ascends_union [] h = refl
ascends_union (es ∷ sets) h =
    ascends_merge es (union_of sets) (All-head IsInOrder es sets h) (ascends_union sets (All-tail IsInOrder es sets h))

pub union_append : (xs ys : List (List Edge)) → All IsInOrder xs → All IsInOrder ys → union_of (xs ++ ys) ≡ merge (union_of xs) (union_of ys)
union_append [] ys h g = refl
union_append (es ∷ xs) ys h g =
    let t = All-tail IsInOrder es xs h in
    ap (merge es) (union_append xs ys t g)
    ∙ merge_regrouped es (union_of xs) (union_of ys) (All-head IsInOrder es xs h) (ascends_union xs t) (ascends_union ys g)
