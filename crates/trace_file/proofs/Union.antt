-- The union has the edges of either list, in order.
use Rattle.std.proofs.Common.{◌≡◌, zero, suc, ◌+◌, ◌≤◌, Bool, true, false, List, [], ◌∷◌, length, ◌⊎◌, inl, inr, refl, sym, subst, ◌∙◌, arith}
use Rattle.std.specs.Prelude.{Contains, if◌then◌else◌}
use Rattle.trace_file.specs.Edges.{Edge, IsEdges, before, ascends_after, ascends, step, merge}
use Rattle.trace_file.proofs.Sorted.{and_inv, and_both, tied}

-- ---- which edges

abbrev pub Either : List Edge → List Edge → Edge → Type 0
Either xs ys e = Contains xs e ⊎ Contains ys e

pub here : {X : Type 0} (e : X) (xs : List X) → Contains (e ∷ xs) e
here e xs = (0, omega arith, refl)

pub there : {X : Type 0} (a e : X) (xs : List X) → Contains xs e → Contains (a ∷ xs) e
there a e xs (k, l, h) = (suc k, omega arith, h)

pub first_or_later : {X : Type 0} (a e : X) (xs : List X) → Contains (a ∷ xs) e → (a ≡ e) ⊎ Contains xs e
first_or_later a e xs (zero, l, h) = inl h
first_or_later a e xs (suc k, l, h) = inr (k, omega arith, h)

at_first : (a e : Edge) (xs : List Edge) → a ≡ e → Contains (a ∷ xs) e
at_first a e xs h = subst (λ x. Contains (x ∷ xs) e) (sym h) (here e xs)

one_more : (a e : Edge) (es rest bs : List Edge) → (Contains rest e → Either es bs e) → Contains (a ∷ rest) e → Either (a ∷ es) bs e
one_more a e es rest bs h c = elim (first_or_later a e rest c) [
  | inl s ↦ inl (at_first a e es s)
  | inr r ↦ elim (h r) [ inl x ↦ inl (there a e es x) | inr y ↦ inr y ]
]

one_more_right : (b e : Edge) (es rest bs : List Edge) → (Contains rest e → Either es bs e) → Contains (b ∷ rest) e → Either es (b ∷ bs) e
one_more_right b e es rest bs h c = elim (first_or_later b e rest c) [
  | inl s ↦ inr (at_first b e bs s)
  | inr r ↦ elim (h r) [ inl x ↦ inl x | inr y ↦ inr (there b e bs y) ]
]

wider : (b e : Edge) (es bs : List Edge) → Either es bs e → Either es (b ∷ bs) e
wider b e es bs (inl x) = inl x
wider b e es bs (inr y) = inr (there b e bs y)

from_step : (a e : Edge) (es : List Edge) (rest : List Edge → List Edge) → ((bs : List Edge) → Contains (rest bs) e → Either es bs e) → (bs : List Edge) → Contains (step a rest bs) e → Either (a ∷ es) bs e
from_step a e es rest h [] c = one_more a e es (rest []) [] (h []) c
from_step a e es rest h (b ∷ bs) c = go (from_step a e es rest h bs) (before a b) (before b a) c
  where
    go : (Contains (step a rest bs) e → Either (a ∷ es) bs e) → (p q : Bool) → Contains (if p then (a ∷ rest (b ∷ bs)) else (if q then (b ∷ step a rest bs) else (a ∷ rest bs))) e → Either (a ∷ es) (b ∷ bs) e
    go later true q c = one_more a e es (rest (b ∷ bs)) (b ∷ bs) (h (b ∷ bs)) c
    go later false true c = one_more_right b e (a ∷ es) (step a rest bs) bs later c
    go later false false c = wider b e (a ∷ es) bs (one_more a e es (rest bs) bs (h bs) c)

pub from_merge : (e : Edge) (es bs : List Edge) → Contains (merge es bs) e → Either es bs e
from_merge e [] bs c = inr c
from_merge e (a ∷ es) bs c = from_step a e es (merge es) (from_merge e es) bs c

to_step : (a e : Edge) (es : List Edge) (rest : List Edge → List Edge) → ((bs : List Edge) → Either es bs e → Contains (rest bs) e) → (bs : List Edge) → Either (a ∷ es) bs e → Contains (step a rest bs) e
to_step a e es rest h [] (inl c) = elim (first_or_later a e es c) [ inl s ↦ at_first a e (rest []) s | inr r ↦ there a e (rest []) (h [] (inl r)) ]
to_step a e es rest h [] (inr c) = there a e (rest []) (h [] (inr c))
to_step a e es rest h (b ∷ bs) c = go (to_step a e es rest h bs) (before a b) refl (before b a) refl
  where
    first : (cs : List Edge) → Either (a ∷ es) cs e → Contains (a ∷ rest cs) e
    first cs (inl c) = elim (first_or_later a e es c) [ inl s ↦ at_first a e (rest cs) s | inr r ↦ there a e (rest cs) (h cs (inl r)) ]
    first cs (inr c) = there a e (rest cs) (h cs (inr c))

    second : (Either (a ∷ es) bs e → Contains (step a rest bs) e) → Either (a ∷ es) (b ∷ bs) e → Contains (b ∷ step a rest bs) e
    second later (inl c) = there b e (step a rest bs) (later (inl c))
    second later (inr c) = elim (first_or_later b e bs c) [ inl s ↦ at_first b e (step a rest bs) s | inr r ↦ there b e (step a rest bs) (later (inr r)) ]

    both : a ≡ b → Either (a ∷ es) (b ∷ bs) e → Contains (a ∷ rest bs) e
    both s (inl c) = first bs (inl c)
    both s (inr c) = elim (first_or_later b e bs c) [ inl t ↦ at_first a e (rest bs) (s ∙ t) | inr r ↦ first bs (inr r) ]

    go : (Either (a ∷ es) bs e → Contains (step a rest bs) e) → (p : Bool) → before a b ≡ p → (q : Bool) → before b a ≡ q → Contains (if p then (a ∷ rest (b ∷ bs)) else (if q then (b ∷ step a rest bs) else (a ∷ rest bs))) e
    go later true _ q _ = first (b ∷ bs) c
    go later false _ true _ = second later c
    go later false f false g = both (tied a b f g) c

pub to_merge : (e : Edge) (es bs : List Edge) → Either es bs e → Contains (merge es bs) e
to_merge e [] bs (inl (k, l, h)) = absurd (omega arith)
to_merge e [] bs (inr c) = c
to_merge e (a ∷ es) bs c = to_step a e es (merge es) (to_merge e es) bs c

-- ---- in which order

abbrev Keeps : List Edge → (List Edge → List Edge) → Type 0
Keeps es rest = (c : Edge) (bs : List Edge) → ascends_after c es ≡ true → ascends_after c bs ≡ true → ascends_after c (rest bs) ≡ true

step_after : (a : Edge) (es : List Edge) (rest : List Edge → List Edge) → Keeps es rest → (c : Edge) (bs : List Edge) → before c a ≡ true → ascends_after a es ≡ true → ascends_after c bs ≡ true → ascends_after c (step a rest bs) ≡ true
step_after a es rest k c [] l h g = and_both (before c a) (ascends_after a (rest [])) l (k a [] h refl)
step_after a es rest k c (b ∷ bs) l h g = go (λ y. step_after a es rest k b bs y h (and_inv (before c b) (ascends_after b bs) g).1) (before a b) refl (before b a) refl
  where
    p : (before c b ≡ true) × (ascends_after b bs ≡ true)
    p = and_inv (before c b) (ascends_after b bs) g

    go : (before b a ≡ true → ascends_after b (step a rest bs) ≡ true) → (t : Bool) → before a b ≡ t → (u : Bool) → before b a ≡ u → ascends_after c (if t then (a ∷ rest (b ∷ bs)) else (if u then (b ∷ step a rest bs) else (a ∷ rest bs))) ≡ true
    go later true y u _ = and_both (before c a) (ascends_after a (rest (b ∷ bs))) l (k a (b ∷ bs) h (and_both (before a b) (ascends_after b bs) y p.1))
    go later false _ true y = and_both (before c b) (ascends_after b (step a rest bs)) p.0 (later y)
    go later false f false g = and_both (before c a) (ascends_after a (rest bs)) l (k a bs h (subst (λ x. ascends_after x bs ≡ true) (sym (tied a b f g)) p.1))

merge_after : (es : List Edge) → Keeps es (merge es)
merge_after [] c bs h g = g
merge_after (a ∷ es) c bs h g =
    let p = and_inv (before c a) (ascends_after a es) h in
    step_after a es (merge es) (merge_after es) c bs p.0 p.1 g

pub ascends_merge : (es bs : List Edge) → ascends es ≡ true → ascends bs ≡ true → ascends (merge es bs) ≡ true
ascends_merge [] bs h g = g
ascends_merge (a ∷ es) [] h g = merge_after es a [] h refl
ascends_merge (a ∷ es) (b ∷ bs) h g = go (before a b) refl (before b a) refl
  where
    go : (t : Bool) → before a b ≡ t → (u : Bool) → before b a ≡ u → ascends (if t then (a ∷ merge es (b ∷ bs)) else (if u then (b ∷ step a (merge es) bs) else (a ∷ merge es bs))) ≡ true
    go true y u _ = merge_after es a (b ∷ bs) h (and_both (before a b) (ascends_after b bs) y g)
    go false _ true y = step_after a es (merge es) (merge_after es) b bs y h g
    go false f false y = merge_after es a bs h (subst (λ x. ascends_after x bs ≡ true) (sym (tied a b f y)) g)

step_length : (a : Edge) (es : List Edge) (rest : List Edge → List Edge) → ((bs : List Edge) → length (rest bs) ≤ length es + length bs) → (bs : List Edge) → length (step a rest bs) ≤ suc (length es) + length bs
step_length a es rest h [] = let l = h [] in omega arith
step_length a es rest h (b ∷ bs) = go (step_length a es rest h bs) (before a b) (before b a)
  where
    go : length (step a rest bs) ≤ suc (length es) + length bs → (p q : Bool) → length (if p then (a ∷ rest (b ∷ bs)) else (if q then (b ∷ step a rest bs) else (a ∷ rest bs))) ≤ suc (length es) + suc (length bs)
    go later true q = let l = h (b ∷ bs) in omega arith
    go later false true = omega arith
    go later false false = let l = h bs in omega arith

pub merge_length : (es bs : List Edge) → length (merge es bs) ≤ length es + length bs
merge_length [] bs = omega arith
merge_length (a ∷ es) bs = step_length a es (merge es) (merge_length es) bs

pub merge_edges : (es bs : List Edge) → IsEdges es → IsEdges bs → length es + length bs ≤ 16777216 → IsEdges (merge es bs)
merge_edges es bs h g l =
    let m = merge_length es bs in
    record { order = ascends_merge es bs h.order g.order; count = omega arith }
