-- What a table of links shows of its values.
use Rattle.std.proofs.Common.{◌≡◌, ℕ, zero, suc, ◌+◌, ◌<◌, ◌≤◌, ◌⊎◌, cond, eqb, List, [], ◌∷◌, ◌++◌, length, get_or, drop, inl, inr, refl, ap, sym, ◌∙◌, arith}
use Rattle.std.proofs.lemmas.Bool.{cases_Bool, eqb-true, eq-eqb}
use Rattle.link_table.specs.Table.{Table, put_entry, others, all_others, entries_of, entries_in, valued, valued_in, IsCrossed}
use Rattle.trace_set.specs.Rows.{behead}

abbrev pub Entry : Type 0
Entry = ℕ × ℕ

-- ---- how long a column is

all_zero : (v : ℕ) (cols : List (List Entry)) → ((c : ℕ) → valued v (get_or cols c []) ≡ 0) → valued_in v cols ≡ 0
all_zero v [] h = refl
all_zero v (es ∷ cols) h =
    let a : valued v es ≡ 0 = h 0 in
    let r : valued_in v cols ≡ 0 = all_zero v cols (λ c. h (suc c)) in
    omega (arith, a, r)

only_at : (v : ℕ) (cols : List (List Entry)) (k : ℕ) → ((c : ℕ) → (c ≡ k → ⊥) → valued v (get_or cols c []) ≡ 0) → valued_in v cols ≡ valued v (get_or cols k [])
only_at v [] k h = refl
only_at v (es ∷ cols) zero h =
    let r : valued_in v cols ≡ 0 = all_zero v cols (λ c. h (suc c) (λ e. omega (arith, e))) in
    omega (arith, r)
only_at v (es ∷ cols) (suc k) h =
    let a : valued v es ≡ 0 = h 0 (λ e. omega (arith, e)) in
    let r : valued_in v cols ≡ valued v (get_or cols k []) = only_at v cols k (λ c n. h (suc c) (λ e. n (omega (arith, e)))) in
    omega (arith, a, r)

first_valued : (e : Entry) (es : List Entry) → 0 < valued e.1 (e ∷ es)
first_valued e es = rw (eq-eqb e.1 e.1 refl) (omega arith)

same_values : (c : ℕ) (es : List Entry) → ((v : ℕ) → 0 < valued v es → v ≡ c) → length es ≡ valued c es
same_values c [] h = refl
same_values c (e ∷ es) h =
    let q : e.1 ≡ c = h e.1 (first_valued e es) in
    let r : length es ≡ valued c es = same_values c es (λ v p. h v (omega (arith, p))) in
    rw (eq-eqb e.1 c q) (omega (arith, r))

pub none_of : (n : ℕ) → (0 < n → ⊥) → n ≡ 0
none_of zero f = refl
none_of (suc n) f = absurd (f (omega arith))

abbrev pub AreOwn : List (List Entry) → Type 0
AreOwn cols = (c v : ℕ) → 0 < valued v (get_or cols c []) → v ≡ c

pub column_length : (t : Table) (c : ℕ) → AreOwn t.columns → IsCrossed t → length (get_or t.columns c []) ≡ valued_in c t.rows
column_length t c own x =
    let a : length (get_or t.columns c []) ≡ valued c (get_or t.columns c []) = same_values c (get_or t.columns c []) (λ v p. own c v p) in
    let b : valued_in c t.columns ≡ valued c (get_or t.columns c []) = only_at c t.columns c (λ d n. none_of (valued c (get_or t.columns d [])) (λ p. n (sym (own d c p)))) in
    a ∙ sym b ∙ x.counted c

pub in_range : (cols : List (List Entry)) (c : ℕ) → 0 < length (get_or cols c []) → c < length cols
in_range [] c h = absurd (omega (arith, h))
in_range (es ∷ cols) zero h = omega arith
in_range (es ∷ cols) (suc c) h = let r : c < length cols = in_range cols c h in omega (arith, r)

-- ---- an entry put last

pub length-put : (rows : List (List Entry)) (r : ℕ) (e : Entry) → length (put_entry rows r e) ≡ length rows
length-put [] r e = refl
length-put (es ∷ rows) zero e = refl
length-put (es ∷ rows) (suc r) e = ap suc (length-put rows r e)

valued-append : (v : ℕ) (es : List Entry) (n c : ℕ) → valued v (es ++ (n, c) ∷ []) ≡ valued v es + cond (eqb c v) 1 0
valued-append v [] n c = omega arith
valued-append v (e ∷ es) n c = let a : valued v (es ++ (n, c) ∷ []) ≡ valued v es + cond (eqb c v) 1 0 = valued-append v es n c in omega (arith, a)

pub valued-put : (v : ℕ) (rows : List (List Entry)) (r n c : ℕ) → r < length rows → valued_in v (put_entry rows r (n, c)) ≡ valued_in v rows + cond (eqb c v) 1 0
valued-put v [] r n c l = absurd (omega (arith, l))
valued-put v (es ∷ rows) zero n c l = let a : valued v (es ++ (n, c) ∷ []) ≡ valued v es + cond (eqb c v) 1 0 = valued-append v es n c in omega (arith, a)
valued-put v (es ∷ rows) (suc r) n c l = let a : valued_in v (put_entry rows r (n, c)) ≡ valued_in v rows + cond (eqb c v) 1 0 = valued-put v rows r n c (omega (arith, l)) in omega (arith, a)

own_put : (cols : List (List Entry)) (k n x d v : ℕ) → 0 < valued v (get_or (put_entry cols k (n, x)) d []) → (0 < valued v (get_or cols d [])) ⊎ ((d ≡ k) × (v ≡ x))
own_put [] k n x d v h = inl h
own_put (es ∷ cols) zero n x zero v h = elim (cases_Bool (eqb x v)) [
  | inl t ↦ inr (refl, sym (eqb-true x v t))
  | inr f ↦ let a : valued v (es ++ (n, x) ∷ []) ≡ valued v es + cond (eqb x v) 1 0 = valued-append v es n x in let b : valued v (es ++ (n, x) ∷ []) ≡ valued v es + 0 = rw f at a in inl (omega (arith, b, h))
]
own_put (es ∷ cols) zero n x (suc d) v h = inl h
own_put (es ∷ cols) (suc k) n x zero v h = inl h
own_put (es ∷ cols) (suc k) n x (suc d) v h = elim (own_put cols k n x d v h) [ inl a ↦ inl a | inr p ↦ inr (ap suc p.0, p.1) ]

pub own-put : (cols : List (List Entry)) (n c : ℕ) → AreOwn cols → AreOwn (put_entry cols c (n, c))
own-put cols n c own d v h = elim (own_put cols c n c d v h) [ inl a ↦ own d v a | inr p ↦ p.1 ∙ sym p.0 ]

-- ---- the first entry of a row taken out

others_none : (x : ℕ) (es : List Entry) → entries_of x es ≡ 0 → others x es ≡ es
others_none x [] h = refl
others_none x (e ∷ es) h = elim (cases_Bool (eqb e.0 x)) [
  | inl t ↦ absurd (let k : 1 + entries_of x es ≡ 0 = rw t at h in omega (arith, k))
  | inr f ↦ rw f (ap (λ (q : List Entry). e ∷ q) (others_none x es (let k : 0 + entries_of x es ≡ 0 = rw f at h in omega (arith, k))))
]

all_others_none : (x : ℕ) (rows : List (List Entry)) → entries_in x rows ≡ 0 → all_others x rows ≡ rows
all_others_none x [] h = refl
all_others_none x (es ∷ rows) h =
    ap (λ (q : List Entry). q ∷ all_others x rows) (others_none x es (omega (arith, h)))
    ∙ ap (λ (q : List (List Entry)). es ∷ q) (all_others_none x rows (omega (arith, h)))

entries_of_first : (n c : ℕ) (es : List Entry) → entries_of n ((n, c) ∷ es) ≡ 1 + entries_of n es
entries_of_first n c es = rw (eq-eqb n n refl) refl

others_first : (n c : ℕ) (es : List Entry) → entries_of n es ≡ 0 → others n ((n, c) ∷ es) ≡ es
others_first n c es h = rw (eq-eqb n n refl) (others_none n es h)

pub is_there : (rows : List (List Entry)) (r n c : ℕ) (es : List Entry) → get_or rows r [] ≡ (n, c) ∷ es → 0 < entries_in n rows
is_there [] r n c es q = absurd (let l : 0 ≡ suc (length es) = ap length q in omega (arith, l))
is_there (xs ∷ rows) zero n c es q = let a : entries_of n xs ≡ 1 + entries_of n es = ap (entries_of n) q ∙ entries_of_first n c es in omega (arith, a)
is_there (xs ∷ rows) (suc r) n c es q = let a : 0 < entries_in n rows = is_there rows r n c es q in omega (arith, a)

pub first_out : (rows : List (List Entry)) (r n c : ℕ) (es : List Entry) → get_or rows r [] ≡ (n, c) ∷ es → entries_in n rows ≤ 1 → all_others n rows ≡ behead rows r
first_out [] r n c es q o = refl
first_out (xs ∷ rows) zero n c es q o =
    let a : entries_of n xs ≡ 1 + entries_of n es = ap (entries_of n) q ∙ entries_of_first n c es in
    let p : others n xs ≡ es = ap (others n) q ∙ others_first n c es (omega (arith, a, o)) in
    let d : drop 1 xs ≡ es = ap (drop 1) q in
    ap (λ (l : List Entry). l ∷ all_others n rows) (p ∙ sym d) ∙ ap (λ (l : List (List Entry)). drop 1 xs ∷ l) (all_others_none n rows (omega (arith, a, o)))
first_out (xs ∷ rows) (suc r) n c es q o =
    let a : 0 < entries_in n rows = is_there rows r n c es q in
    ap (λ (l : List Entry). l ∷ all_others n rows) (others_none n xs (omega (arith, a, o))) ∙ ap (λ (l : List (List Entry)). xs ∷ l) (first_out rows r n c es q (omega (arith, o)))

pub length-behead : {X : Type 0} (rows : List (List X)) (r : ℕ) → length (behead rows r) ≡ length rows
length-behead [] r = refl
length-behead (xs ∷ rows) zero = refl
length-behead (xs ∷ rows) (suc r) = ap suc (length-behead rows r)

pub valued-behead : (v : ℕ) (rows : List (List Entry)) (r n c : ℕ) (es : List Entry) → get_or rows r [] ≡ (n, c) ∷ es → valued_in v (behead rows r) + cond (eqb c v) 1 0 ≡ valued_in v rows
valued-behead v [] r n c es q = absurd (let l : 0 ≡ suc (length es) = ap length q in omega (arith, l))
valued-behead v (xs ∷ rows) zero n c es q =
    let a : valued v xs ≡ cond (eqb c v) 1 0 + valued v es = ap (valued v) q in
    let d : valued v (drop 1 xs) ≡ valued v es = ap (λ (l : List Entry). valued v (drop 1 l)) q in
    omega (arith, a, d)
valued-behead v (xs ∷ rows) (suc r) n c es q =
    let a : valued_in v (behead rows r) + cond (eqb c v) 1 0 ≡ valued_in v rows = valued-behead v rows r n c es q in
    omega (arith, a)

pub length-others : (x : ℕ) (t : List (List Entry)) → length (all_others x t) ≡ length t
length-others x [] = refl
length-others x (es ∷ t) = ap suc (length-others x t)

get-others : (x : ℕ) (t : List (List Entry)) (k : ℕ) → get_or (all_others x t) k [] ≡ others x (get_or t k [])
get-others x [] k = refl
get-others x (es ∷ t) zero = refl
get-others x (es ∷ t) (suc k) = get-others x t k

valued-others : (v x : ℕ) (es : List Entry) → valued v (others x es) ≤ valued v es
valued-others v x [] = omega arith
valued-others v x (e ∷ es) =
    let r : valued v (others x es) ≤ valued v es = valued-others v x es in
    elim (cases_Bool (eqb e.0 x)) [ inl t ↦ rw t (omega (arith, r)) | inr f ↦ rw f (omega (arith, r)) ]

pub own-others : (x : ℕ) (cols : List (List Entry)) → AreOwn cols → AreOwn (all_others x cols)
own-others x cols own d v h =
    let g : valued v (get_or (all_others x cols) d []) ≡ valued v (others x (get_or cols d [])) = ap (valued v) (get-others x cols d) in
    let m : valued v (others x (get_or cols d [])) ≤ valued v (get_or cols d []) = valued-others v x (get_or cols d []) in
    own d v (omega (arith, g, m, h))
