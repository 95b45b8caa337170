-- The records of a file, and the bytes before them.
use Rattle.std.proofs.Common.{◌≡◌, ◌≢◌, ℕ, zero, suc, ◌+◌, ◌*◌, ◌<◌, ◌≤◌, Bool, true, false, List, [], ◌∷◌, ◌++◌, length, take, drop, get_or, Option, Some, None, refl, sym, ap, ◌∙◌, arith}
use Rattle.std.specs.Prelude.{if◌then◌else◌, ◌&&◌}
use Rattle.std.proofs.lemmas.Bool.{eq-eqb, ne_eqb}
use Rattle.std.proofs.lemmas.List.{drop_more, drop_all, take_more, take_all}
use Rattle.std.proofs.lemmas.Option.{none-some}
use Rattle.trace_file.specs.Edges.{Edge, before, ascends_after, ascends}
use Rattle.trace_file.specs.Trace.{word_at, record_at, records, first_difference, disorder_after, disorder}
use Rattle.trace_file.proofs.Sorted.{edge, and_both}

pub length_records : (n at : ℕ) (bytes : List ℕ) → length (records n at bytes) ≡ n
length_records zero at bytes = refl
length_records (suc n) at bytes = ap suc (length_records n (at + 8) bytes)

record_there : (n at i : ℕ) (bytes : List ℕ) (d : Edge) → i < n → get_or (records n at bytes) i d ≡ record_at (at + 8 * i) bytes
record_there zero at i bytes d h = absurd (omega arith)
record_there (suc n) at zero bytes d h = let e : at ≡ at + 8 * 0 = omega arith in ap (λ at. record_at at bytes) e
record_there (suc n) at (suc i) bytes d h =
    let e : at + 8 + 8 * i ≡ at + 8 * suc i = omega arith in
    record_there n (at + 8) i bytes d (omega arith) ∙ ap (λ at. record_at at bytes) e

pub record_read : (n i : ℕ) (bytes : List ℕ) (s t : ℕ) → i < n → s ≡ word_at (44 + 8 * i) bytes → t ≡ word_at (44 + 8 * i + 4) bytes → edge s t ≡ get_or (records n 44 bytes) i (edge s t)
record_read n i bytes s t h e f =
    ap (λ s. edge s t) e ∙ ap (λ t. edge (word_at (44 + 8 * i) bytes) t) f ∙ sym (record_there n 44 i bytes (edge s t) h)

-- ---- the first difference

pub same_here : (i : ℕ) (xs ys : List ℕ) → i < length xs → i < length ys → get_or ys i 0 ≡ get_or xs i 0 → first_difference i (drop i xs) (drop i ys) ≡ first_difference (i + 1) (drop (i + 1) xs) (drop (i + 1) ys)
same_here i xs ys l m e =
    ap (λ zs. first_difference i zs (drop i ys)) (drop_more xs i 0 l)
    ∙ ap (λ zs. first_difference i (get_or xs i 0 ∷ drop (i + 1) xs) zs) (drop_more ys i 0 m)
    ∙ ap (λ b. if b then first_difference (i + 1) (drop (i + 1) xs) (drop (i + 1) ys) else Some i) (eq-eqb (get_or xs i 0) (get_or ys i 0) (sym e))

pub ends_here : (i : ℕ) (xs ys : List ℕ) → i < length xs → length ys ≤ i → first_difference i (drop i xs) (drop i ys) ≡ Some i
ends_here i xs ys l m =
    ap (λ zs. first_difference i zs (drop i ys)) (drop_more xs i 0 l)
    ∙ ap (λ zs. first_difference i (get_or xs i 0 ∷ drop (i + 1) xs) zs) (drop_all i ys m)

pub differs_here : (i : ℕ) (xs ys : List ℕ) → i < length xs → i < length ys → get_or ys i 0 ≢ get_or xs i 0 → first_difference i (drop i xs) (drop i ys) ≡ Some i
differs_here i xs ys l m n =
    ap (λ zs. first_difference i zs (drop i ys)) (drop_more xs i 0 l)
    ∙ ap (λ zs. first_difference i (get_or xs i 0 ∷ drop (i + 1) xs) zs) (drop_more ys i 0 m)
    ∙ ap (λ b. if b then first_difference (i + 1) (drop (i + 1) xs) (drop (i + 1) ys) else Some i) (ne_eqb (get_or xs i 0) (get_or ys i 0) (λ e. n (sym e)))

-- ---- the order of the records

pub disorder_here : (i at : ℕ) (es : List Edge) (last next : Edge) (whole : Option ℕ) → i < length es → next ≡ get_or es i next → before last next ≡ false → disorder_after last at (drop i es) ≡ whole → Some at ≡ whole
disorder_here i at es last next whole l e f h =
    sym (ap (disorder_after last at) (drop_more es i next l ∙ ap (λ x. x ∷ drop (i + 1) es) (sym e))
    ∙ ap (λ b. if b then disorder_after next (at + 8) (drop (i + 1) es) else Some at) f) ∙ h

pub no_disorder : (i at : ℕ) (es : List Edge) (last : Edge) (whole : Option ℕ) → length es ≤ i → disorder_after last at (drop i es) ≡ whole → None ≡ whole
no_disorder i at es last whole l h = sym (ap (disorder_after last at) (drop_all i es l)) ∙ h

ascends_then : (a : Edge) (at : ℕ) (es : List Edge) → disorder_after a at es ≡ None → ascends_after a es ≡ true
ascends_then a at [] h = refl
ascends_then a at (b ∷ es) h = go (before a b) refl h (λ h. ascends_then b (at + 8) es h)
  where
    go : (t : Bool) → before a b ≡ t → (if t then disorder_after b (at + 8) es else Some at) ≡ None → (disorder_after b (at + 8) es ≡ None → ascends_after b es ≡ true) → ascends_after a (b ∷ es) ≡ true
    go true y h later = and_both (before a b) (ascends_after b es) y (later h)
    go false y h later = absurd (none-some at (sym h))

pub ordered : (at : ℕ) (es : List Edge) → disorder at es ≡ None → ascends es ≡ true
ordered at [] h = refl
ordered at (a ∷ es) h = ascends_then a (at + 8) es h

still_ordered : (a : Edge) (at : ℕ) (es : List Edge) → ascends_after a es ≡ true → disorder_after a at es ≡ None
still_ordered a at [] h = refl
still_ordered a at (b ∷ es) h = go (before a b) refl h (λ h. still_ordered b (at + 8) es h)
  where
    go : (t : Bool) → before a b ≡ t → (t && ascends_after b es) ≡ true → (ascends_after b es ≡ true → disorder_after b (at + 8) es ≡ None) → (if before a b then disorder_after b (at + 8) es else Some at) ≡ None
    go true y h later = ap (λ b2. if b2 then disorder_after b (at + 8) es else Some at) y ∙ later h
    go false y h later = absurd (cc)

pub in_order_then : (at : ℕ) (es : List Edge) → ascends es ≡ true → disorder at es ≡ None
in_order_then at [] h = refl
in_order_then at (a ∷ es) h = still_ordered a (at + 8) es h

-- ---- a list of the records

pub load_step : (i : ℕ) (es items new : List Edge) (e : Edge) → i < length es → new ≡ items ++ e ∷ [] → items ≡ take i es → e ≡ get_or es i e → new ≡ take (i + 1) es
load_step i es items new e l p h r =
    p ∙ ap (λ x. x ++ e ∷ []) h ∙ ap (λ x. take i es ++ x ∷ []) r ∙ sym (take_more es i e l)

pub load_end : (i : ℕ) (es items : List Edge) → length es ≤ i → items ≡ take i es → items ≡ es
load_end i es items l h = h ∙ take_all i es l
