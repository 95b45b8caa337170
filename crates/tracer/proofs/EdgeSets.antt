-- A set of edges is the list of its keys, and an edge is put into the one as into the other.
use Rattle.std.proofs.Common.{◌≡◌, ◌+◌, ◌<◌, ◌≤◌, Bool, true, false, not, ◌||◌, ◌⊎◌, inl, inr, if◌then◌else◌, List, [], ◌∷◌, length, Ok, Err, refl, sym, ◌∙◌, ap, subst, arith}
use Rattle.std.specs.declared.cmp.Ordering.{Ordering}
use Rattle.std.specs.declared.cmp.Ordering.TheVariants.{Less, Equal, Greater}
use Rattle.std.specs.Ordering.{ordering_then, nat_cmp, match_ordering, is_eq}
use Rattle.std.specs.BTreeSet.{insert_key}
use Rattle.std.specs.List.{list_any}
use Rattle.std.specs.List.Sorted.{IsStrictlySortedBy}
use Rattle.std.specs.Prelude.{cond}
use Rattle.std.proofs.lemmas.Bool.Decides.{nat_tests}
use Rattle.tracer.specs.declared.answers.TracingError.TheVariants as errors
use Rattle.trace_file.specs.declared.limits.TheConstants.{FILE_EDGE_LIMIT}
use Rattle.tracer.specs.Records.{Records}
use Rattle.trace_file.specs.Edges.{Edge, before, ascends_after, ascends, step, merge, with_edge, IsEdges}
use Rattle.trace_file.proofs.Sorted.{tied, and_both}

-- the order of pairs of numbers, as std has it
abbrev pub pair_cmp : Edge → Edge → Ordering
pair_cmp a b = ordering_then (nat_cmp a.0 b.0) (nat_cmp a.1 b.1)

pub pair_cmp_is : (a b : Edge) → pair_cmp a b ≡ cond (before a b) Less (cond (before b a) Greater Equal)
pair_cmp_is a b = grind (arith, nat_tests)

less_before : (a b : Edge) → pair_cmp a b ≡ Less → before a b ≡ true
less_before a b h = grind (arith, nat_tests, h)

pub insert_is : (k : Edge) (keys : List Edge) → insert_key pair_cmp keys k ≡ with_edge k keys
insert_is k [] = refl
insert_is k (x ∷ xs) = ap (λ o. match_ordering o (k ∷ x ∷ xs) (x ∷ xs) (x ∷ insert_key pair_cmp xs k)) (pair_cmp_is k x) ∙ go (insert_is k xs) (before k x) refl (before x k) refl
  where
    go : insert_key pair_cmp xs k ≡ with_edge k xs → (p : Bool) → before k x ≡ p → (q : Bool) → before x k ≡ q
        → match_ordering (cond p Less (cond q Greater Equal)) (k ∷ x ∷ xs) (x ∷ xs) (x ∷ insert_key pair_cmp xs k)
        ≡ (if p then (k ∷ x ∷ xs) else (if q then (x ∷ step k (merge []) xs) else (k ∷ xs)))
    go later true _ q _ = refl
    go later false _ true _ = ap (λ es. x ∷ es) later
    go later false f false g = ap (λ e. e ∷ xs) (sym (tied k x f g))

-- an edge that is not there makes the list longer
pub insert_length : (k : Edge) (keys : List Edge) → list_any (λ x. is_eq (pair_cmp k x)) keys ≡ false → length (insert_key pair_cmp keys k) ≡ length keys + 1
insert_length k [] h = refl
insert_length k (x ∷ xs) h = go (λ g. insert_length k xs g) (pair_cmp k x) h
  where
    go : (list_any (λ x. is_eq (pair_cmp k x)) xs ≡ false → length (insert_key pair_cmp xs k) ≡ length xs + 1) → (o : Ordering) → (is_eq o || list_any (λ x. is_eq (pair_cmp k x)) xs) ≡ false
        → length (match_ordering o (k ∷ x ∷ xs) (x ∷ xs) (x ∷ insert_key pair_cmp xs k)) ≡ length (x ∷ xs) + 1
    go later Less h = omega arith
    go later Equal h = cc
    go later Greater h = omega (arith, later h)

-- keys in order ascend
pub ascends_keys : (keys : List Edge) → IsStrictlySortedBy pair_cmp keys → ascends keys ≡ true
unfolding IsStrictlySortedBy
ascends_keys [] h = refl
ascends_keys (x ∷ []) h = refl
ascends_keys (x ∷ y ∷ ys) h = and_both (before x y) (ascends_after y ys) (less_before x y h.0.0) (ascends_keys (y ∷ ys) h.1)

-- there is room for another edge, or the edge is there
abbrev pub HasRoom : Edge → List Edge → Type 0
HasRoom e es = (length es < FILE_EDGE_LIMIT) ⊎ (list_any (λ x. is_eq (pair_cmp e x)) es ≡ true)

pub record_full : (e : Edge) (es : List Edge) → FILE_EDGE_LIMIT ≤ length es → list_any (λ x. is_eq (pair_cmp e x)) es ≡ false → FILE_EDGE_LIMIT < length (with_edge e es)
record_full e es full absent = omega (arith, full, insert_length e es absent, ap length (insert_is e es))

pub record_done : (e : Edge) (es new : List Edge) (added : Bool) → length es ≤ FILE_EDGE_LIMIT → HasRoom e es → added ≡ not (list_any (λ x. is_eq (pair_cmp e x)) es)
    → length new ≡ length es + (if added then 1 else 0) → new ≡ insert_key pair_cmp es e → Records (Ok tt) e es new
record_done e es new added most room a l k = (k ∙ insert_is e es, fits added room a l)
  where
    fits : (added : Bool) → HasRoom e es → added ≡ not (list_any (λ x. is_eq (pair_cmp e x)) es) → length new ≡ length es + (if added then 1 else 0) → length new ≤ FILE_EDGE_LIMIT
    fits false room a l = omega (arith, l, most)
    fits true (inl less) a l = omega (arith, l, less)
    fits true (inr there) a l = absurd (let z = a ∙ ap not there in cc)

pub record_wants : (e : Edge) (es new : List Edge) → HasRoom e es → list_any (λ x. is_eq (pair_cmp e x)) es ≡ false → new ≡ es → Records (Err errors.Memory) e es new
record_wants e es new (inl less) absent same = (omega (arith, less, insert_length e es absent, ap length (insert_is e es)), same)
record_wants e es new (inr there) absent same = absurd (let z = sym there ∙ absent in cc)

-- what the keys of a recorder are
pub is_edges : (keys items : List Edge) → IsStrictlySortedBy pair_cmp keys → length keys ≤ FILE_EDGE_LIMIT → items ≡ keys → IsEdges items
is_edges keys items order most same = let P : List Edge → Type 0 = λ es. IsEdges es in subst P (sym same) (record { order = ascends_keys keys order; count = omega (arith, most) })
