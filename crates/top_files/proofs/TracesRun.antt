-- Traces that are fetched one after another, and their union, which is stored.
use Rattle.std.proofs.Common.{◌≡◌, ℕ, ◌+◌, ◌<◌, ◌≤◌, List, [], ◌∷◌, ◌++◌, length, drop, map, get_or, Err, sym, ◌∙◌, ap, subst, append_assoc}
use Rattle.std.proofs.lemmas.List.{append-nil, drop_more, drop_all}
use Rattle.std.proofs.lemmas.List.Sums.{sum_by_push}
use Rattle.trace_file.specs.Edges.{Edge, pairs}
use Rattle.top_plan.specs.World.{World}
use Rattle.top_plan.specs.Texts.{WorkEnd}
use Rattle.top_plan.specs.Plan.{Plan, Went}
use Rattle.top_files.specs.TracesPart.{trace_part, traces_part}
use Rattle.top_plan.specs.declared.ends.Halt.{Halt}

-- the name at an index, and those behind it
pub next_name : {X : Type 0} (text : X → List ℕ) (names : List X) (i : ℕ) (name : X) (lent : List ℕ) → i < length names → name ≡ get_or names i name → lent ≡ text name → map text (drop i names) ≡ lent ∷ map text (drop (i + 1) names)
next_name text names i name lent there is same = ap (map text) (drop_more names i name there) ∙ ap (λ x. x ∷ map text (drop (i + 1) names)) (ap text (sym is) ∙ sym same)

pub no_name : {X : Type 0} (text : X → List ℕ) (names : List X) (i : ℕ) → length names ≤ i → map text (drop i names) ≡ []
no_name text names i past = ap (map text) (drop_all i names past)

-- how many edges there are with those of one more trace
pub pushed : (traces : List (List Edge)) (es : List Edge) → pairs (traces ++ es ∷ []) ≡ pairs traces + length es
pushed traces es = sum_by_push length traces es

-- what comes after traces, some of which are there
abbrev Next : Type 0
Next = List (List Edge) → Plan

joined : (next : Next) (done : List (List Edge)) (es : List Edge) → (let f : Next = λ rest. next ((done ++ es ∷ []) ++ rest) in f) ≡ (λ rest. next (done ++ (es ∷ rest)))
joined next done es = simp append_assoc

-- nothing but what is there
pub traces_begin : (digest : List ℕ) (names : List (List ℕ)) (word before : ℕ) (done : List (List Edge)) (next : List (List Edge) → Plan) (s : World) (o : WorkEnd) (u : World)
    → done ≡ [] → Went (traces_part digest names word before (λ rest. next (done ++ rest))) s o u → Went (traces_part digest names word before next) s o u
traces_begin digest names word before done next s o u is went =
    let P : List (List Edge) → Type 0 = λ done. Went (traces_part digest names word before (λ rest. next (done ++ rest))) s o u in
    subst P is went

-- what is there with one more trace
pub with_trace : (digest : List ℕ) (names : List (List ℕ)) (word before : ℕ) (done done' : List (List Edge)) (next : List (List Edge) → Plan) (s : World) (o : WorkEnd) (u : World)
    → done' ≡ done → Went (traces_part digest names word before (λ rest. next (done' ++ rest))) s o u → Went (traces_part digest names word before (λ rest. next (done ++ rest))) s o u
with_trace digest names word before done done' next s o u is went =
    let P : List (List Edge) → Type 0 = λ done. Went (traces_part digest names word before (λ rest. next (done ++ rest))) s o u in
    subst P is went

-- the first of the names is fetched, and the rest follow
pub traces_on : (digest : List ℕ) (names more : List (List ℕ)) (word before word' before' : ℕ) (name : List ℕ) (es : List Edge) (done : List (List Edge)) (next : List (List Edge) → Plan) (s t : World) (o : WorkEnd) (u : World)
    → names ≡ name ∷ more → word' ≡ word + 1 → before' ≡ before + length es
    → ((next : List Edge → Plan) (o : WorkEnd) (u : World) → Went (next es) t o u → Went (trace_part digest name word before next) s o u)
    → Went (traces_part digest more word' before' (λ rest. next ((done ++ es ∷ []) ++ rest))) t o u
    → Went (traces_part digest names word before (λ rest. next (done ++ rest))) s o u
unfolding traces_part
traces_on digest names more word before word' before' name es done next s t o u is is-word is-before first went =
    let P : List (List ℕ) → Type 0 = λ names. Went (traces_part digest names word before (λ rest. next (done ++ rest))) s o u in
    let W : ℕ → Type 0 = λ w. Went (traces_part digest more w before' (λ rest. next ((done ++ es ∷ []) ++ rest))) t o u in
    let B : ℕ → Type 0 = λ b. Went (traces_part digest more (word + 1) b (λ rest. next ((done ++ es ∷ []) ++ rest))) t o u in
    let N : Next → Type 0 = λ f. Went (traces_part digest more (word + 1) (before + length es) f) t o u in
    subst P (sym is) (first (λ es. traces_part digest more (word + 1) (before + length es) (λ rest. next (done ++ (es ∷ rest)))) o u (subst N (joined next done es) (subst B is-before (subst W is-word went))))

-- the first of the names is not fetched
pub traces_fail : (digest : List ℕ) (names more : List (List ℕ)) (word before : ℕ) (name : List ℕ) (stop : Halt) (next : List (List Edge) → Plan) (s t : World)
    → names ≡ name ∷ more
    → ((next : List Edge → Plan) → Went (trace_part digest name word before next) s (Err stop) t)
    → Went (traces_part digest names word before next) s (Err stop) t
unfolding traces_part
traces_fail digest names more word before name stop next s t is first =
    let P : List (List ℕ) → Type 0 = λ names. Went (traces_part digest names word before next) s (Err stop) t in
    subst P (sym is) (first (λ es. traces_part digest more (word + 1) (before + length es) (λ rest. next (es ∷ rest))))

-- no names are left
pub traces_done : (digest : List ℕ) (names : List (List ℕ)) (word before : ℕ) (done : List (List Edge)) (next : List (List Edge) → Plan) (s : World) (o : WorkEnd) (u : World)
    → names ≡ [] → Went (next done) s o u → Went (traces_part digest names word before (λ rest. next (done ++ rest))) s o u
unfolding traces_part
traces_done digest names word before done next s o u is went =
    let P : List (List ℕ) → Type 0 = λ names. Went (traces_part digest names word before (λ rest. next (done ++ rest))) s o u in
    let Q : List (List Edge) → Type 0 = λ all. Went (next all) s o u in
    subst P (sym is) (subst Q (sym (append-nil done)) went)
