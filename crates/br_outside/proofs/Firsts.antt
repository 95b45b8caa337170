-- Pairs of names and contents, the first of a name: a search, a change and a push.
use Rattle.std.proofs.Common.{◌≡◌, ◌<◌, ◌+◌, ℕ, suc, zero, List, [], ◌∷◌, ◌++◌, length, take, set, get_or, Option, Some, None, Bool, true, false, cond, refl, sym, ap, ◌∙◌, subst, String, Vec, string_bytes, arith}
use Rattle.std.specs.Str.{bytes_eq}
use Rattle.std.proofs.lemmas.List.{get_or_default}
use Rattle.std.proofs.lemmas.Slice.Eq.{bytes_eq-Decides}
use Rattle.std.proofs.Math.Path.{fun_ext}
use Rattle.br_outside.specs.Files.{put, found, IsFirst}

none_along : (b : Bool) (x : List ℕ) (o p : Option (List ℕ)) → (o ≡ None → p ≡ None) → cond b (Some x) o ≡ None → cond b (Some x) p ≡ None
none_along true x o p f h = h
none_along false x o p f h = f h

none_with : {A B : Type 0} (name : List ℕ) (pairs : List (String A × Vec ℕ B)) (place : ℕ) (d : String A × Vec ℕ B) → place < length pairs → bytes_eq (string_bytes (get_or pairs place d).0) name ≡ false → found (take place pairs) name ≡ None → found (take (suc place) pairs) name ≡ None
none_with name [] place d less other none = absurd (omega arith)
none_with name (p ∷ pairs) zero d less other none = rw other refl
none_with name (p ∷ pairs) (suc place) d less other none =
    none_along (bytes_eq (string_bytes p.0) name) (p.1).items (found (take place pairs) name) (found (take (suc place) pairs) name) (none_with name pairs place d (omega arith) other) none

-- no pair of the name up to this place either, if its pair has another one
pub none_up_to : {A B : Type 0} (name : List ℕ) (pairs : List (String A × Vec ℕ B)) (place : ℕ) (d : String A × Vec ℕ B) → place < length pairs → bytes_eq (string_bytes (get_or pairs place d).0) name ≡ false → found (take place pairs) name ≡ None → found (take (place + 1) pairs) name ≡ None
none_up_to name pairs place d less other none =
    let e : suc place ≡ place + 1 = omega arith in subst (λ n. found (take n pairs) name ≡ None) e (none_with name pairs place d less other none)

-- the first pair of the name, if none was before
pub first_here : {A B : Type 0} (name : List ℕ) (pairs : List (String A × Vec ℕ B)) (place : ℕ) (d : String A × Vec ℕ B) → place < length pairs → bytes_eq (string_bytes (get_or pairs place d).0) name ≡ true → found (take place pairs) name ≡ None → IsFirst name pairs place
first_here name pairs place d less is none = record { none_before = none; here = λ e. ap (λ r. string_bytes r.0) (get_or_default pairs place e d less) ∙ (bytes_eq-Decides (string_bytes (get_or pairs place d).0) name).0 is }

-- two names that differ are not both a third
apart : (k name q : List ℕ) → bytes_eq k name ≡ false → bytes_eq k q ≡ true → bytes_eq name q ≡ true → ⊥
apart k name q other is this = let h : bytes_eq k name ≡ true = (bytes_eq-Decides k name).1 ((bytes_eq-Decides k q).0 is ∙ sym ((bytes_eq-Decides name q).0 this)) in cc

swapped : (b c : Bool) (x y o : Option (List ℕ)) → (b ≡ true → c ≡ true → ⊥) → cond b x (cond c y o) ≡ cond c y (cond b x o)
swapped true true x y o h = absurd (h refl refl)
swapped true false x y o h = refl
swapped false true x y o h = refl
swapped false false x y o h = refl

shadowed : (b : Bool) (x y o : Option (List ℕ)) → cond b x o ≡ cond b x (cond b y o)
shadowed true x y o = refl
shadowed false x y o = refl

other_name : (b : Bool) (x : List ℕ) (o : Option (List ℕ)) → cond b (Some x) o ≡ None → b ≡ false
other_name true x o h = cc
other_name false x o h = refl

none_after : (b : Bool) (x : List ℕ) (o : Option (List ℕ)) → cond b (Some x) o ≡ None → o ≡ None
none_after true x o h = cc
none_after false x o h = h

-- a change behind a pair of another name
behind : (k name q x bytes : List ℕ) (o p : Option (List ℕ)) → bytes_eq k name ≡ false → p ≡ cond (bytes_eq name q) (Some bytes) o → cond (bytes_eq k q) (Some x) p ≡ cond (bytes_eq name q) (Some bytes) (cond (bytes_eq k q) (Some x) o)
behind k name q x bytes o p other is = ap (λ r. cond (bytes_eq k q) (Some x) r) is ∙ swapped (bytes_eq k q) (bytes_eq name q) (Some x) (Some bytes) o (apart k name q other)

set_at : {A B : Type 0} (name : List ℕ) (pairs : List (String A × Vec ℕ B)) (place : ℕ) (next : String A × Vec ℕ B) (q : List ℕ) → place < length pairs → IsFirst name pairs place → string_bytes next.0 ≡ name → found (set pairs place next) q ≡ put name (Some (next.1).items) (found pairs) q
set_at name [] place next q less first is = absurd (omega arith)
set_at name (p ∷ pairs) zero next q less first is =
    let at : string_bytes p.0 ≡ name = first.here p in rw (at, is) (shadowed (bytes_eq name q) (Some (next.1).items) (Some (p.1).items) (found pairs q))
set_at name (p ∷ pairs) (suc place) next q less first is =
    let later : IsFirst name pairs place = record { none_before = none_after (bytes_eq (string_bytes p.0) name) (p.1).items (found (take place pairs) name) first.none_before; here = first.here }
    in behind (string_bytes p.0) name q (p.1).items (next.1).items (found pairs q) (found (set pairs place next) q) (other_name (bytes_eq (string_bytes p.0) name) (p.1).items (found (take place pairs) name) first.none_before) (set_at name pairs place next q (omega arith) later is)

pushed_at : {A B : Type 0} (name : List ℕ) (pairs : List (String A × Vec ℕ B)) (next : String A × Vec ℕ B) (q : List ℕ) → found pairs name ≡ None → string_bytes next.0 ≡ name → found (pairs ++ next ∷ []) q ≡ put name (Some (next.1).items) (found pairs) q
pushed_at name [] next q none is = rw is refl
pushed_at name (p ∷ pairs) next q none is =
    behind (string_bytes p.0) name q (p.1).items (next.1).items (found pairs q) (found (pairs ++ next ∷ []) q) (other_name (bytes_eq (string_bytes p.0) name) (p.1).items (found pairs name) none) (pushed_at name pairs next q (none_after (bytes_eq (string_bytes p.0) name) (p.1).items (found pairs name) none) is)

-- a new content in the first pair of a name
pub found-set : {A B : Type 0} (name : List ℕ) (pairs : List (String A × Vec ℕ B)) (place : ℕ) (next : String A × Vec ℕ B) → place < length pairs → IsFirst name pairs place → string_bytes next.0 ≡ name → found (set pairs place next) ≡ put name (Some (next.1).items) (found pairs)
found-set name pairs place next less first is = fun_ext (λ q. set_at name pairs place next q less first is)

-- a new pair at the end, of a name that was not there
pub found-push : {A B : Type 0} (name : List ℕ) (pairs : List (String A × Vec ℕ B)) (next : String A × Vec ℕ B) → found pairs name ≡ None → string_bytes next.0 ≡ name → found (pairs ++ next ∷ []) ≡ put name (Some (next.1).items) (found pairs)
found-push name pairs next none is = fun_ext (λ q. pushed_at name pairs next q none is)

-- the content of a name, at the place of its first pair
pub content_at : {A B : Type 0} (name : List ℕ) (pairs : List (String A × Vec ℕ B)) (place : ℕ) (d : String A × Vec ℕ B) → IsFirst name pairs place → place < length pairs → found pairs name ≡ Some ((get_or pairs place d).1).items
content_at name [] place d first less = absurd (omega arith)
content_at name (p ∷ pairs) zero d first less = rw ((bytes_eq-Decides (string_bytes p.0) name).1 (first.here p)) refl
content_at name (p ∷ pairs) (suc place) d first less =
    let later : IsFirst name pairs place = record { none_before = none_after (bytes_eq (string_bytes p.0) name) (p.1).items (found (take place pairs) name) first.none_before; here = first.here }
    in rw (other_name (bytes_eq (string_bytes p.0) name) (p.1).items (found (take place pairs) name) first.none_before) (content_at name pairs place d later (omega arith))
