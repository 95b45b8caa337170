-- Numbers in order, each once: a list that is determined by its members.
use Rattle.std.proofs.Common.{◌≡◌, ℕ, zero, suc, ◌+◌, ◌<◌, ◌≤◌, ◌⊎◌, Bool, true, false, List, [], ◌∷◌, length, get_or, refl, sym, subst, ap, ◌∙◌, inl, inr, arith}
use Rattle.std.specs.Prelude.{Contains, nat_lt, ◌==◌, if◌then◌else◌}
use Rattle.std.specs.List.Sorted.{IsStrictlyIncreasing}
use Rattle.std.proofs.lemmas.Bool.Decides.{nat_tests}
use Rattle.trace_file.proofs.Union.{here, there, first_or_later}
use Rattle.trace_file.proofs.Unique.{none}
use Rattle.flow_graph.specs.GraphOf.{with_start, with_starts}

-- they ascend from a number below the first
abbrev pub From : ℕ → List ℕ → Type 0
From a [] = Unit {0}
From a (b ∷ bs) = (a < b) × From b bs

abbrev pub Up : List ℕ → Type 0
Up [] = Unit {0}
Up (a ∷ more) = From a more

abbrev pub Within : List ℕ → List ℕ → Type 0
Within xs ys = (e : ℕ) → Contains xs e → Contains ys e

-- ---- the same, by places

to_from : (a : ℕ) (xs : List ℕ) → IsStrictlyIncreasing (a ∷ xs) → From a xs
to_from a [] h = tt
to_from a (b ∷ bs) h = (h 0 (omega arith), to_from b bs later)
  where
    later : IsStrictlyIncreasing (b ∷ bs)
    later k l =
        let e : suc k + 1 ≡ suc (k + 1) = omega arith in
        let P : ℕ → Type 0 = λ n. get_or (b ∷ bs) k 0 < get_or (a ∷ b ∷ bs) n 0 in
        subst P e (h (suc k) (omega arith))

pub to_up : (xs : List ℕ) → IsStrictlyIncreasing xs → Up xs
to_up [] h = tt
to_up (a ∷ xs) h = to_from a xs h

of_from : (a : ℕ) (xs : List ℕ) → From a xs → IsStrictlyIncreasing (a ∷ xs)
of_from a [] h k l = absurd (omega arith)
of_from a (b ∷ bs) h zero l = h.0
of_from a (b ∷ bs) h (suc k) l =
    let e : suc (k + 1) ≡ suc k + 1 = omega arith in
    let P : ℕ → Type 0 = λ n. get_or (b ∷ bs) k 0 < get_or (a ∷ b ∷ bs) n 0 in
    subst P e (of_from b bs h.1 k (omega arith))

pub of_up : (xs : List ℕ) → Up xs → IsStrictlyIncreasing xs
of_up [] h = λ k l. absurd (omega arith)
of_up (a ∷ xs) h = of_from a xs h

-- ---- members

up_rest : (a : ℕ) (xs : List ℕ) → From a xs → Up xs
up_rest a [] h = tt
up_rest a (b ∷ bs) h = h.1

above : (a x : ℕ) (xs : List ℕ) → From a xs → Contains xs x → a < x
above a x [] h c = absurd (none x c)
above a x (b ∷ bs) h c = elim (first_or_later b x bs c) [
  | inl s ↦ omega (arith, h.0, s)
  | inr r ↦ omega (arith, h.0, above b x bs h.1 r)
]

not_below : (a x : ℕ) (xs : List ℕ) → From a xs → Contains (a ∷ xs) x → a ≤ x
not_below a x xs h c = elim (first_or_later a x xs c) [ inl s ↦ omega (arith, s) | inr r ↦ omega (arith, above a x xs h r) ]

-- what is above the first of a list stands behind it
behind : (b x : ℕ) (ys : List ℕ) → b < x → Contains (b ∷ ys) x → Contains ys x
behind b x ys l c = elim (first_or_later b x ys c) [ inl s ↦ absurd (omega (arith, s)) | inr r ↦ r ]

same_first : (a b : ℕ) (xs ys : List ℕ) → From a xs → From b ys → Within (a ∷ xs) (b ∷ ys) → Within (b ∷ ys) (a ∷ xs) → a ≡ b
same_first a b xs ys h g f t = omega (arith, not_below b a ys g (f a (here a xs)), not_below a b xs h (t b (here b ys)))

rest_within : (a b : ℕ) (xs ys : List ℕ) → From a xs → b ≤ a → Within (a ∷ xs) (b ∷ ys) → Within xs ys
rest_within a b xs ys h l f e c = behind b e ys (omega (arith, above a e xs h c)) (f e (there a e xs c))

pub same_list : (xs ys : List ℕ) → Up xs → Up ys → Within xs ys → Within ys xs → xs ≡ ys
same_list [] [] h g f t = refl
same_list [] (b ∷ ys) h g f t = absurd (none b (t b (here b ys)))
same_list (a ∷ xs) [] h g f t = absurd (none a (f a (here a xs)))
same_list (a ∷ xs) (b ∷ ys) h g f t =
    let s = same_first a b xs ys h g f t in
    let r = same_list xs ys (up_rest a xs h) (up_rest b ys g) (rest_within a b xs ys h (omega (arith, s)) f) (rest_within b a ys xs g (omega (arith, s)) t) in
    ap (λ x. x ∷ xs) s ∙ ap (λ zs. b ∷ zs) r

-- a list with all of them is no shorter
pub no_longer : (ys xs : List ℕ) → Up xs → Up ys → Within xs ys → length xs ≤ length ys
no_longer ys [] h g f = omega arith
no_longer [] (a ∷ xs) h g f = absurd (none a (f a (here a xs)))
no_longer (b ∷ ys) (a ∷ xs) h g f = omega (arith, no_longer ys xs (up_rest a xs h) (up_rest b ys g) (rest_within a b xs ys h (not_below b a ys g (f a (here a xs))) f))

-- ---- a number put in its place

pub at_first : (a e : ℕ) (xs : List ℕ) → a ≡ e → Contains (a ∷ xs) e
at_first a e xs h = let P : ℕ → Type 0 = λ x. Contains (x ∷ xs) e in subst P (sym h) (here e xs)

from_with : (s u : ℕ) (ts : List ℕ) → Contains (with_start s ts) u → (s ≡ u) ⊎ Contains ts u
from_with s u [] c = first_or_later s u [] c
from_with s u (t ∷ ts) c = go (nat_lt s t) (s == t) (from_with s u ts) c
  where
    go : (p q : Bool) → (Contains (with_start s ts) u → (s ≡ u) ⊎ Contains ts u) → Contains (if p then (s ∷ t ∷ ts) else (if q then (t ∷ ts) else (t ∷ with_start s ts))) u → (s ≡ u) ⊎ Contains (t ∷ ts) u
    go true q r c = first_or_later s u (t ∷ ts) c
    go false true r c = inr c
    go false false r c = elim (first_or_later t u (with_start s ts) c) [
      | inl e ↦ inr (at_first t u ts e)
      | inr d ↦ elim (r d) [ inl e ↦ inl e | inr x ↦ inr (there t u ts x) ]
    ]

to_with : (s u : ℕ) (ts : List ℕ) → (s ≡ u) ⊎ Contains ts u → Contains (with_start s ts) u
to_with s u [] (inl e) = at_first s u [] e
to_with s u [] (inr c) = absurd (none u c)
to_with s u (t ∷ ts) c = go (nat_lt s t) (s == t) refl (to_with s u ts) c
  where
    go : (p q : Bool) → (s == t) ≡ q → ((s ≡ u) ⊎ Contains ts u → Contains (with_start s ts) u) → (s ≡ u) ⊎ Contains (t ∷ ts) u → Contains (if p then (s ∷ t ∷ ts) else (if q then (t ∷ ts) else (t ∷ with_start s ts))) u
    go true q h r (inl e) = at_first s u (t ∷ ts) e
    go true q h r (inr c) = there s u (t ∷ ts) c
    go false true h r (inl e) = at_first t u ts (grind (arith, nat_tests))
    go false true h r (inr c) = c
    go false false h r (inl e) = there t u (with_start s ts) (r (inl e))
    go false false h r (inr c) = elim (first_or_later t u ts c) [ inl e ↦ at_first t u (with_start s ts) e | inr d ↦ there t u (with_start s ts) (r (inr d)) ]

from_from : (a s : ℕ) (ts : List ℕ) → a < s → From a ts → From a (with_start s ts)
from_from a s [] l h = (l, tt)
from_from a s (t ∷ ts) l h = go (nat_lt s t) (s == t) refl refl (from_from t s ts)
  where
    go : (p q : Bool) → nat_lt s t ≡ p → (s == t) ≡ q → (t < s → From t ts → From t (with_start s ts)) → From a (if p then (s ∷ t ∷ ts) else (if q then (t ∷ ts) else (t ∷ with_start s ts)))
    go true q e f r = (l, (grind (arith, nat_tests), h.1))
    go false true e f r = h
    go false false e f r = (h.0, r (grind (arith, nat_tests)) h.1)

up_with : (s : ℕ) (ts : List ℕ) → Up ts → Up (with_start s ts)
up_with s [] h = tt
up_with s (t ∷ ts) h = go (nat_lt s t) (s == t) refl refl
  where
    go : (p q : Bool) → nat_lt s t ≡ p → (s == t) ≡ q → Up (if p then (s ∷ t ∷ ts) else (if q then (t ∷ ts) else (t ∷ with_start s ts)))
    go true q e f = (grind (arith, nat_tests), h)
    go false true e f = h
    go false false e f = from_from t s ts (grind (arith, nat_tests)) h

-- ---- several

pub from_starts : (u : ℕ) (ss ts : List ℕ) → Contains (with_starts ss ts) u → Contains ss u ⊎ Contains ts u
from_starts u [] ts c = inr c
from_starts u (s ∷ ss) ts c = elim (from_with s u (with_starts ss ts) c) [
  | inl e ↦ inl (at_first s u ss e)
  | inr d ↦ elim (from_starts u ss ts d) [ inl x ↦ inl (there s u ss x) | inr y ↦ inr y ]
]

pub to_starts : (u : ℕ) (ss ts : List ℕ) → Contains ss u ⊎ Contains ts u → Contains (with_starts ss ts) u
to_starts u [] ts (inl c) = absurd (none u c)
to_starts u [] ts (inr c) = c
to_starts u (s ∷ ss) ts (inl c) = to_with s u (with_starts ss ts) (elim (first_or_later s u ss c) [ inl e ↦ inl e | inr d ↦ inr (to_starts u ss ts (inl d)) ])
to_starts u (s ∷ ss) ts (inr c) = to_with s u (with_starts ss ts) (inr (to_starts u ss ts (inr c)))

pub up_starts : (ss ts : List ℕ) → Up ts → Up (with_starts ss ts)
up_starts [] ts h = h
up_starts (s ∷ ss) ts h = up_with s (with_starts ss ts) (up_starts ss ts h)
