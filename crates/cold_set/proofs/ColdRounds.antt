-- The rounds of cold starts come to an end, with the members of the least closed set.
use Rattle.std.proofs.Common.{◌≡◌, ℕ, zero, suc, ◌+◌, ◌^◌, ◌<◌, ◌≤◌, ◌⊎◌, Bool, true, false, ◌&&◌, ◌||◌, List, [], ◌∷◌, length, cond, refl, sym, subst, ap, ◌∙◌, inl, inr, arith}
use Rattle.std.specs.Prelude.{Contains, nat_lt, ◌==◌, if◌then◌else◌, not, filter}
use Rattle.std.proofs.lemmas.Bool.Decides.{nat_tests}
use Rattle.std.proofs.lemmas.List.Elements.{Contains-append_left, Contains-append_right, Contains-append_cases}
use Rattle.elf_read.specs.declared.exe.Exe.{Exe}
use Rattle.elf_read.specs.declared.exe.Segment.{Segment}
use Rattle.elf_read.specs.Elf.{AreSegments, IsGuest, in_segment, is_exec}
use Rattle.block_cut.specs.Transfers.{is_among}
use Rattle.trace_file.proofs.Union.{here, there, first_or_later}
use Rattle.trace_file.proofs.Unique.{none}
use Rattle.flow_graph.specs.GraphOf.{with_start, with_starts}
use Rattle.flow_graph.proofs.Ascending.{Up, From, Within, of_up, same_list, no_longer, at_first, from_starts, to_starts, up_starts}
use Rattle.cold_set.specs.ColdStarts.{ways, is_free, each_gives, roots, all_ways, IsColdClosed, cold_rounds, cold_list, ColdLeast}

-- ---- members of a filter, and of what each gives

pub in_filter : (p : ℕ → Bool) (xs : List ℕ) (x : ℕ) → Contains xs x → p x ≡ true → Contains (filter p xs) x
in_filter p [] x c h = absurd (none x c)
in_filter p (y ∷ ys) x c h = go (p y) refl (first_or_later y x ys c) (λ d. in_filter p ys x d h)
  where
    go : (b : Bool) → p y ≡ b → (y ≡ x) ⊎ Contains ys x → (Contains ys x → Contains (filter p ys) x) → Contains (cond b (y ∷ filter p ys) (filter p ys)) x
    go true e (inl s) rest = at_first y x (filter p ys) s
    go true e (inr d) rest = there y x (filter p ys) (rest d)
    go false e (inl s) rest = let bad : false ≡ true = sym e ∙ (ap p s ∙ h) in cc
    go false e (inr d) rest = rest d

pub of_filter : (p : ℕ → Bool) (xs : List ℕ) (x : ℕ) → Contains (filter p xs) x → Contains xs x × (p x ≡ true)
of_filter p [] x c = absurd (none x c)
of_filter p (y ∷ ys) x c = go (p y) refl c (of_filter p ys x)
  where
    go : (b : Bool) → p y ≡ b → Contains (cond b (y ∷ filter p ys) (filter p ys)) x → (Contains (filter p ys) x → Contains ys x × (p x ≡ true)) → Contains (y ∷ ys) x × (p x ≡ true)
    go true e c rest = elim (first_or_later y x (filter p ys) c) [
      | inl s ↦ (at_first y x ys s, ap p (sym s) ∙ e)
      | inr d ↦ let r = rest d in (there y x ys r.0, r.1)
    ]
    go false e c rest = let r = rest c in (there y x ys r.0, r.1)

pub in_each : (f : ℕ → List ℕ) (xs : List ℕ) (x y : ℕ) → Contains xs x → Contains (f x) y → Contains (each_gives f xs) y
in_each f [] x y c h = absurd (none x c)
in_each f (z ∷ zs) x y c h = elim (first_or_later z x zs c) [
  | inl s ↦ Contains-append_left (f z) (each_gives f zs) y (let P : ℕ → Type 0 = λ z. Contains (f z) y in subst P (sym s) h)
  | inr d ↦ Contains-append_right (f z) (each_gives f zs) y (in_each f zs x y d h)
]

pub of_each : (f : ℕ → List ℕ) (xs : List ℕ) (y : ℕ) → Contains (each_gives f xs) y → (x : ℕ) × Contains xs x × Contains (f x) y
of_each f [] y c = absurd (none y c)
of_each f (z ∷ zs) y c = elim (Contains-append_cases (f z) (each_gives f zs) y c) [
  | inl d ↦ (z, here z zs, d)
  | inr d ↦ let r = of_each f zs y d in (r.0, there z r.0 zs r.1, r.2)
]

-- ---- free addresses are below the end of memory

in_below : (exec : Bool) (at : ℕ) (s : Segment) → (exec && in_segment at s) ≡ true → at < s.start + s.size
in_below true at s e = grind (arith, nat_tests)
in_below false at s e = cc

exec_below : (low at : ℕ) (ss : List Segment) → AreSegments low ss → is_exec at ss ≡ true → at < 0xA0000000
exec_below low at [] each e = cc
exec_below low at (s ∷ ss) each e = go (s.perms.exec && in_segment at s) refl (exec_below low at ss each.1) e
  where
    go : (b : Bool) → (s.perms.exec && in_segment at s) ≡ b → (is_exec at ss ≡ true → at < 0xA0000000) → (b || is_exec at ss) ≡ true → at < 0xA0000000
    go true f rest e = omega (arith, in_below s.perms.exec at s f, each.0.high)
    go false f rest e = rest e

free_below : (exe : Exe) (starts : List ℕ) (x : ℕ) → IsGuest exe → is_free exe starts x ≡ true → x < 0xA0000000
free_below exe starts x g h = go (is_exec x exe.segments) (is_among starts x) refl h
  where
    go : (b c : Bool) → is_exec x exe.segments ≡ b → (b && not c) ≡ true → x < 0xA0000000
    go true c e h = exec_below 0x01000000 x exe.segments g.segments e
    go false c e h = cc

-- ascending numbers below another are no more than it
few_from : (n a : ℕ) (xs : List ℕ) → From a xs → a < n → ((x : ℕ) → Contains xs x → x < n) → a + length xs < n
few_from n a [] h l all = omega (arith, l)
few_from n a (b ∷ bs) h l all = omega (arith, h.0, few_from n b bs h.1 (all b (here b bs)) (λ x c. all x (there b x bs c)))

few : (n : ℕ) (xs : List ℕ) → Up xs → ((x : ℕ) → Contains xs x → x < n) → length xs ≤ n
few n [] h all = omega arith
few n (a ∷ xs) h all = omega (arith, few_from n a xs h (all a (here a xs)) (λ x c. all x (there a x xs c)))

-- ---- each round

module _ (exe : Exe) (starts : List ℕ) where
  abbrev free : List ℕ → List ℕ
  free xs = filter (is_free exe starts) xs

  -- a round from the members before
  abbrev joined : List ℕ → List ℕ
  joined xs = with_starts (free (all_ways exe xs)) xs

  round_is : (n : ℕ) → cold_rounds exe starts (suc n) ≡ joined (cold_rounds exe starts n)
  unfolding cold_rounds
  round_is n = refl

  first_is : cold_rounds exe starts 0 ≡ with_starts (free (roots exe starts)) []
  unfolding cold_rounds
  first_is = refl

  up : (n : ℕ) → Up (cold_rounds exe starts n)
  unfolding cold_rounds
  up zero = up_starts (free (roots exe starts)) [] tt
  up (suc n) = up_starts (free (all_ways exe (cold_rounds exe starts n))) (cold_rounds exe starts n) (up n)

  all_free : (n x : ℕ) → Contains (cold_rounds exe starts n) x → is_free exe starts x ≡ true
  unfolding cold_rounds
  all_free zero x c = elim (from_starts x (free (roots exe starts)) [] c) [
    | inl d ↦ (of_filter (is_free exe starts) (roots exe starts) x d).1
    | inr d ↦ absurd (none x d)
  ]
  all_free (suc n) x c = elim (from_starts x (free (all_ways exe (cold_rounds exe starts n))) (cold_rounds exe starts n) c) [
    | inl d ↦ (of_filter (is_free exe starts) (all_ways exe (cold_rounds exe starts n)) x d).1
    | inr d ↦ all_free n x d
  ]

  least : (p : ℕ → Bool) → IsColdClosed exe starts (λ x. p x ≡ true) → (n x : ℕ) → Contains (cold_rounds exe starts n) x → p x ≡ true
  unfolding cold_rounds
  least p h zero x c = elim (from_starts x (free (roots exe starts)) [] c) [
    | inl d ↦ let r = of_filter (is_free exe starts) (roots exe starts) x d in h.begins x r.0 r.1
    | inr d ↦ absurd (none x d)
  ]
  least p h (suc n) x c = elim (from_starts x (free (all_ways exe (cold_rounds exe starts n))) (cold_rounds exe starts n) c) [
    | inl d ↦
        let r = of_filter (is_free exe starts) (all_ways exe (cold_rounds exe starts n)) x d in
        let w = of_each (ways exe) (cold_rounds exe starts n) x r.0 in
        h.goes_on w.0 x (least p h n w.0 w.1) w.2 r.1
    | inr d ↦ least p h n x d
  ]

  begins : (n x : ℕ) → Contains (roots exe starts) x → is_free exe starts x ≡ true → Contains (cold_rounds exe starts n) x
  unfolding cold_rounds
  begins zero x c f = to_starts x (free (roots exe starts)) [] (inl (in_filter (is_free exe starts) (roots exe starts) x c f))
  begins (suc n) x c f = to_starts x (free (all_ways exe (cold_rounds exe starts n))) (cold_rounds exe starts n) (inr (begins n x c f))

  goes_on : (xs : List ℕ) (x y : ℕ) → joined xs ≡ xs → Contains xs x → Contains (ways exe x) y → is_free exe starts y ≡ true → Contains xs y
  goes_on xs x y e c w f =
      let P : List ℕ → Type 0 = λ zs. Contains zs y in
      subst P e (to_starts y (free (all_ways exe xs)) xs (inl (in_filter (is_free exe starts) (all_ways exe xs) y (in_each (ways exe) xs x y c w) f)))

-- ---- a round adds a member, or is the last

is_in : (y : ℕ) (xs : List ℕ) → Contains xs y ⊎ (Contains xs y → ⊥)
is_in y [] = inr (none y)
is_in y (x ∷ xs) = go (x == y) refl (is_in y xs)
  where
    go : (b : Bool) → (x == y) ≡ b → Contains xs y ⊎ (Contains xs y → ⊥) → Contains (x ∷ xs) y ⊎ (Contains (x ∷ xs) y → ⊥)
    go true e rest = inl (at_first x y xs (grind (arith, nat_tests)))
    go false e (inl c) = inl (there x y xs c)
    go false e (inr lacks) = inr (λ c. elim (first_or_later x y xs c) [ inl s ↦ grind (arith, nat_tests) | inr d ↦ lacks d ])

-- ys has a member that is not in xs, or all of them are
abbrev More : List ℕ → List ℕ → Type 0
More ys xs = (y : ℕ) × Contains ys y × (Contains xs y → ⊥)

all_in : (ys xs : List ℕ) → Within ys xs ⊎ More ys xs
all_in [] xs = inl (λ e c. absurd (none e c))
all_in (y ∷ ys) xs = go (is_in y xs) (all_in ys xs)
  where
    go : Contains xs y ⊎ (Contains xs y → ⊥) → Within ys xs ⊎ More ys xs → Within (y ∷ ys) xs ⊎ More (y ∷ ys) xs
    go (inr lacks) rest = inr (y, here y ys, lacks)
    go (inl c) (inr m) = inr (m.0, there y m.0 ys m.1, m.2)
    go (inl c) (inl w) = inl (λ e d. elim (first_or_later y e ys d) [ inl s ↦ (let P : ℕ → Type 0 = λ z. Contains xs z in subst P s c) | inr r ↦ w e r ])

length_with : (y : ℕ) (xs : List ℕ) → (Contains xs y → ⊥) → length (with_start y xs) ≡ suc (length xs)
length_with y [] lacks = refl
length_with y (x ∷ xs) lacks = go (nat_lt y x) (y == x) refl (length_with y xs (λ c. lacks (there x y xs c)))
  where
    go : (p q : Bool) → (y == x) ≡ q → length (with_start y xs) ≡ suc (length xs) → length (if p then (y ∷ x ∷ xs) else (if q then (x ∷ xs) else (x ∷ with_start y xs))) ≡ suc (length (x ∷ xs))
    go true q e r = refl
    go false true e r = absurd (lacks (at_first x y xs (grind (arith, nat_tests))))
    go false false e r = omega (arith, r)

longer : (ys xs : List ℕ) → Up xs → More ys xs → length xs < length (with_starts ys xs)
longer ys xs h m =
    let within : Within (with_starts (m.0 ∷ []) xs) (with_starts ys xs) = λ e c. to_starts e ys xs (elim (from_starts e (m.0 ∷ []) xs c) as (λ _. Contains ys e ⊎ Contains xs e) [
      | inl d ↦ elim (first_or_later m.0 e [] d) as (λ _. Contains ys e ⊎ Contains xs e) [
        | inl s ↦ inl (let P : ℕ → Type 0 = λ z. Contains ys z in subst P s m.1)
        | inr d ↦ absurd (none e d)
      ]
      | inr d ↦ inr d
    ]) in
    omega (arith, length_with m.0 xs m.2, no_longer (with_starts ys xs) (with_starts (m.0 ∷ []) xs) (up_starts (m.0 ∷ []) xs h) (up_starts ys xs h) within)

same : (ys xs : List ℕ) → Up xs → Within ys xs → with_starts ys xs ≡ xs
same ys xs h w = same_list (with_starts ys xs) xs (up_starts ys xs h) h (λ e c. elim (from_starts e ys xs c) [ inl d ↦ w e d | inr d ↦ d ]) (λ e c. to_starts e ys xs (inr c))

last_or_longer : (exe : Exe) (starts : List ℕ) (n : ℕ) → (joined exe starts (cold_rounds exe starts n) ≡ cold_rounds exe starts n) ⊎ (n ≤ length (cold_rounds exe starts n))
last_or_longer exe starts zero = inr (omega arith)
last_or_longer exe starts (suc n) = go (last_or_longer exe starts n)
  where
    xs : List ℕ
    xs = cold_rounds exe starts n

    stays : joined exe starts xs ≡ xs → joined exe starts (cold_rounds exe starts (suc n)) ≡ cold_rounds exe starts (suc n)
    stays e =
        let s : cold_rounds exe starts (suc n) ≡ xs = round_is exe starts n ∙ e in
        ap (joined exe starts) s ∙ (e ∙ sym s)

    next : n ≤ length xs → Within (free exe starts (all_ways exe xs)) xs ⊎ More (free exe starts (all_ways exe xs)) xs → (joined exe starts (cold_rounds exe starts (suc n)) ≡ cold_rounds exe starts (suc n)) ⊎ (suc n ≤ length (cold_rounds exe starts (suc n)))
    next l (inl w) = inl (stays (same (free exe starts (all_ways exe xs)) xs (up exe starts n) w))
    next l (inr m) = inr (omega (arith, l, longer (free exe starts (all_ways exe xs)) xs (up exe starts n) m, ap length (round_is exe starts n)))

    go : (joined exe starts xs ≡ xs) ⊎ (n ≤ length xs) → (joined exe starts (cold_rounds exe starts (suc n)) ≡ cold_rounds exe starts (suc n)) ⊎ (suc n ≤ length (cold_rounds exe starts (suc n)))
    go (inl e) = inl (stays e)
    go (inr l) = next l (all_in (free exe starts (all_ways exe xs)) xs)

is_last : (exe : Exe) (starts : List ℕ) (n : ℕ) → IsGuest exe → 0xA0000000 < n → joined exe starts (cold_rounds exe starts n) ≡ cold_rounds exe starts n
is_last exe starts n g l = elim (last_or_longer exe starts n) [
  | inl e ↦ e
  | inr m ↦ absurd (omega (arith, l, m, few 0xA0000000 (cold_rounds exe starts n) (up exe starts n) (λ x c. free_below exe starts x g (all_free exe starts n x c))))
]

-- ---- the law

at_least : (exe : Exe) (starts : List ℕ) (n : ℕ) → IsGuest exe → 0xA0000000 < n → IsColdClosed exe starts (Contains (cold_rounds exe starts n))
at_least exe starts n g l = record {
  begins = λ x c f. begins exe starts n x c f;
  goes_on = λ x y c w f. goes_on exe starts (cold_rounds exe starts n) x y (is_last exe starts n g l) c w f;
}

pub is_least : ColdLeast
unfolding cold_list
is_least exe starts g = record {
  ascend = of_up (cold_rounds exe starts (2 ^ 32)) (up exe starts (2 ^ 32));
  free = λ x c. all_free exe starts (2 ^ 32) x c;
  closed = at_least exe starts (2 ^ 32) g (omega arith);
  least = λ p h x c. least exe starts p h (2 ^ 32) x c;
}
