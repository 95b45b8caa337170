-- Two lists that are joined: their members, order and bounds.
use Rattle.std.proofs.Common.{◌≡◌, ℕ, zero, suc, ◌+◌, ◌<◌, Bool, true, false, ◌||◌, List, [], ◌∷◌, get_or, All, refl, ap, subst, inl, inr, arith}
use Rattle.std.specs.Prelude.{◌==◌, nat_lt, if◌then◌else◌}
use Rattle.std.specs.List.Sorted.{IsStrictlyIncreasing}
use Rattle.std.proofs.lemmas.Bool.{eq-eqb, ltb-true, ltb-false, cases_lt}
use Rattle.std.proofs.lemmas.List.Elements.{All-cons, All-head, All-tail}
use Rattle.block_cut.specs.Transfers.{is_among}
use Rattle.cold_code.specs.Dispatcher.{merge_step, merged}
use Rattle.cold_code.specs.Joining.{AreApart, MembersOfBoth, MergedAscends, MergedBelow}

-- ---- members

swapped : (x y : Bool) (a b m : Bool) → m ≡ ((x || a) || b) → (y || m) ≡ ((x || a) || (y || b))
swapped true true a b m e = refl
swapped true false a b m e = e
swapped false true true b m e = refl
swapped false true false b m e = refl
swapped false false a b m e = e

in_turn : (x : Bool) (a b m : Bool) → m ≡ (a || b) → (x || m) ≡ ((x || a) || b)
in_turn true a b m e = refl
in_turn false a b m e = e

members_step : (x : ℕ) (xs : List ℕ) (v : ℕ) → ((ys : List ℕ) → is_among (merged xs ys) v ≡ (is_among xs v || is_among ys v))
    → (ys : List ℕ) → is_among (merge_step x (merged xs) ys) v ≡ (is_among (x ∷ xs) v || is_among ys v)
members_step x xs v h [] = in_turn (v == x) (is_among xs v) false (is_among (merged xs []) v) (h [])
members_step x xs v h (y ∷ ys) =
    go (nat_lt y x)
    (swapped (v == x) (v == y) (is_among xs v) (is_among ys v) (is_among (merge_step x (merged xs) ys) v) (members_step x xs v h ys))
    (in_turn (v == x) (is_among xs v) (is_among (y ∷ ys) v) (is_among (merged xs (y ∷ ys)) v) (h (y ∷ ys)))
  where
    go : (b : Bool) → is_among (y ∷ merge_step x (merged xs) ys) v ≡ (is_among (x ∷ xs) v || is_among (y ∷ ys) v)
        → is_among (x ∷ merged xs (y ∷ ys)) v ≡ (is_among (x ∷ xs) v || is_among (y ∷ ys) v)
        → is_among (if b then (y ∷ merge_step x (merged xs) ys) else (x ∷ merged xs (y ∷ ys))) v ≡ (is_among (x ∷ xs) v || is_among (y ∷ ys) v)
    go true low high = low
    go false low high = high

pub members_of_both : MembersOfBoth
members_of_both [] ys v = refl
members_of_both (x ∷ xs) ys v = members_step x xs v (λ zs. members_of_both xs zs v) ys

-- ---- what holds of all

all_step : (P : ℕ → Type 0) (x : ℕ) (xs : List ℕ) → P x → ((ys : List ℕ) → All P ys → All P (merged xs ys)) → (ys : List ℕ) → All P ys → All P (merge_step x (merged xs) ys)
all_step P x xs l h [] b = All-cons P x (merged xs []) l (h [] b)
all_step P x xs l h (y ∷ ys) b =
    go (nat_lt y x)
    (All-cons P y (merge_step x (merged xs) ys) (All-head P y ys b) (all_step P x xs l h ys (All-tail P y ys b)))
    (All-cons P x (merged xs (y ∷ ys)) l (h (y ∷ ys) b))
  where
    go : (c : Bool) → All P (y ∷ merge_step x (merged xs) ys) → All P (x ∷ merged xs (y ∷ ys)) → All P (if c then (y ∷ merge_step x (merged xs) ys) else (x ∷ merged xs (y ∷ ys)))
    go true p q = p
    go false p q = q

pub all_merged : (P : ℕ → Type 0) (xs ys : List ℕ) → All P xs → All P ys → All P (merged xs ys)
all_merged P [] ys a b = b
all_merged P (x ∷ xs) ys a b = all_step P x xs (All-head P x xs a) (λ zs c. all_merged P xs zs (All-tail P x xs a) c) ys b

pub merged_below : MergedBelow
merged_below xs ys high a b = all_merged (λ x. x < high) xs ys a b

-- ---- order

-- strictly ascending, and from beyond a number on
abbrev Above : ℕ → List ℕ → Type 0
Above x [] = Unit {0}
Above x (y ∷ ys) = (x < y) × Above y ys

abbrev Up : List ℕ → Type 0
Up [] = Unit {0}
Up (x ∷ xs) = Above x xs

later : (x : ℕ) (xs : List ℕ) → IsStrictlyIncreasing (x ∷ xs) → IsStrictlyIncreasing xs
later x xs up k l =
    let e : suc k + 1 ≡ suc (k + 1) = omega arith in
    let P : ℕ → Type 0 = λ n. get_or xs k 0 < get_or (x ∷ xs) n 0 in
    subst P e (up (suc k) (omega (arith, l)))

above_of : (x : ℕ) (xs : List ℕ) → IsStrictlyIncreasing (x ∷ xs) → Above x xs
above_of x [] up = tt
above_of x (y ∷ ys) up = let l : x < y = up 0 (omega arith) in (l, above_of y ys (later x (y ∷ ys) up))

up_of : (xs : List ℕ) → IsStrictlyIncreasing xs → Up xs
up_of [] up = tt
up_of (x ∷ xs) up = above_of x xs up

of_above : (x : ℕ) (xs : List ℕ) → Above x xs → IsStrictlyIncreasing (x ∷ xs)
of_above x [] a k l = absurd (omega (arith, l))
of_above x (y ∷ ys) a zero l = a.0
of_above x (y ∷ ys) a (suc k) l =
    let h = of_above y ys a.1 k (omega (arith, l)) in
    let e : suc (k + 1) ≡ suc k + 1 = omega arith in
    let P : ℕ → Type 0 = λ n. get_or (y ∷ ys) k 0 < get_or (x ∷ y ∷ ys) n 0 in
    subst P e h

of_up : (xs : List ℕ) → Up xs → IsStrictlyIncreasing xs
of_up [] u = λ k l. absurd (omega (arith, l))
of_up (x ∷ xs) u = of_above x xs u

among_more : (x : ℕ) (xs : List ℕ) (v : ℕ) → is_among xs v ≡ true → is_among (x ∷ xs) v ≡ true
among_more x xs v e = go (v == x)
  where
    go : (b : Bool) → (b || is_among xs v) ≡ true
    go true = refl
    go false = e

among_head : (x : ℕ) (xs : List ℕ) → is_among (x ∷ xs) x ≡ true
among_head x xs = ap (λ b. b || is_among xs x) (eq-eqb x x refl)

among_none : (y : ℕ) (ys : List ℕ) (v : ℕ) → is_among (y ∷ ys) v ≡ false → is_among ys v ≡ false
among_none y ys v e = go (v == y) e
  where
    go : (b : Bool) → (b || is_among ys v) ≡ false → is_among ys v ≡ false
    go true e = cc
    go false e = e

apart_left : (x : ℕ) (xs ys : List ℕ) → AreApart (x ∷ xs) ys → AreApart xs ys
apart_left x xs ys a v e = a v (among_more x xs v e)

apart_right : (y : ℕ) (xs ys : List ℕ) → AreApart xs (y ∷ ys) → AreApart xs ys
apart_right y xs ys a v e = among_none y ys v (a v e)

-- the first of both are two numbers
apart_first : (x y : ℕ) (xs ys : List ℕ) → AreApart (x ∷ xs) (y ∷ ys) → x ≡ y → ⊥
apart_first x y xs ys a e =
    let f : is_among (y ∷ ys) x ≡ true = ap (λ b. b || is_among ys x) (eq-eqb x y e) in
    let g = a x (among_head x xs) in
    cc

first_lower : (x y : ℕ) (xs ys : List ℕ) → AreApart (x ∷ xs) (y ∷ ys) → nat_lt y x ≡ false → x < y
first_lower x y xs ys a e = let g = ltb-false y x e in let n = apart_first x y xs ys a in elim (cases_lt x y) as (λ _. x < y) [
  | inl l ↦ l
  | inr l ↦ absurd (n (omega (arith, g, l)))
]

above_step : (x : ℕ) (xs : List ℕ) → ((w : ℕ) (ys : List ℕ) → Above w xs → Above w ys → AreApart xs ys → Above w (merged xs ys))
    → (w : ℕ) (ys : List ℕ) → Above w (x ∷ xs) → Above w ys → AreApart (x ∷ xs) ys → Above w (merge_step x (merged xs) ys)
above_step x xs h w [] a b apart = (a.0, h x [] a.1 tt (apart_left x xs [] apart))
above_step x xs h w (y ∷ ys) a b apart =
    go (nat_lt y x)
    (λ e. (b.0, above_step x xs h y ys (ltb-true y x e, a.1) b.1 (apart_right y (x ∷ xs) ys apart)))
    (λ e. (a.0, h x (y ∷ ys) a.1 (first_lower x y xs ys apart e, b.1) (apart_left x xs (y ∷ ys) apart)))
    refl
  where
    go : (c : Bool) → (nat_lt y x ≡ true → Above w (y ∷ merge_step x (merged xs) ys)) → (nat_lt y x ≡ false → Above w (x ∷ merged xs (y ∷ ys))) → nat_lt y x ≡ c
        → Above w (if c then (y ∷ merge_step x (merged xs) ys) else (x ∷ merged xs (y ∷ ys)))
    go true p q e = p e
    go false p q e = q e

above_merged : (xs : List ℕ) (w : ℕ) (ys : List ℕ) → Above w xs → Above w ys → AreApart xs ys → Above w (merged xs ys)
above_merged [] w ys a b apart = b
above_merged (x ∷ xs) w ys a b apart = above_step x xs (above_merged xs) w ys a b apart

up_merged : (xs ys : List ℕ) → Up xs → Up ys → AreApart xs ys → Up (merged xs ys)
up_merged [] ys a b apart = b
up_merged (x ∷ xs) [] a b apart = above_merged xs x [] a tt (apart_left x xs [] apart)
up_merged (x ∷ xs) (y ∷ ys) a b apart =
    go (nat_lt y x)
    (λ e. above_merged (x ∷ xs) y ys (ltb-true y x e, a) b (apart_right y (x ∷ xs) ys apart))
    (λ e. above_merged xs x (y ∷ ys) a (first_lower x y xs ys apart e, b) (apart_left x xs (y ∷ ys) apart))
    refl
  where
    go : (c : Bool) → (nat_lt y x ≡ true → Up (y ∷ merge_step x (merged xs) ys)) → (nat_lt y x ≡ false → Up (x ∷ merged xs (y ∷ ys))) → nat_lt y x ≡ c
        → Up (if c then (y ∷ merge_step x (merged xs) ys) else (x ∷ merged xs (y ∷ ys)))
    go true p q e = p e
    go false p q e = q e

pub merged_ascends : MergedAscends
merged_ascends xs ys a b apart = of_up (merged xs ys) (up_merged xs ys (up_of xs a) (up_of ys b) apart)
