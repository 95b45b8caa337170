-- Keys in order, and which of them are as before.
use Rattle.std.proofs.Common.{◌≡◌, ℕ, zero, suc, ◌+◌, ◌<◌, ◌≤◌, Bool, true, false, ◌&&◌, ◌||◌, if◌then◌else◌, List, [], ◌∷◌, length, get_or, drop, refl, sym, ap, subst, ◌∙◌, arith, All, inl, inr}
use Rattle.std.specs.Prelude.{nat_eq}
use Rattle.std.specs.List.Sorted.{IsStrictlyIncreasing}
use Rattle.std.proofs.lemmas.Bool.{cases_Bool, eqb-true}
use Rattle.std.proofs.lemmas.List.{drop_more, drop_all, get_or_default}
use Rattle.std.proofs.lemmas.List.Elements.{All-nil, All-cons, All-head, All-tail, All-weaker}
use Rattle.ssa_form.specs.declared.form.BlockKey.{BlockKey}
use Rattle.session_core.specs.Session.{same_exits, same_key, is_kept, fresh}
use Rattle.session_core.specs.Kept.{starts_of_keys}

-- ---- equal keys

and_inv : (a b : Bool) → (a && b) ≡ true → (a ≡ true) × (b ≡ true)
and_inv true b e = (refl, e)
and_inv false b e = cc

abbrev exit : ℕ → ℕ → ℕ × ℕ
exit to live = (to, live)

abbrev key_with : ℕ → List (ℕ × ℕ) → BlockKey
key_with start exits = record { start = start; exits = exits }

exits_same : (xs ys : List (ℕ × ℕ)) → same_exits xs ys ≡ true → xs ≡ ys
exits_same [] [] h = refl
exits_same [] (y ∷ ys) h = cc
exits_same (x ∷ xs) [] h = cc
exits_same (x ∷ xs) (y ∷ ys) h =
    let p = and_inv (nat_eq x.0 y.0 && nat_eq x.1 y.1) (same_exits xs ys) h in
    let q = and_inv (nat_eq x.0 y.0) (nat_eq x.1 y.1) p.0 in
    ap (λ to. exit to x.1 ∷ xs) (eqb-true x.0 y.0 q.0) ∙ ap (λ live. exit y.0 live ∷ xs) (eqb-true x.1 y.1 q.1) ∙ ap (λ more. y ∷ more) (exits_same xs ys p.1)

pub keys_same : (a b : BlockKey) → same_key a b ≡ true → a ≡ b
keys_same a b h =
    let p = and_inv (nat_eq a.start b.start) (same_exits a.exits b.exits) h in
    ap (λ start. key_with start a.exits) (eqb-true a.start b.start p.0) ∙ ap (key_with b.start) (exits_same a.exits b.exits p.1)

differ : (a b : BlockKey) → (a.start ≡ b.start → ⊥) → same_key a b ≡ false
differ a b n = elim (cases_Bool (nat_eq a.start b.start)) [
  | inl t ↦ absurd (n (eqb-true a.start b.start t))
  | inr f ↦ ap (λ t. t && same_exits a.exits b.exits) f
]

-- ---- keys in order

abbrev Up : List BlockKey → Type 0
Up keys = IsStrictlyIncreasing (starts_of_keys keys)

later : (k : BlockKey) (keys : List BlockKey) → Up (k ∷ keys) → Up keys
later k keys up i l =
    let e : suc i + 1 ≡ suc (i + 1) = omega arith in
    let P : ℕ → Type 0 = λ n. get_or (starts_of_keys keys) i 0 < get_or (starts_of_keys (k ∷ keys)) n 0 in
    subst P e (up (suc i) (omega (arith, l)))

above : (k : BlockKey) (keys : List BlockKey) → Up (k ∷ keys) → All (λ (j : BlockKey). k.start < j.start) keys
above k [] up = All-nil (λ (j : BlockKey). k.start < j.start)
above k (j ∷ keys) up =
    let l : k.start < j.start = up 0 (omega arith) in
    All-cons (λ (i : BlockKey). k.start < i.start) j keys l
    (All-weaker (λ (i : BlockKey). j.start < i.start) (λ (i : BlockKey). k.start < i.start) (λ i m. omega (arith, m, l)) keys (above j keys (later k (j ∷ keys) up)))

up_drop : (keys : List BlockKey) (i : ℕ) → Up keys → Up (drop i keys)
up_drop keys zero up = up
up_drop [] (suc i) up = up
up_drop (k ∷ keys) (suc i) up = up_drop keys i (later k keys up)

-- ---- what is kept

none_kept : (key : BlockKey) (keys : List BlockKey) → All (λ (j : BlockKey). key.start < j.start) keys → is_kept key keys ≡ false
none_kept key [] h = refl
none_kept key (j ∷ keys) h =
    let l : key.start < j.start = All-head (λ (j : BlockKey). key.start < j.start) j keys h in
    ap (λ t. t || is_kept key keys) (differ j key (λ e. omega (arith, l, e))) ∙ none_kept key keys (All-tail (λ (j : BlockKey). key.start < j.start) j keys h)

or_none : (a b : Bool) → b ≡ false → (a || b) ≡ a
or_none true b e = refl
or_none false b e = e

-- where the first key from a place on does not start below a key, it alone can be that one
module _ (keys : List BlockKey) (at : ℕ) (k key : BlockKey) (l : at < length keys) (is : k ≡ get_or keys at k) where
  first_on : drop at keys ≡ k ∷ drop (at + 1) keys
  first_on = drop_more keys at k l ∙ ap (λ (x : BlockKey). x ∷ drop (at + 1) keys) (sym is)

  pub kept_here : Up keys → key.start ≤ (get_or keys at key).start → is_kept key (drop at keys) ≡ same_key k key
  kept_here up s =
      let a : All (λ (j : BlockKey). k.start < j.start) (drop (at + 1) keys) = above k (drop (at + 1) keys) (subst Up first_on (up_drop keys at up)) in
      let f : key.start ≤ k.start = subst (λ (x : BlockKey). key.start ≤ x.start) (get_or_default keys at key k l ∙ sym is) s in
      ap (is_kept key) first_on
      ∙ or_none (same_key k key) (is_kept key (drop (at + 1) keys))
      (none_kept key (drop (at + 1) keys)
      (All-weaker (λ (j : BlockKey). k.start < j.start) (λ (j : BlockKey). key.start < j.start) (λ j m. omega (arith, m, f)) (drop (at + 1) keys) a))

  pub is_there : same_key k key ≡ true → get_or keys at key ≡ key
  is_there e = get_or_default keys at key k l ∙ sym is ∙ keys_same k key e

-- a key that starts below others is none of them
past : (k : BlockKey) (old keys : List BlockKey) → All (λ (j : BlockKey). k.start < j.start) keys → fresh (k ∷ old) keys ≡ fresh old keys
past k old [] h = refl
past k old (key ∷ keys) h =
    let l : k.start < key.start = All-head (λ (j : BlockKey). k.start < j.start) key keys h in
    ap (λ t. (if (t || is_kept key old) then 0 else 1) + fresh (k ∷ old) keys) (differ k key (λ e. omega (arith, l, e)))
    ∙ ap (λ n. (if is_kept key old then 0 else 1) + n) (past k old keys (All-tail (λ (j : BlockKey). k.start < j.start) key keys h))

pub past_one : (old : List BlockKey) (at start : ℕ) (k : BlockKey) (keys : List BlockKey) → at < length old → k ≡ get_or old at k → k.start < start → All (λ (j : BlockKey). start ≤ j.start) keys
    → fresh (drop (at + 1) old) keys ≡ fresh (drop at old) keys
past_one old at start k keys l is s h =
    sym (ap (λ t. fresh t keys) (first_on old at k k l is)
    ∙ past k (drop (at + 1) old) keys (All-weaker (λ (j : BlockKey). start ≤ j.start) (λ (j : BlockKey). k.start < j.start) (λ j m. omega (arith, m, s)) keys h))

-- ---- one key more

module _ (keys : List BlockKey) (i : ℕ) (key : BlockKey) (l : i < length keys) (is : key ≡ get_or keys i key) where
  split : drop i keys ≡ key ∷ drop (i + 1) keys
  split = drop_more keys i key l ∙ ap (λ (k : BlockKey). k ∷ drop (i + 1) keys) (sym is)

  pub from_here : Up keys → All (λ (j : BlockKey). key.start ≤ j.start) (drop i keys)
  from_here up =
      let u : Up (key ∷ drop (i + 1) keys) = subst Up split (up_drop keys i up) in
      let a : All (λ (j : BlockKey). key.start ≤ j.start) (key ∷ drop (i + 1) keys) =
      All-cons (λ (j : BlockKey). key.start ≤ j.start) key (drop (i + 1) keys) (omega arith)
      (All-weaker (λ (j : BlockKey). key.start < j.start) (λ (j : BlockKey). key.start ≤ j.start) (λ j m. omega (arith, m)) (drop (i + 1) keys) (above key (drop (i + 1) keys) u)) in
      subst (All (λ (j : BlockKey). key.start ≤ j.start)) (sym split) a

  pub count_one : (before after : List BlockKey) (made one total : ℕ) (b : Bool) → fresh after (drop i keys) ≡ fresh before (drop i keys) → b ≡ is_kept key after → one ≡ (if b then 0 else 1)
      → made + fresh before (drop i keys) ≡ total → (made + one) + fresh after (drop (i + 1) keys) ≡ total
  count_one before after made one total b same kept is_one all =
      let f : fresh after (drop i keys) ≡ one + fresh after (drop (i + 1) keys) =
      ap (fresh after) split ∙ ap (λ t. (if t then 0 else 1) + fresh after (drop (i + 1) keys)) (sym kept) ∙ ap (λ n. n + fresh after (drop (i + 1) keys)) (sym is_one) in
      omega (arith, same, all, f)

  -- no more are new so far than there are in all
  pub so_many : (before after : List BlockKey) (made total : ℕ) (b : Bool) → fresh after (drop i keys) ≡ fresh before (drop i keys) → b ≡ is_kept key after
      → made + fresh before (drop i keys) ≡ total → made + (if b then 0 else 1) ≤ total
  so_many before after made total b same kept all =
      let e : (made + (if b then 0 else 1)) + fresh after (drop (i + 1) keys) ≡ total = count_one before after made (if b then 0 else 1) total b same kept refl all in
      omega (arith, e)

-- after the last key
pub counted : (old keys : List BlockKey) (i made total : ℕ) → length keys ≤ i → made + fresh old (drop i keys) ≡ total → made ≡ total
counted old keys i made total l h = let e : fresh old (drop i keys) ≡ 0 = ap (fresh old) (drop_all i keys l) in omega (arith, e, h)

-- ---- lists of exits

pub exits_differ : (xs ys : List (ℕ × ℕ)) → (length xs ≡ length ys → ⊥) → same_exits xs ys ≡ false
exits_differ [] [] n = absurd (n refl)
exits_differ [] (y ∷ ys) n = refl
exits_differ (x ∷ xs) [] n = refl
exits_differ (x ∷ xs) (y ∷ ys) n = and_none (nat_eq x.0 y.0 && nat_eq x.1 y.1) (same_exits xs ys) (exits_differ xs ys (λ e. n (ap suc e)))
  where
    and_none : (a b : Bool) → b ≡ false → (a && b) ≡ false
    and_none true b e = e
    and_none false b e = refl
