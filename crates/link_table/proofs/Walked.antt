-- Walks round a circle.
use Rattle.std.proofs.Common.{◌≡◌, ℕ, zero, suc, ◌+◌, ◌<◌, ◌≤◌, false, eqb, List, [], ◌∷◌, length, get_or, refl, ap, sym, drop, ◌∙◌, subst, arith, inl, inr}
use Rattle.std.proofs.lemmas.Bool.{cases_Bool, eq-eqb}
use Rattle.std.proofs.lemmas.List.{get_or_default}
use Rattle.link_table.specs.Circles.{times, times_in, size, Leads, AreCircles, walk, lists_of, Family, Keeps, Ends}
use Rattle.link_table.proofs.Kept.{walk_finds, list_at, times_get, shown, placed, head_read}

module _ (next : List ℕ) (head : ℕ) where
  -- a walk that one more step does not lengthen is not lengthened by two
  stays : (m a : ℕ) → walk next head (suc m) a ≡ walk next head m a → walk next head (suc (suc m)) a ≡ walk next head (suc m) a
  stays zero a h = elim (cases_Bool (eqb a head)) [
    | inl t ↦ rw t refl
    | inr f ↦ absurd (let k : a ∷ [] ≡ [] = rw f at h in let n : 1 ≡ 0 = ap length k in omega (arith, n))
  ]
  stays (suc m) a h = elim (cases_Bool (eqb a head)) [
    | inl t ↦ rw t refl
    | inr f ↦ rw f (let k : a ∷ walk next head (suc m) (get_or next a 0) ≡ a ∷ walk next head m (get_or next a 0) = rw f at h in
        ap (λ (t : List ℕ). a ∷ t) (stays m (get_or next a 0) (ap (λ (t : List ℕ). drop 1 t) k)))
  ]

  goes : (m a : ℕ) → walk next head (suc m) a ≡ walk next head m a → eqb a head ≡ false → (walk next head m a ≡ a ∷ walk next head m (get_or next a 0)) × (walk next head (suc m) (get_or next a 0) ≡ walk next head m (get_or next a 0))
  goes m a h f =
      let one : walk next head (suc m) a ≡ a ∷ walk next head m (get_or next a 0) = rw f refl in
      let two : walk next head (suc (suc m)) a ≡ a ∷ walk next head (suc m) (get_or next a 0) = rw f refl in
      let k : a ∷ walk next head (suc m) (get_or next a 0) ≡ a ∷ walk next head m (get_or next a 0) = sym two ∙ stays m a h ∙ one in
      (sym h ∙ one, ap (λ (t : List ℕ). drop 1 t) k)

pub first_times : (a : ℕ) (xs : List ℕ) → 0 < times a (a ∷ xs)
first_times a xs = rw (eq-eqb a a refl) (omega arith)

-- one step of a walk that is not at its end
pub walk_goes : (next : List ℕ) (head a : ℕ) → Ends next head a → eqb a head ≡ false → (a < length next) × (walk next head (length next) a ≡ a ∷ walk next head (length next) (get_or next a 0)) × Ends next head (get_or next a 0)
walk_goes next head a e f =
    let g : (walk next head (length next) a ≡ a ∷ walk next head (length next) (get_or next a 0)) × (walk next head (suc (length next)) (get_or next a 0) ≡ walk next head (length next) (get_or next a 0)) = goes next head (length next) a e.stops f in (
      e.inside a (subst (λ (t : List ℕ). 0 < times a t) (sym g.0) (first_times a (walk next head (length next) (get_or next a 0)))),
      g.0,
      record {
        stops = g.1;
        inside = λ i p. e.inside i (subst (λ (t : List ℕ). 0 < times i t) (sym g.0) (omega (arith, p)));
      },
    )

-- the circle of a head
circle_at : (next heads : List ℕ) (lists : List (List ℕ)) (k : ℕ) → AreCircles next heads lists → k < length heads → Leads next (get_or heads k 0) (get_or lists k []) (get_or heads k 0)
circle_at next [] lists k c l = absurd (omega (arith, l))
circle_at next (h ∷ hs) [] k c l = absurd c
circle_at next (h ∷ hs) (xs ∷ xss) zero c l = c.0
circle_at next (h ∷ hs) (xs ∷ xss) (suc k) c l = circle_at next hs xss k c.1 (omega (arith, l))

pub times-get : (i : ℕ) (lists : List (List ℕ)) (k : ℕ) → times i (get_or lists k []) ≤ times_in i lists
times-get i [] k = omega arith
times-get i (xs ∷ xss) zero = omega arith
times-get i (xs ∷ xss) (suc k) = let r : times i (get_or xss k []) ≤ times_in i xss = times-get i xss k in omega (arith, r)

length-get : (lists : List (List ℕ)) (k : ℕ) → length (get_or lists k []) ≤ size lists
length-get [] k = omega arith
length-get (xs ∷ xss) zero = omega arith
length-get (xs ∷ xss) (suc k) = let r : length (get_or xss k []) ≤ size xss = length-get xss k in omega (arith, r)

-- the walk from behind a head ends
pub ends_of : (n p h : List ℕ) (k : ℕ) → Keeps n p h (lists_of n h) → k < length h → Ends n (get_or h k 0) (get_or n (get_or h k 0) 0)
ends_of n p h k kp l =
    let xs : List ℕ = get_or (lists_of n h) k [] in
    let c : Leads n (get_or h k 0) xs (get_or h k 0) = circle_at n h (lists_of n h) k kp.circles l in
    let there : 0 < times (get_or h k 0) h = times_get h k l in
    let o : times (get_or h k 0) h + times_in (get_or h k 0) (lists_of n h) ≤ 1 = kp.once (get_or h k 0) in
    let z : times (get_or h k 0) xs ≡ 0 = let t : times (get_or h k 0) xs ≤ times_in (get_or h k 0) (lists_of n h) = times-get (get_or h k 0) (lists_of n h) k in omega (arith, t, o, there) in
    let few : length xs ≤ length n = let t : length xs ≤ size (lists_of n h) = length-get (lists_of n h) k in let f : size (lists_of n h) ≤ length n = kp.few in omega (arith, t, f) in
    let a : walk n (get_or h k 0) (length n) (get_or n (get_or h k 0) 0) ≡ xs = walk_finds n (get_or h k 0) xs (get_or h k 0) (length n) c z few in
    let b : walk n (get_or h k 0) (suc (length n)) (get_or n (get_or h k 0) 0) ≡ xs = walk_finds n (get_or h k 0) xs (get_or h k 0) (suc (length n)) c z (omega (arith, few)) in
    record {
      stops = b ∙ sym a;
      inside = λ i q. (let w : 0 < times i xs = subst (λ (t : List ℕ). 0 < times i t) a q in let t : times i xs ≤ times_in i (lists_of n h) = times-get i (lists_of n h) k in kp.in_range i (omega (arith, w, t)));
    }

-- what the walk is, from the two reads
pub walk_read : (n p h : List ℕ) (f : Family) (k v a : ℕ) (s : List ℕ) → shown n h ≡ f → k < length f.lists → v ≡ get_or h k v → Keeps n p h (lists_of n h) → a ≡ get_or n v a → s ≡ n → Ends s v a × (walk s v (length s) a ≡ get_or f.lists k [])
walk_read n p h f k v a s e l r kp ra q =
    let kl : k < length h = placed n h f k e l in
    let sv : v ≡ get_or h k 0 = r ∙ get_or_default h k v 0 kl in
    let v_in : v < length n = (head_read n p h f k v e l r).1 kp in
    let sa : a ≡ get_or n (get_or h k 0) 0 = ra ∙ get_or_default n v a 0 v_in ∙ ap (λ (w : ℕ). get_or n w 0) sv in
    rw (q, sa, sv) (ends_of n p h k kp kl, sym (list_at n h k kl) ∙ ap (λ (g : Family). get_or g.lists k []) e)
