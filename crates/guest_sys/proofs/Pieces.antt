-- Bytes of a buffer, and what is written to it, piece after piece: the regions lie apart, so each piece lies in the region of the whole.
use Rattle.std.proofs.Common.{◌≡◌, ℕ, zero, suc, ◌+◌, ◌-◌, ◌≤◌, ◌<◌, ◌^◌, Bool, true, false, ◌&&◌, nat_le, List, [], ◌∷◌, ◌++◌, length, take, drop, map, Option, Some, None, option_map, is_some, ◌⊎◌, inl, inr, refl, sym, ◌∙◌, ap, arith, drop-drop, take_all, append-nil, length-append, length-take, length-drop}
use Rattle.std.specs.Prelude.{if◌then◌else◌}
use Rattle.std.proofs.lemmas.List.{take-append-drop}
use Rattle.std.proofs.lemmas.Bool.Decides.{nat_tests}
use Rattle.br_word.specs.Memory.{Region, Use, Writes, allows, covers, bytes_at, put_over, written}
use Rattle.ia_inst.specs.System.{filled}
use Rattle.guest_mem.specs.View.{MemoryView}
use Rattle.guest_mem.specs.Layout.{is_usable, Range, AreApart, IsApartFrom, LieApart, range}
use Rattle.guest_mem.specs.Pieces.{piece_size, page_rest, put_piece, put_pieces}
use Rattle.guest_mem.proofs.Lists.{put_over-zero, put_over-twice}
use Rattle.guest_mem.proofs.Numbers.{length-put_over}
use Rattle.guest_sys.specs.Parts.{HasFilled}
use Rattle.guest_sys.proofs.PutBytes.{filled_some}

-- ---- bytes put over a list

over-none : (bs : List ℕ) (o : ℕ) → put_over bs o [] ≡ bs
over-none bs o = let e : o + 0 ≡ o = omega arith in ap (λ k. take o bs ++ drop k bs) e ∙ take-append-drop o bs

-- bytes behind the first n that are as they were
same-zero : (bs w : List ℕ) (n : ℕ) → length w ≤ length bs → drop n w ≡ drop n (take (length w) bs) → w ++ drop (length w) bs ≡ take n w ++ drop (length (take n w)) bs
same-zero bs w zero h e = ap (λ s. s ++ drop (length w) bs) e ∙ take-append-drop (length w) bs
same-zero bs [] (suc n) h e = refl
same-zero [] (y ∷ w) (suc n) h e = absurd (omega arith)
same-zero (x ∷ bs) (y ∷ w) (suc n) h e = ap (λ s. y ∷ s) (same-zero bs w n (omega arith) e)

over-suc : (x : ℕ) (xs w : List ℕ) (i : ℕ) → put_over (x ∷ xs) (suc i) w ≡ x ∷ put_over xs i w
over-suc x xs w i = let e : suc i + length w ≡ suc (i + length w) = omega arith in ap (λ k. x ∷ (take i xs ++ (w ++ drop k (x ∷ xs)))) e

over-same : (bs w : List ℕ) (o n : ℕ) → o + length w ≤ length bs → drop n w ≡ drop n (take (length w) (drop o bs)) → put_over bs o w ≡ put_over bs o (take n w)
over-same bs w zero n h e = put_over-zero bs w ∙ (same-zero bs w n (omega arith) e ∙ sym (put_over-zero bs (take n w)))
over-same [] w (suc o) n h e = absurd (omega arith)
over-same (x ∷ bs) w (suc o) n h e = over-suc x bs w o ∙ (ap (λ s. x ∷ s) (over-same bs w o n (omega arith) e) ∙ sym (over-suc x bs (take n w) o))

-- ---- where the bytes of a buffer lie

covers-is : (r : Region) (at n : ℕ) → covers r at n ≡ true → (r.start ≤ at) × (at + n ≤ r.start + length r.bytes)
covers-is r at n h = grind (arith, nat_tests)

covers-so : (r : Region) (at n : ℕ) → r.start ≤ at → at + n ≤ r.start + length r.bytes → covers r at n ≡ true
covers-so r at n a b = grind (arith, nat_tests)

covers-not : (r : Region) (at n : ℕ) → 0 < n → (at + n ≤ r.start) ⊎ (r.start + length r.bytes ≤ at) → covers r at n ≡ false
covers-not r at n pos (inl h) = grind (arith, nat_tests)
covers-not r at n pos (inr h) = grind (arith, nat_tests)

and-left : (a b : Bool) → (a && b) ≡ true → a ≡ true
and-left true b h = refl
and-left false b h = h

and-right : (a b : Bool) → (a && b) ≡ true → b ≡ true
and-right true b h = h
and-right false b h = cc

and-both : (a b : Bool) → a ≡ true → b ≡ true → (a && b) ≡ true
and-both true b h k = k
and-both false b h k = cc

and-not : (a b : Bool) → a ≡ false → (a && b) ≡ false
and-not false b h = refl
and-not true b h = cc

-- a buffer lies apart from a range from which all regions are apart
outside : (how : Use) (at n : ℕ) (p : Range) (rs : List Region) → IsApartFrom p (map range rs) → is_some (bytes_at how at n rs) ≡ true → (at + n ≤ p.0) ⊎ (p.0 + p.1 ≤ at)
unfolding bytes_at
outside how at n p [] a h = cc
outside how at n p (r ∷ rs) (apart, rest) h = go (is_usable how at n r) refl h apart (λ k. outside how at n p rs rest k)
  where
    go : (b : Bool) → is_usable how at n r ≡ b → is_some (if b then Some (drop (at - r.start) r.bytes) else bytes_at how at n rs) ≡ true → AreApart p (range r) → (is_some (bytes_at how at n rs) ≡ true → (at + n ≤ p.0) ⊎ (p.0 + p.1 ≤ at)) → (at + n ≤ p.0) ⊎ (p.0 + p.1 ≤ at)
    go false e k q next = next k
    go true e k (inl q) next = let c = covers-is r at n (and-left _ _ e) in inr (omega (arith, c.0, q))
    go true e k (inr q) next = let c = covers-is r at n (and-left _ _ e) in inl (omega (arith, c.1, q))

-- the first region holds the buffer, or none of its bytes
data Lies (how : Use) (at n : ℕ) (r : Region) (rs : List Region) : Type 0 where
  Here : r.start ≤ at → at + n ≤ r.start + length r.bytes → allows how r.perms ≡ true → Lies how at n r rs
  There : is_some (bytes_at how at n rs) ≡ true → is_usable how at n r ≡ false → ((from k : ℕ) → at ≤ from → from + k ≤ at + n → 0 < k → covers r from k ≡ false) → Lies how at n r rs

lies : (how : Use) (at n : ℕ) (r : Region) (rs : List Region) → IsApartFrom (range r) (map range rs) → is_some (bytes_at how at n (r ∷ rs)) ≡ true → Lies how at n r rs
unfolding bytes_at
lies how at n r rs a h = go (is_usable how at n r) refl h
  where
    away : (from k : ℕ) → at ≤ from → from + k ≤ at + n → (at + n ≤ r.start) ⊎ (r.start + length r.bytes ≤ at) → (from + k ≤ r.start) ⊎ (r.start + length r.bytes ≤ from)
    away from k l m (inl q) = inl (omega (arith, m, q))
    away from k l m (inr q) = inr (omega (arith, l, q))

    go : (b : Bool) → is_usable how at n r ≡ b → is_some (if b then Some (drop (at - r.start) r.bytes) else bytes_at how at n rs) ≡ true → Lies how at n r rs
    go true e k = let c = covers-is r at n (and-left _ _ e) in Here c.0 c.1 (and-right _ _ e)
    go false e k = There k e (λ from j l m pos. covers-not r from j pos (away from j l m (outside how at n (range r) rs a k)))

-- ---- the bytes of a buffer

usable-so : (how : Use) (r : Region) (at n : ℕ) → r.start ≤ at → at + n ≤ r.start + length r.bytes → allows how r.perms ≡ true → is_usable how at n r ≡ true
usable-so how r at n a b p = and-both _ _ (covers-so r at n a b) p

bytes-here : (how : Use) (at n : ℕ) (r : Region) (rs : List Region) → is_usable how at n r ≡ true → bytes_at how at n (r ∷ rs) ≡ Some (drop (at - r.start) r.bytes)
unfolding bytes_at
bytes-here how at n r rs h = ap (λ b. if b then Some (drop (at - r.start) r.bytes) else bytes_at how at n rs) h

bytes-there : (how : Use) (at n : ℕ) (r : Region) (rs : List Region) → is_usable how at n r ≡ false → bytes_at how at n (r ∷ rs) ≡ bytes_at how at n rs
unfolding bytes_at
bytes-there how at n r rs h = ap (λ b. if b then Some (drop (at - r.start) r.bytes) else bytes_at how at n rs) h

some-same : (x y : List ℕ) → Some x ≡ Some y → x ≡ y
some-same x y e = cc

is-some : (o : Option (List ℕ)) (x : List ℕ) → o ≡ Some x → is_some o ≡ true
is-some o x e = ap is_some e

-- the bytes of a buffer from its k-th on, how many there are, and where they end
pub record IsRest (how : Use) (at n k : ℕ) (bs : List ℕ) (rs : List Region) : Type 0 where
  pub rest : bytes_at how (at + k) (n - k) rs ≡ Some (drop k bs)
  pub long : n ≤ length bs
  pub below : at + n ≤ 2 ^ 32

pub rest-of : (how : Use) (at n k : ℕ) (bs : List ℕ) (rs : List Region) → LieApart (map range rs) → k < n → bytes_at how at n rs ≡ Some bs → IsRest how at n k bs rs
unfolding bytes_at
rest-of how at n k bs [] a h e = cc
rest-of how at n k bs (r ∷ rs) a h e = go (lies how at n r rs a.1 (is-some _ bs e)) (λ f. rest-of how at n k bs rs a.2 h f)
  where
    go : Lies how at n r rs → (bytes_at how at n rs ≡ Some bs → IsRest how at n k bs rs) → IsRest how at n k bs (r ∷ rs)
    go (Here low high allowed) next =
        let whole : drop (at - r.start) r.bytes ≡ bs = some-same _ _ (sym (bytes-here how at n r rs (usable-so how r at n low high allowed)) ∙ e) in
        let where-is : at + k - r.start ≡ at - r.start + k = omega (arith, low) in
        record {
          rest =
              bytes-here how (at + k) (n - k) r rs (usable-so how r (at + k) (n - k) (omega (arith, low)) (omega (arith, high, h)) allowed)
              ∙ ap Some (ap (λ i. drop i r.bytes) where-is ∙ (sym (drop-drop k (at - r.start) r.bytes) ∙ ap (drop k) whole));
          long = omega (arith, low, high, ap (λ x. length x) whole, length-drop (at - r.start) r.bytes);
          below = omega (arith, high, a.0);
        }
    go (There some not-here away) next =
        let i : IsRest how at n k bs rs = next (sym (bytes-there how at n r rs not-here) ∙ e) in
        record {
          rest = bytes-there how (at + k) (n - k) r rs (and-not _ _ (away (at + k) (n - k) (omega arith) (omega (arith, h)) (omega (arith, h)))) ∙ i.rest;
          long = i.long;
          below = i.below;
        }

-- ---- writes

written-here : (at : ℕ) (w : List ℕ) (r : Region) (rs : List Region) → is_usable Writes at (length w) r ≡ true → written at w (r ∷ rs) ≡ Some (record r { bytes = put_over r.bytes (at - r.start) w } ∷ rs)
unfolding written
written-here at w r rs h = ap (λ b. if b then Some (record r { bytes = put_over r.bytes (at - r.start) w } ∷ rs) else option_map (λ rest. r ∷ rest) (written at w rs)) h

written-there : (at : ℕ) (w : List ℕ) (r : Region) (rs : List Region) → is_usable Writes at (length w) r ≡ false → written at w (r ∷ rs) ≡ option_map (λ rest. r ∷ rest) (written at w rs)
unfolding written
written-there at w r rs h = ap (λ b. if b then Some (record r { bytes = put_over r.bytes (at - r.start) w } ∷ rs) else option_map (λ rest. r ∷ rest) (written at w rs)) h

pieces-here : (at len : ℕ) (w : List ℕ) (r : Region) (rs : List Region) → is_usable Writes at len r ≡ true → put_pieces at len w (r ∷ rs) ≡ put_piece at w r ∷ rs
unfolding put_pieces
pieces-here at len w r rs h = ap (λ b. if b then put_piece at w r ∷ rs else r ∷ put_pieces at len w rs) h

pieces-there : (at len : ℕ) (w : List ℕ) (r : Region) (rs : List Region) → is_usable Writes at len r ≡ false → put_pieces at len w (r ∷ rs) ≡ r ∷ put_pieces at len w rs
unfolding put_pieces
pieces-there at len w r rs h = ap (λ b. if b then put_piece at w r ∷ rs else r ∷ put_pieces at len w rs) h

-- a piece in which all but the first n bytes are as they were
piece-over : (at len n : ℕ) (w : List ℕ) (r : Region) → r.start ≤ at → at + len ≤ r.start + length r.bytes → length w ≡ piece_size at len → drop n w ≡ drop n (take (length w) (drop (at - r.start) r.bytes))
    → put_piece at w r ≡ (let s : Region = record r { bytes = put_over r.bytes (at - r.start) (take n w) } in s)
piece-over at len n w r low high l e =
    let v : take (page_rest at r) w ≡ w = take_all (page_rest at r) w (omega (arith, l, low, high)) in
    ap (λ bs. let s : Region = record r { bytes = bs } in s)
    (ap (λ x. put_over r.bytes (at - r.start) x) v ∙ over-same r.bytes w (at - r.start) n (omega (arith, l, low, high)) e)

-- a front part that is put where the whole may be
front-here : (at len n : ℕ) (w : List ℕ) (r : Region) (rs : List Region) → r.start ≤ at → at + len ≤ r.start + length r.bytes → allows Writes r.perms ≡ true → length w ≤ len → n ≤ length w
    → filled at (take n w) (r ∷ rs) ≡ Some ((let s : Region = record r { bytes = put_over r.bytes (at - r.start) (take n w) } in s) ∷ rs)
front-here at len zero w r rs low high allowed l m = ap (λ bs. Some ((let s : Region = record r { bytes = bs } in s) ∷ rs)) (sym (over-none r.bytes (at - r.start)))
front-here at len (suc n) w r rs low high allowed l m =
    let long : length (take (suc n) w) ≡ suc n = omega (arith, length-take (suc n) w, m) in
    filled_some at (take (suc n) w) (r ∷ rs) (omega (arith, long))
    ∙ written-here at (take (suc n) w) r rs (usable-so Writes r at (length (take (suc n) w)) low (omega (arith, long, m, l, high)) allowed)

-- one that is put behind the first region
front-there : (at len n : ℕ) (w : List ℕ) (r : Region) (rs ss : List Region) → ((from k : ℕ) → at ≤ from → from + k ≤ at + len → 0 < k → covers r from k ≡ false) → length w ≤ len → n ≤ length w
    → filled at (take n w) rs ≡ Some ss → filled at (take n w) (r ∷ rs) ≡ Some (r ∷ ss)
front-there at len zero w r rs ss away l m e = ap (option_map (λ t. r ∷ t)) e
front-there at len (suc n) w r rs ss away l m e =
    let long : length (take (suc n) w) ≡ suc n = omega (arith, length-take (suc n) w, m) in
    let pos : 0 < length (take (suc n) w) = omega (arith, long) in
    filled_some at (take (suc n) w) (r ∷ rs) pos
    ∙ (written-there at (take (suc n) w) r rs (and-not _ _ (away at (length (take (suc n) w)) (omega arith) (omega (arith, long, m, l)) pos))
    ∙ ap (option_map (λ t. r ∷ t)) (sym (filled_some at (take (suc n) w) rs pos) ∙ e))

-- what was left in a piece, where all but its first n bytes are as they were, is a write of these
pub piece-written : (at len n : ℕ) (w bs : List ℕ) (rs : List Region) → LieApart (map range rs) → bytes_at Writes at len rs ≡ Some bs → length w ≡ piece_size at len → n ≤ length w
    → drop n w ≡ drop n (take (length w) bs) → filled at (take n w) rs ≡ Some (put_pieces at len w rs)
unfolding bytes_at
piece-written at len n w bs [] a e l m k = cc
piece-written at len n w bs (r ∷ rs) a e l m k = go (lies Writes at len r rs a.1 (is-some _ bs e)) (λ f. piece-written at len n w bs rs a.2 f l m k)
  where
    go : Lies Writes at len r rs → (bytes_at Writes at len rs ≡ Some bs → filled at (take n w) rs ≡ Some (put_pieces at len w rs)) → filled at (take n w) (r ∷ rs) ≡ Some (put_pieces at len w (r ∷ rs))
    go (Here low high allowed) next =
        let usable = usable-so Writes r at len low high allowed in
        let whole : drop (at - r.start) r.bytes ≡ bs = some-same _ _ (sym (bytes-here Writes at len r rs usable) ∙ e) in
        let over = piece-over at len n w r low high l (k ∙ ap (λ x. drop n (take (length w) x)) (sym whole)) in
        front-here at len n w r rs low high allowed (omega (arith, l)) m ∙ ap Some (ap (λ s. s ∷ rs) (sym over) ∙ sym (pieces-here at len w r rs usable))
    go (There some not-here away) next =
        front-there at len n w r rs (put_pieces at len w rs) away (omega (arith, l)) m (next (sym (bytes-there Writes at len r rs not-here) ∙ e))
        ∙ ap Some (sym (pieces-there at len w r rs not-here))

-- ---- writes one after another

some-regions : (x y : List Region) → Some x ≡ Some y → x ≡ y
some-regions x y e = cc

-- what is written behind a region that is left as it was
behind : (r : Region) (o : Option (List Region)) (ss : List Region) → option_map (λ t. r ∷ t) o ≡ Some ss → (ts : List Region) × (o ≡ Some ts) × (ss ≡ r ∷ ts)
behind r None ss e = cc
behind r (Some ts) ss e = (ts, refl, sym (some-regions _ _ e))

written-then : (at len : ℕ) (v w : List ℕ) (rs ss ts : List Region) → LieApart (map range rs) → is_some (bytes_at Writes at len rs) ≡ true → length v + length w ≤ len → 0 < length v → 0 < length w
    → written at v rs ≡ Some ss → written (at + length v) w ss ≡ Some ts → written at (v ++ w) rs ≡ Some ts
unfolding bytes_at written
written-then at len v w [] ss ts a h l pv pw e f = cc
written-then at len v w (r ∷ rs) ss ts a h l pv pw e f = go (lies Writes at len r rs a.1 h) (λ ss ts some e f. written-then at len v w rs ss ts a.2 some l pv pw e f)
  where
    go : Lies Writes at len r rs
        → ((ss ts : List Region) → is_some (bytes_at Writes at len rs) ≡ true → written at v rs ≡ Some ss → written (at + length v) w ss ≡ Some ts → written at (v ++ w) rs ≡ Some ts)
        → written at (v ++ w) (r ∷ rs) ≡ Some ts
    go (Here low high allowed) next =
        let o = at - r.start in
        let r1 : Region = record r { bytes = put_over r.bytes o v } in
        let first : ss ≡ r1 ∷ rs = some-regions _ _ (sym e ∙ written-here at v r rs (usable-so Writes r at (length v) low (omega (arith, high, l)) allowed)) in
        let same : length (put_over r.bytes o v) ≡ length r.bytes = length-put_over r.bytes v o (omega (arith, low, high, l)) in
        let second : written (at + length v) w (r1 ∷ rs) ≡ Some (record r { bytes = put_over (put_over r.bytes o v) (at + length v - r.start) w } ∷ rs) =
        written-here (at + length v) w r1 rs (usable-so Writes r1 (at + length v) (length w) (omega (arith, low)) (omega (arith, high, l, same)) allowed) in
        let last : Some ts ≡ Some (record r { bytes = put_over (put_over r.bytes o v) (at + length v - r.start) w } ∷ rs) = sym f ∙ (ap (λ t. written (at + length v) w t) first ∙ second) in
        let place : at + length v - r.start ≡ o + length v = omega (arith, low) in
        let both : put_over (put_over r.bytes o v) (at + length v - r.start) w ≡ put_over r.bytes o (v ++ w) =
        ap (λ i. put_over (put_over r.bytes o v) i w) place ∙ put_over-twice r.bytes v w o (omega (arith, low, high, l)) in
        written-here at (v ++ w) r rs (usable-so Writes r at (length (v ++ w)) low (omega (arith, high, l, length-append v w)) allowed)
        ∙ sym (last ∙ ap (λ bs. Some ((let s : Region = record r { bytes = bs } in s) ∷ rs)) both)
    go (There some not-here away) next =
        let x = behind r (written at v rs) ss (sym (written-there at v r rs (and-not _ _ (away at (length v) (omega arith) (omega (arith, l)) pv))) ∙ e) in
        let y = behind r (written (at + length v) w x.0) ts
        (sym (written-there (at + length v) w r x.0 (and-not _ _ (away (at + length v) (length w) (omega arith) (omega (arith, l)) pw))) ∙ (ap (λ t. written (at + length v) w t) (sym x.2) ∙ f)) in
        written-there at (v ++ w) r rs (and-not _ _ (away at (length (v ++ w)) (omega arith) (omega (arith, l, length-append v w)) (omega (arith, pv, length-append v w))))
        ∙ (ap (option_map (λ t. r ∷ t)) (next x.0 y.0 some x.1 y.1) ∙ ap Some (sym y.2))

filled-then : (at len : ℕ) (v w : List ℕ) (rs ss ts : List Region) → LieApart (map range rs) → is_some (bytes_at Writes at len rs) ≡ true → length v + length w ≤ len
    → filled at v rs ≡ Some ss → filled (at + length v) w ss ≡ Some ts → filled at (v ++ w) rs ≡ Some ts
filled-then at len [] w rs ss ts a h l e f =
    let same : rs ≡ ss = some-regions rs ss e in
    let here : at + 0 ≡ at = omega arith in
    ap (λ x. filled at w x) same ∙ (ap (λ i. filled i w ss) (sym here) ∙ f)
filled-then at len (x ∷ v) [] rs ss ts a h l e f =
    ap (λ y. filled at y rs) (append-nil (x ∷ v)) ∙ (e ∙ f)
filled-then at len (x ∷ v) (y ∷ w) rs ss ts a h l e f = filled_some at ((x ∷ v) ++ (y ∷ w)) rs (omega arith) ∙ written-then at len (x ∷ v) (y ∷ w) rs ss ts a h l (omega arith) (omega arith)
    (sym (filled_some at (x ∷ v) rs (omega arith)) ∙ e) (sym (filled_some (at + length (x ∷ v)) (y ∷ w) ss (omega arith)) ∙ f)

-- ---- what may be used stays so

usable-kept : (how : Use) (at n : ℕ) (r : Region) (bs : List ℕ) → length bs ≡ length r.bytes → is_usable how at n (let s : Region = record r { bytes = bs } in s) ≡ is_usable how at n r
usable-kept how at n r bs e = ap (λ k. (nat_le r.start at && nat_le (at + n) (r.start + k)) && allows how r.perms) e

if-usable : (b c : Bool) (x y : List ℕ) (o : Option (List ℕ)) → b ≡ c → is_some (if b then Some x else o) ≡ is_some (if c then Some y else o)
if-usable true true x y o e = refl
if-usable false false x y o e = refl
if-usable true false x y o e = cc
if-usable false true x y o e = cc

if-rest : (b : Bool) (x : List ℕ) (o p : Option (List ℕ)) → is_some o ≡ is_some p → is_some (if b then Some x else o) ≡ is_some (if b then Some x else p)
if-rest true x o p e = refl
if-rest false x o p e = e

written-kept : (how : Use) (at n from : ℕ) (w : List ℕ) (rs ss : List Region) → written from w rs ≡ Some ss → is_some (bytes_at how at n ss) ≡ is_some (bytes_at how at n rs)
unfolding bytes_at written
written-kept how at n from w [] ss e = cc
written-kept how at n from w (r ∷ rs) ss e = go (is_usable Writes from (length w) r) refl (λ ts f. written-kept how at n from w rs ts f)
  where
    go : (b : Bool) → is_usable Writes from (length w) r ≡ b → ((ts : List Region) → written from w rs ≡ Some ts → is_some (bytes_at how at n ts) ≡ is_some (bytes_at how at n rs)) → is_some (bytes_at how at n ss) ≡ is_some (bytes_at how at n (r ∷ rs))
    go true u next =
        let c = covers-is r from (length w) (and-left _ _ u) in
        let bs = put_over r.bytes (from - r.start) w in
        let first : ss ≡ (let s : Region = record r { bytes = bs } in s) ∷ rs = some-regions _ _ (sym e ∙ written-here from w r rs u) in
        ap (λ t. is_some (bytes_at how at n t)) first
        ∙ if-usable (is_usable how at n (let s : Region = record r { bytes = bs } in s)) (is_usable how at n r) (drop (at - r.start) bs) (drop (at - r.start) r.bytes) (bytes_at how at n rs)
        (usable-kept how at n r bs (length-put_over r.bytes w (from - r.start) (omega (arith, c))))
    go false u next =
        let x = behind r (written from w rs) ss (sym (written-there from w r rs u) ∙ e) in
        ap (λ t. is_some (bytes_at how at n t)) x.2
        ∙ if-rest (is_usable how at n r) (drop (at - r.start) r.bytes) (bytes_at how at n x.0) (bytes_at how at n rs) (next x.0 x.1)

filled-kept : (how : Use) (at n from : ℕ) (w : List ℕ) (rs ss : List Region) → filled from w rs ≡ Some ss → is_some (bytes_at how at n ss) ≡ is_some (bytes_at how at n rs)
filled-kept how at n from [] rs ss e = ap (λ t. is_some (bytes_at how at n t)) (sym (some-regions rs ss e))
filled-kept how at n from (x ∷ w) rs ss e = written-kept how at n from (x ∷ w) rs ss (sym (filled_some from (x ∷ w) rs (omega arith)) ∙ e)

-- ---- memory after bytes were put there

pub filled-none : (at : ℕ) (m : MemoryView) → HasFilled at [] m m
filled-none at m = record { regions = refl; rest = refl }

pub filled-more : (at len from : ℕ) (v w : List ℕ) (m k l : MemoryView) → LieApart (map range m.regions) → is_some (bytes_at Writes at len m.regions) ≡ true → length v + length w ≤ len
    → from ≡ at + length v → HasFilled at v m k → HasFilled from w k l → HasFilled at (v ++ w) m l
filled-more at len from v w m k l a h n is x y = record {
  regions = filled-then at len v w m.regions k.regions l.regions a h n x.regions (ap (λ i. filled i w k.regions) (sym is) ∙ y.regions);
  rest = y.rest ∙ ap (λ (j : MemoryView). let i : MemoryView = record j { regions = l.regions } in i) x.rest;
}

pub stays-writable : (at len from : ℕ) (w : List ℕ) (m k : MemoryView) → HasFilled from w m k → is_some (bytes_at Writes at len m.regions) ≡ true → is_some (bytes_at Writes at len k.regions) ≡ true
stays-writable at len from w m k x h = filled-kept Writes at len from w m.regions k.regions x.regions ∙ h

pub some-of : (o : Option (List ℕ)) → is_some o ≡ true → (bs : List ℕ) × (o ≡ Some bs)
some-of None h = cc
some-of (Some bs) h = (bs, refl)

-- what is lent of a buffer from its k-th byte on
pub record IsPiece (k n : ℕ) (bs piece : List ℕ) : Type 0 where
  pub is : piece ≡ take (length piece) (drop k bs)
  pub some : 0 < length piece
  pub few : length piece ≤ n - k

pub piece-of : (how : Use) (at n k : ℕ) (bs piece : List ℕ) (rs : List Region) → LieApart (map range rs) → k < n → bytes_at how at n rs ≡ Some bs
    → option_map (take (piece_size (at + k) (n - k))) (bytes_at how (at + k) (n - k) rs) ≡ Some piece → IsPiece k n bs piece
piece-of how at n k bs piece rs a h e p =
    let i : IsRest how at n k bs rs = rest-of how at n k bs rs a h e in
    let size = piece_size (at + k) (n - k) in
    let same : piece ≡ take size (drop k bs) = some-same _ _ (sym p ∙ ap (option_map (take size)) i.rest) in
    let long : length piece ≡ size = omega (arith, ap (λ x. length x) same, length-take size (drop k bs), length-drop k bs, i.long) in
    record {
      is = same ∙ ap (λ j. take j (drop k bs)) (sym long);
      some = omega (arith, long, h);
      few = omega (arith, long);
    }

-- the rest of a buffer may be used, and starts below 2^32
pub goes-on : (how : Use) (at n k : ℕ) (rs : List Region) → LieApart (map range rs) → k < n → is_some (bytes_at how at n rs) ≡ true → (is_some (bytes_at how (at + k) (n - k) rs) ≡ true) × (at + n ≤ 2 ^ 32)
goes-on how at n k rs a h e =
    let s = some-of (bytes_at how at n rs) e in
    let i : IsRest how at n k s.0 rs = rest-of how at n k s.0 rs a h s.1 in
    (ap is_some i.rest, i.below)
