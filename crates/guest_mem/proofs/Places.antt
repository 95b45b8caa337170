-- The region to which an access goes, by its place in the list.
use Rattle.std.proofs.Common.{◌≡◌, ℕ, zero, suc, ◌+◌, ◌-◌, ◌<◌, ◌≤◌, Bool, true, false, cond, ◌&&◌, List, [], ◌∷◌, length, drop, get_or, set, Option, Some, None, refl, sym, ◌∙◌, ap, arith}
use Rattle.std.specs.Prelude.{option_map, is_some, if◌then◌else◌}
use Rattle.std.specs.List.{position, position_from}
use Rattle.std.proofs.lemmas.Iterator.Adapters.{position_from-zero}
use Rattle.std.proofs.lemmas.List.Quantifiers.{position-Some}
use Rattle.std.proofs.lemmas.Bool.Decides.{nat_tests}
use Rattle.br_word.specs.Memory.{Region, Use, Writes, allows, covers, bytes_at, put_over, written}
use Rattle.guest_mem.specs.Layout.{is_usable}

pub and_left : (a b : Bool) → (a && b) ≡ true → a ≡ true
and_left true b h = refl
and_left false b h = h

pub and_right : (a b : Bool) → (a && b) ≡ true → b ≡ true
and_right true b h = h
and_right false b h = cc

-- the bounds of a range that is covered
pub covers-bounds : (r : Region) (at n : ℕ) → covers r at n ≡ true → (r.start ≤ at) × (at + n ≤ r.start + length r.bytes)
covers-bounds r at n h = grind (arith, nat_tests)

pub covers-within : (r : Region) (at n m : ℕ) → covers r at n ≡ true → at + m ≤ r.start + length r.bytes → covers r at m ≡ true
covers-within r at n m h l = grind (arith, nat_tests)

-- ---- no region is found

bytes_at-no_place : (how : Use) (at n j : ℕ) (rs : List Region) → position_from (is_usable how at n) j rs ≡ None → bytes_at how at n rs ≡ None
unfolding bytes_at
bytes_at-no_place how at n j [] e = refl
bytes_at-no_place how at n j (r ∷ rs) e = go (is_usable how at n r) e (bytes_at-no_place how at n (j + 1) rs)
  where
    go : (b : Bool) → cond b (Some j) (position_from (is_usable how at n) (j + 1) rs) ≡ None → (position_from (is_usable how at n) (j + 1) rs ≡ None → bytes_at how at n rs ≡ None) → (if b then Some (drop (at - r.start) r.bytes) else bytes_at how at n rs) ≡ None
    go true e f = cc
    go false e f = f e

written-no_place : (at j : ℕ) (new : List ℕ) (rs : List Region) → position_from (is_usable Writes at (length new)) j rs ≡ None → written at new rs ≡ None
unfolding written
written-no_place at j new [] e = refl
written-no_place at j new (r ∷ rs) e = go (is_usable Writes at (length new) r) e (written-no_place at (j + 1) new rs)
  where
    go : (b : Bool) → cond b (Some j) (position_from (is_usable Writes at (length new)) (j + 1) rs) ≡ None → (position_from (is_usable Writes at (length new)) (j + 1) rs ≡ None → written at new rs ≡ None) → (if b then Some (record r { bytes = put_over r.bytes (at - r.start) new } ∷ rs) else option_map (λ rest. r ∷ rest) (written at new rs)) ≡ None
    go true e f = cc
    go false e f = ap (option_map (λ rest. r ∷ rest)) (f e)

pub bytes_at-None : (how : Use) (at n : ℕ) (rs : List Region) → position (is_usable how at n) rs ≡ None → bytes_at how at n rs ≡ None
bytes_at-None how at n rs e = bytes_at-no_place how at n 0 rs (sym (position_from-zero (is_usable how at n) rs) ∙ e)

pub written-None : (at : ℕ) (new : List ℕ) (rs : List Region) → position (is_usable Writes at (length new)) rs ≡ None → written at new rs ≡ None
written-None at new rs e = written-no_place at 0 new rs (sym (position_from-zero (is_usable Writes at (length new)) rs) ∙ e)

-- ---- the first region that is usable is found

bytes_at-first : (how : Use) (at n : ℕ) (rs : List Region) (i : ℕ) (d : Region) → i < length rs → is_usable how at n (get_or rs i d) ≡ true → ((k : ℕ) → k < i → is_usable how at n (get_or rs k d) ≡ false) → bytes_at how at n rs ≡ Some (drop (at - (get_or rs i d).start) (get_or rs i d).bytes)
unfolding bytes_at
bytes_at-first how at n [] i d l h f = absurd (omega arith)
bytes_at-first how at n (r ∷ rs) zero d l h f =
    ap (λ b. if b then Some (drop (at - r.start) r.bytes) else bytes_at how at n rs) h
bytes_at-first how at n (r ∷ rs) (suc i) d l h f =
    ap (λ b. if b then Some (drop (at - r.start) r.bytes) else bytes_at how at n rs) (f 0 (omega arith))
    ∙ bytes_at-first how at n rs i d (omega arith) h (λ k m. f (suc k) (omega arith))

written-first : (at : ℕ) (new : List ℕ) (rs : List Region) (i : ℕ) (d : Region) → i < length rs → is_usable Writes at (length new) (get_or rs i d) ≡ true → ((k : ℕ) → k < i → is_usable Writes at (length new) (get_or rs k d) ≡ false) → written at new rs ≡ Some (set rs i (record (get_or rs i d) { bytes = put_over (get_or rs i d).bytes (at - (get_or rs i d).start) new }))
unfolding written
written-first at new [] i d l h f = absurd (omega arith)
written-first at new (r ∷ rs) zero d l h f =
    ap (λ b. if b then Some (record r { bytes = put_over r.bytes (at - r.start) new } ∷ rs) else option_map (λ rest. r ∷ rest) (written at new rs)) h
written-first at new (r ∷ rs) (suc i) d l h f =
    ap (λ b. if b then Some (record r { bytes = put_over r.bytes (at - r.start) new } ∷ rs) else option_map (λ rest. r ∷ rest) (written at new rs)) (f 0 (omega arith))
    ∙ ap (option_map (λ rest. r ∷ rest)) (written-first at new rs i d (omega arith) h (λ k m. f (suc k) (omega arith)))

pub covers-place : (how : Use) (at n : ℕ) (rs : List Region) (i : ℕ) (r : Region) → position (is_usable how at n) rs ≡ Some i → r ≡ get_or rs i r → covers r at n ≡ true
covers-place how at n rs i r e g =
    let found = position-Some (is_usable how at n) rs i r e in
    and_left (covers r at n) (allows how r.perms) (ap (is_usable how at n) g ∙ found.1)

pub bytes_at-Some : (how : Use) (at n : ℕ) (rs : List Region) (i : ℕ) (r : Region) → position (is_usable how at n) rs ≡ Some i → r ≡ get_or rs i r → bytes_at how at n rs ≡ Some (drop (at - r.start) r.bytes)
bytes_at-Some how at n rs i r e g =
    let found = position-Some (is_usable how at n) rs i r e in
    bytes_at-first how at n rs i r found.0 found.1 found.2 ∙ ap (λ (s : Region). Some (drop (at - s.start) s.bytes)) (sym g)

pub written-Some : (at : ℕ) (new : List ℕ) (rs : List Region) (i : ℕ) (r : Region) → position (is_usable Writes at (length new)) rs ≡ Some i → r ≡ get_or rs i r → written at new rs ≡ Some (set rs i (record r { bytes = put_over r.bytes (at - r.start) new }))
written-Some at new rs i r e g =
    let found = position-Some (is_usable Writes at (length new)) rs i r e in
    written-first at new rs i r found.0 found.1 found.2
    ∙ ap (λ (s : Region). Some (set rs i (record s { bytes = put_over s.bytes (at - s.start) new }))) (sym g)

-- an access is allowed where some region is usable
pub is_some-bytes_at : (how : Use) (at n : ℕ) (rs : List Region) → is_some (position (is_usable how at n) rs) ≡ is_some (bytes_at how at n rs)
is_some-bytes_at how at n rs = go (position (is_usable how at n) rs) refl
  where
    go : (o : Option ℕ) → position (is_usable how at n) rs ≡ o → is_some o ≡ is_some (bytes_at how at n rs)
    go None e = sym (ap is_some (bytes_at-None how at n rs e))
    go (Some i) e =
        let found = position-Some (is_usable how at n) rs i (record { start = 0; perms = record { read = false; write = false; exec = false }; bytes = [] }) e in
        sym (ap is_some (bytes_at-first how at n rs i _ found.0 found.1 found.2))

pub is_some-written : (at : ℕ) (new : List ℕ) (rs : List Region) → is_some (written at new rs) ≡ is_some (bytes_at Writes at (length new) rs)
is_some-written at new rs = go (position (is_usable Writes at (length new)) rs) refl
  where
    go : (o : Option ℕ) → position (is_usable Writes at (length new)) rs ≡ o → is_some (written at new rs) ≡ is_some (bytes_at Writes at (length new) rs)
    go None e = ap is_some (written-None at new rs e) ∙ sym (ap is_some (bytes_at-None Writes at (length new) rs e))
    go (Some i) e =
        let found = position-Some (is_usable Writes at (length new)) rs i (record { start = 0; perms = record { read = false; write = false; exec = false }; bytes = [] }) e in
        ap is_some (written-first at new rs i _ found.0 found.1 found.2) ∙ sym (ap is_some (bytes_at-first Writes at (length new) rs i _ found.0 found.1 found.2))
