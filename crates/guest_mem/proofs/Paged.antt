-- Pages joined, by the number of a page and the offset in it.
use Rattle.std.proofs.Common.{◌≡◌, ℕ, zero, suc, ◌+◌, ◌-◌, ◌%◌, ◌/◌, true, ◌<◌, ◌≤◌, min, List, [], ◌∷◌, ◌++◌, length, take, drop, get_or, set, refl, sym, ◌∙◌, ap, subst, arith, length-append, length-take, length-drop}
use Rattle.std.specs.Vec.{with_items_from}
use Rattle.br_word.specs.Memory.{Region, covers, put_over}
use Rattle.guest_mem.proofs.Places.{covers-bounds}
use Rattle.guest_mem.specs.declared.area.Page.{Page}
use Rattle.guest_mem.specs.Pages.{joined, IsPage, ArePages, page_begin, page_room}
use Rattle.guest_mem.specs.Lending.{page_with}
use Rattle.guest_mem.proofs.Lists.{put_over-front, put_over-back, drop-front, drop-back, take-front, refill}
use Rattle.guest_mem.proofs.Numbers.{length-put_over}

abbrev pub page_size : Page → ℕ
page_size p = length p.bytes.items

pub begin-suc : (room j : ℕ) → page_begin room (suc j) ≡ room + page_begin 4096 j
begin-suc room zero = omega arith
begin-suc room (suc j) = omega arith

pub room-suc : (room j : ℕ) → page_room room (suc j) ≡ page_room 4096 j
room-suc room zero = refl
room-suc room (suc j) = refl

-- a page with others behind it is full
pub page-full : (room : ℕ) (p : Page) (ps : List Page) → IsPage room p ps → 0 < length (joined ps) → page_size p ≡ room
page-full room p [] h k = absurd (omega arith)
page-full room p (q ∷ qs) h k = h

pub page-small : (room : ℕ) (p : Page) (ps : List Page) → IsPage room p ps → page_size p ≤ room
page-small room p [] h = h.1
page-small room p (q ∷ qs) h = omega (arith, h)

-- where an offset lies in pages
pub record IsIn (room : ℕ) (ps : List Page) (j k : ℕ) (p : Page) : Type 0 where
  pub number : j < length ps
  pub inside : k < page_size p
  pub rest : page_size p - k ≡ min (page_room room j - k) (length (joined ps) - (page_begin room j + k))
  pub bytes : drop (page_begin room j + k) (joined ps) ≡ drop k p.bytes.items ++ joined (drop (suc j) ps)

in-first : (room : ℕ) (q : Page) (ps : List Page) (k : ℕ) → IsPage room q ps → k < room → 0 + k < length (q.bytes.items ++ joined ps) → IsIn room (q ∷ ps) 0 k q
in-first room q ps k a l h = record { number = omega arith; inside = inside ps a h; rest = rest ps a; bytes = (let e : 0 + k ≡ k = omega arith in ap (λ i. drop i (q.bytes.items ++ joined ps)) e) ∙ drop-front q.bytes.items (joined ps) k (let i = inside ps a h in omega (arith, i)) }
  where
    inside : (rs : List Page) → IsPage room q rs → 0 + k < length (q.bytes.items ++ joined rs) → k < page_size q
    inside [] a h = omega (arith, h, length-append q.bytes.items [])
    inside (r ∷ rs) a h = omega (arith, a, l)

    rest : (rs : List Page) → IsPage room q rs → page_size q - k ≡ min (room - k) (length (q.bytes.items ++ joined rs) - (0 + k))
    rest [] a = omega (arith, a.1, length-append q.bytes.items [])
    rest (r ∷ rs) a = omega (arith, a, length-append q.bytes.items (joined (r ∷ rs)))

pub is-in : (room : ℕ) (ps : List Page) (j k : ℕ) (p : Page) → ArePages room ps → k < page_room room j → page_begin room j + k < length (joined ps) → p ≡ get_or ps j p → IsIn room ps j k p
is-in room [] j k p a l h g = absurd (omega arith)
is-in room (q ∷ ps) zero k p a l h g = subst (IsIn room (q ∷ ps) 0 k) (sym g) (in-first room q ps k a.0 l h)
is-in room (q ∷ ps) (suc j) k p a l h g =
    let whole = length-append q.bytes.items (joined ps) in
    let small = page-small room q ps a.0 in
    let full = page-full room q ps a.0 (omega (arith, whole, small, h)) in
    let b = begin-suc room j in
    let i = is-in 4096 ps j k p a.1 (omega (arith, l, room-suc room j)) (omega (arith, whole, full, b, h)) g in
    let e : page_begin room (suc j) + k ≡ page_size q + (page_begin 4096 j + k) = omega (arith, full, b) in
    record {
      number = omega (arith, i.number);
      inside = i.inside;
      rest = omega (arith, i.rest, e, whole, room-suc room j);
      bytes = ap (λ n. drop n (q.bytes.items ++ joined ps)) e ∙ (drop-back q.bytes.items (joined ps) (page_begin 4096 j + k) ∙ i.bytes);
    }

-- what was written to a slice of a page
items-page_with : (p : Page) (k : ℕ) (w : List ℕ) → k ≤ page_size p → (page_with p k w).bytes.items ≡ put_over p.bytes.items k (take (page_size p - k) w)
items-page_with p k w h =
    let xs = p.bytes.items in
    let ws = take k xs ++ (w ++ drop (length w) (drop k xs)) in
    ap (λ n. take n (ws ++ drop (length ws) xs)) p.bytes.ok.0 ∙ refill k xs w h

pub size-page_with : (p : Page) (k : ℕ) (w : List ℕ) → page_size (page_with p k w) ≡ page_size p
size-page_with p k w = sym (with_items_from p.bytes k w).ok.0 ∙ p.bytes.ok.0

-- a write to a page, in the pages joined
pub joined-page_with : (room : ℕ) (ps : List Page) (j k : ℕ) (p : Page) (w : List ℕ) → ArePages room ps → k < page_room room j → page_begin room j + k < length (joined ps) → p ≡ get_or ps j p → joined (set ps j (page_with p k w)) ≡ put_over (joined ps) (page_begin room j + k) (take (page_size p - k) w)
joined-page_with room [] j k p w a l h g = absurd (omega arith)
joined-page_with room (q ∷ ps) zero k p w a l h g =
    let i = is-in room (q ∷ ps) 0 k p a l h g in
    let e : k ≡ 0 + k = omega arith in
    let n = length-take (page_size p - k) w in
    ap (λ s. s ++ joined ps) (items-page_with p k w (omega (arith, i.inside)))
    ∙ (sym (put_over-front p.bytes.items (joined ps) (take (page_size p - k) w) k (omega (arith, n, i.inside)))
    ∙ (ap (λ (r : Page). put_over (r.bytes.items ++ joined ps) k (take (page_size p - k) w)) g ∙ ap (λ m. put_over (q.bytes.items ++ joined ps) m (take (page_size p - k) w)) e))
joined-page_with room (q ∷ ps) (suc j) k p w a l h g =
    let whole = length-append q.bytes.items (joined ps) in
    let small = page-small room q ps a.0 in
    let full = page-full room q ps a.0 (omega (arith, whole, small, h)) in
    let b = begin-suc room j in
    let e : page_size q + (page_begin 4096 j + k) ≡ page_begin room (suc j) + k = omega (arith, full, b) in
    let v = take (page_size p - k) w in
    ap (λ s. q.bytes.items ++ s) (joined-page_with 4096 ps j k p w a.1 (omega (arith, l, room-suc room j)) (omega (arith, whole, full, b, h)) g)
    ∙ (sym (put_over-back q.bytes.items (joined ps) v (page_begin 4096 j + k)) ∙ ap (λ n. put_over (q.bytes.items ++ joined ps) n v) e)

IsPage-set : (room : ℕ) (q : Page) (ps : List Page) (j : ℕ) (x : Page) → IsPage room q ps → IsPage room q (set ps j x)
IsPage-set room q [] j x h = h
IsPage-set room q (r ∷ rs) zero x h = h
IsPage-set room q (r ∷ rs) (suc j) x h = h

IsPage-size : (room : ℕ) (p x : Page) (ps : List Page) → page_size x ≡ page_size p → IsPage room p ps → IsPage room x ps
IsPage-size room p x [] e h = (omega (arith, e, h.0), omega (arith, e, h.1))
IsPage-size room p x (r ∷ rs) e h = e ∙ h

pub ArePages-set : (room : ℕ) (ps : List Page) (j : ℕ) (p x : Page) → ArePages room ps → p ≡ get_or ps j p → page_size x ≡ page_size p → ArePages room (set ps j x)
ArePages-set room [] j p x a g e = a
ArePages-set room (q ∷ ps) zero p x a g e = (IsPage-size room q x ps (e ∙ ap page_size g) a.0, a.1)
ArePages-set room (q ∷ ps) (suc j) p x a g e = (IsPage-set room q ps j x a.0, ArePages-set 4096 ps j p x a.1 g e)

-- the page of an offset is there
pub is-number : (room : ℕ) (ps : List Page) (j k : ℕ) → ArePages room ps → k < page_room room j → page_begin room j + k < length (joined ps) → j < length ps
is-number room [] j k a l h = absurd (omega arith)
is-number room (q ∷ ps) zero k a l h = omega arith
is-number room (q ∷ ps) (suc j) k a l h =
    let whole = length-append q.bytes.items (joined ps) in
    let small = page-small room q ps a.0 in
    let full = page-full room q ps a.0 (omega (arith, whole, small, h)) in
    let n = is-number 4096 ps j k a.1 (omega (arith, l, room-suc room j)) (omega (arith, whole, full, begin-suc room j, h)) in
    omega (arith, n)

-- ---- by an address

-- an address in a region, and the place of its page: number j, offset k
pub record HasPage (start at : ℕ) (ps : List Page) (j k : ℕ) : Type 0 where
  pub pages : ArePages (4096 - start % 4096) ps
  pub low : start ≤ at
  pub high : at - start < length (joined ps)
  pub begin : page_begin (4096 - start % 4096) j + k ≡ at - start
  pub room : k + (4096 - at % 4096) ≡ page_room (4096 - start % 4096) j

pub place-number : (start at : ℕ) (ps : List Page) (j k : ℕ) → HasPage start at ps j k → j < length ps
place-number start at ps j k h = is-number (4096 - start % 4096) ps j k h.pages (omega (arith, h.room)) (omega (arith, h.begin, h.high))

-- what the page of an address holds
pub record IsAt (start at : ℕ) (ps : List Page) (j k : ℕ) (p : Page) : Type 0 where
  pub inside : k < page_size p
  pub rest : page_size p - k ≡ min (length (joined ps) - (at - start)) (4096 - at % 4096)
  pub bytes : drop (at - start) (joined ps) ≡ drop k p.bytes.items ++ joined (drop (suc j) ps)

pub is-at : (start at : ℕ) (ps : List Page) (j k : ℕ) (p : Page) → HasPage start at ps j k → p ≡ get_or ps j p → IsAt start at ps j k p
is-at start at ps j k p h g =
    let i = is-in (4096 - start % 4096) ps j k p h.pages (omega (arith, h.room)) (omega (arith, h.begin, h.high)) g in
    record {
      inside = i.inside;
      rest = omega (arith, i.rest, h.begin, h.room);
      bytes = ap (λ n. drop n (joined ps)) (sym h.begin) ∙ i.bytes;
    }

-- n bytes from an address, where its page holds them
pub take-at : (start at : ℕ) (ps : List Page) (j k : ℕ) (p : Page) (n : ℕ) → HasPage start at ps j k → p ≡ get_or ps j p → k + n ≤ page_size p → take n (drop (at - start) (joined ps)) ≡ take n (drop k p.bytes.items)
take-at start at ps j k p n h g l =
    let i = is-at start at ps j k p h g in
    ap (take n) i.bytes ∙ take-front (drop k p.bytes.items) (joined (drop (suc j) ps)) n (omega (arith, l, length-drop k p.bytes.items))

pub joined-at : (start at : ℕ) (ps : List Page) (j k : ℕ) (p : Page) (w : List ℕ) → HasPage start at ps j k → p ≡ get_or ps j p → joined (set ps j (page_with p k w)) ≡ put_over (joined ps) (at - start) (take (min (length (joined ps) - (at - start)) (4096 - at % 4096)) w)
joined-at start at ps j k p w h g =
    let i = is-at start at ps j k p h g in
    joined-page_with (4096 - start % 4096) ps j k p w h.pages (omega (arith, h.room)) (omega (arith, h.begin, h.high)) g
    ∙ (ap (λ n. put_over (joined ps) n (take (page_size p - k) w)) h.begin ∙ ap (λ n. put_over (joined ps) (at - start) (take n w)) i.rest)

-- a range of bytes that is covered begins in a page
pub has-page : (r : Region) (at len j k : ℕ) (ps : List Page) → r.bytes ≡ joined ps → ArePages (4096 - r.start % 4096) ps → covers r at len ≡ true → 0 < len → j ≡ at / 4096 - r.start / 4096 → page_begin (4096 - r.start % 4096) (at / 4096 - r.start / 4096) + k ≡ at - r.start → k + (4096 - at % 4096) ≡ page_room (4096 - r.start % 4096) (at / 4096 - r.start / 4096) → HasPage r.start at ps j k
has-page r at len j k ps e a c s n b m =
    let bounds = covers-bounds r at len c in
    let l : length r.bytes ≡ length (joined ps) = ap (λ bs. length bs) e in
    record {
      pages = a;
      low = bounds.0;
      high = omega (arith, bounds, s, l);
      begin = ap (λ i. page_begin (4096 - r.start % 4096) i + k) n ∙ b;
      room = m ∙ ap (page_room (4096 - r.start % 4096)) (sym n);
    }

pub length-joined-at : (start at : ℕ) (ps : List Page) (j k : ℕ) (p : Page) (w : List ℕ) → HasPage start at ps j k → p ≡ get_or ps j p → length (joined (set ps j (page_with p k w))) ≡ length (joined ps)
length-joined-at start at ps j k p w h g =
    let n = min (length (joined ps) - (at - start)) (4096 - at % 4096) in
    ap (λ bs. length bs) (joined-at start at ps j k p w h g)
    ∙ length-put_over (joined ps) (take n w) (at - start) (omega (arith, length-take n w, h.high))
