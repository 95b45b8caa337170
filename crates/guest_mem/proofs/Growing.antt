-- Pages that are added, filled up or cut at the end.
use Rattle.std.proofs.Common.{◌≡◌, ℕ, zero, suc, ◌+◌, ◌-◌, ◌<◌, ◌≤◌, min, List, [], ◌∷◌, ◌++◌, length, take, get_or, set, refl, sym, ◌∙◌, ap, arith, append_assoc, append-nil, length-append, length-take}
use Rattle.std.proofs.lemmas.List.{replicate-append-replicate}
use Rattle.br_word.specs.Memory.{zeros}
use Rattle.guest_mem.specs.declared.area.Page.{Page}
use Rattle.guest_mem.specs.Pages.{joined, IsPage, ArePages, page_begin, page_room}
use Rattle.guest_mem.proofs.Numbers.{length-zeros}
use Rattle.guest_mem.proofs.Lists.{take-front, take-back}
use Rattle.guest_mem.proofs.Paged.{page_size, begin-suc, room-suc, page-full, page-small, is-in, ArePages-set}

-- all pages are full
abbrev pub AreFull : ℕ → List Page → Type 0
AreFull room [] = Unit {0}
AreFull room (p ∷ ps) = (page_size p ≡ room) × AreFull 4096 ps

full-pages : (room : ℕ) (ps : List Page) → 0 < room → AreFull room ps → ArePages room ps
full-pages room [] k h = tt
full-pages room (p ∷ []) k h = ((omega (arith, h.0), omega (arith, h.0)), tt)
full-pages room (p ∷ q ∷ qs) k h = (h.0, full-pages 4096 (q ∷ qs) (omega arith) h.1)

push-pages : (room : ℕ) (ps : List Page) (p : Page) → AreFull room ps → 0 < page_size p → page_size p ≤ page_room room (length ps) → ArePages room (ps ++ p ∷ [])
push-pages room [] p h k l = ((k, l), tt)
push-pages room (q ∷ []) p h k l = (h.0, ((k, l), tt))
push-pages room (q ∷ r ∷ rs) p h k l = (h.0, push-pages 4096 (r ∷ rs) p h.1 k l)

push-full : (room : ℕ) (ps : List Page) (p : Page) → AreFull room ps → page_size p ≡ page_room room (length ps) → AreFull room (ps ++ p ∷ [])
push-full room [] p h e = (e, tt)
push-full room (q ∷ ps) p h e = (h.0, push-full 4096 ps p h.1 (e ∙ room-suc room (length ps)))

pub joined-append : (ps qs : List Page) → joined (ps ++ qs) ≡ joined ps ++ joined qs
joined-append [] qs = refl
joined-append (p ∷ ps) qs = ap (λ s. p.bytes.items ++ s) (joined-append ps qs) ∙ sym (append_assoc p.bytes.items (joined ps) (joined qs))

pub zeros-append : (n m : ℕ) → zeros n ++ zeros m ≡ zeros (n + m)
unfolding zeros
zeros-append n m = replicate-append-replicate n m 0

-- zeros up to done, in pages that are full as long as more come
pub record IsFilled (first room done size : ℕ) (ps : List Page) : Type 0 where
  pub some : 0 < room
  pub most : done ≤ size
  pub pages : ArePages first ps
  pub bytes : joined ps ≡ zeros done
  pub full : done < size → AreFull first ps
  pub next : done < size → room ≡ page_room first (length ps)

pub filled-none : (first size : ℕ) → 0 < first → IsFilled first first 0 size []
unfolding zeros
filled-none first size h = record { some = h; most = omega arith; pages = tt; bytes = refl; full = λ _. tt; next = λ _. refl }

pub filled-more : (first room done size count : ℕ) (ps : List Page) (p : Page) → IsFilled first room done size ps → done < size → count ≡ min room (size - done) → p.bytes.items ≡ zeros count → IsFilled first 4096 (done + count) size (ps ++ p ∷ [])
filled-more first room done size count ps p h l e z =
    let n : page_size p ≡ count = ap (λ bs. length bs) z ∙ length-zeros count in
    record {
      some = omega arith;
      most = omega (arith, e, l);
      pages = push-pages first ps p (h.full l) (omega (arith, n, e, l, h.some)) (omega (arith, n, e, h.next l));
      bytes = joined-append ps (p ∷ []) ∙ (ap (λ s. s ++ (p.bytes.items ++ [])) h.bytes ∙ (ap (λ s. zeros done ++ s) (append-nil p.bytes.items ∙ z) ∙ zeros-append done count));
      full = λ m. push-full first ps p (h.full l) (omega (arith, n, e, m, h.next l));
      next = λ m. next-room ps;
    }
  where
    next-room : (qs : List Page) → 4096 ≡ page_room first (length (qs ++ p ∷ []))
    next-room [] = refl
    next-room (q ∷ qs) = refl

-- ---- the last page is filled up, and pages follow it

more-some : (m : Page) (ms : List Page) → ArePages 4096 (m ∷ ms) → 0 < length (joined (m ∷ ms))
more-some m [] a = omega (arith, a.0.0, length-append m.bytes.items [])
more-some m (q ∷ qs) a = omega (arith, a.0, length-append m.bytes.items (joined (q ∷ qs)))

pub risen-pages : (room : ℕ) (ps : List Page) (j : ℕ) (x : Page) (more : List Page) → ArePages room ps → j + 1 ≡ length ps → 0 < page_size x → page_size x ≤ page_room room j → (0 < length (joined more) → page_size x ≡ page_room room j) → ArePages 4096 more → ArePages room (set ps j x ++ more)
risen-pages room [] j x more a e k l f m = absurd (omega arith)
risen-pages room (q ∷ []) zero x [] a e k l f m = ((k, l), tt)
risen-pages room (q ∷ []) zero x (n ∷ ns) a e k l f m = (f (more-some n ns m), m)
risen-pages room (q ∷ []) (suc j) x more a e k l f m = absurd (omega arith)
risen-pages room (q ∷ r ∷ rs) zero x more a e k l f m = absurd (omega arith)
risen-pages room (q ∷ r ∷ rs) (suc zero) x more a e k l f m = (a.0, risen-pages 4096 (r ∷ rs) zero x more a.1 (omega arith) k l f m)
risen-pages room (q ∷ r ∷ rs) (suc (suc j)) x more a e k l f m = (a.0, risen-pages 4096 (r ∷ rs) (suc j) x more a.1 (omega arith) k l f m)

pub risen-bytes : (ps : List Page) (j : ℕ) (p x : Page) (z : List ℕ) → j + 1 ≡ length ps → p ≡ get_or ps j p → x.bytes.items ≡ p.bytes.items ++ z → joined (set ps j x) ≡ joined ps ++ z
risen-bytes [] j p x z e g h = absurd (omega arith)
risen-bytes (q ∷ []) zero p x z e g h =
    append-nil x.bytes.items ∙ (h ∙ (ap (λ (r : Page). r.bytes.items ++ z) g ∙ ap (λ s. s ++ z) (sym (append-nil q.bytes.items))))
risen-bytes (q ∷ []) (suc j) p x z e g h = absurd (omega arith)
risen-bytes (q ∷ r ∷ rs) zero p x z e g h = absurd (omega arith)
risen-bytes (q ∷ r ∷ rs) (suc j) p x z e g h =
    ap (λ s. q.bytes.items ++ s) (risen-bytes (r ∷ rs) j p x z (omega arith) g h) ∙ sym (append_assoc q.bytes.items (joined (r ∷ rs)) z)

pub last-small : (room : ℕ) (ps : List Page) (j : ℕ) (p : Page) → ArePages room ps → j + 1 ≡ length ps → p ≡ get_or ps j p → (0 < page_size p) × (page_size p ≤ page_room room j)
last-small room [] j p a l g = absurd (omega arith)
last-small room (q ∷ []) zero p a l g = let e = ap page_size g in (omega (arith, e, a.0.0), omega (arith, e, a.0.1))
last-small room (q ∷ r ∷ rs) zero p a l g = absurd (omega arith)
last-small room (q ∷ ps) (suc j) p a l g =
    let i = last-small 4096 ps j p a.1 (omega arith) g in
    (i.0, omega (arith, i.1, room-suc room j))

-- ---- the pages are cut

first-full : (room : ℕ) (q r : Page) (rs : List Page) (j : ℕ) (x : Page) → page_size q ≡ room → IsPage room q (set (take (suc j) (r ∷ rs)) j x)
first-full room q r rs zero x e = e
first-full room q r rs (suc j) x e = e

first-kept : (room : ℕ) (q : Page) (ps : List Page) (j : ℕ) (x : Page) → 0 < length (joined ps) → page_size q ≡ room → IsPage room q (set (take (suc j) ps) j x)
first-kept room q [] j x h e = absurd (omega arith)
first-kept room q (r ∷ rs) j x h e = first-full room q r rs j x e

pub cut-pages : (room : ℕ) (ps : List Page) (j k : ℕ) (p x : Page) → ArePages room ps → k < page_room room j → page_begin room j + k < length (joined ps) → p ≡ get_or ps j p → x.bytes.items ≡ take (k + 1) p.bytes.items → ArePages room (set (take (suc j) ps) j x) × (joined (set (take (suc j) ps) j x) ≡ take (page_begin room j + k + 1) (joined ps))
cut-pages room [] j k p x a l h g e = absurd (omega arith)
cut-pages room (q ∷ ps) zero k p x a l h g e =
    let i = is-in room (q ∷ ps) 0 k p a l h g in
    let n : page_size x ≡ k + 1 = omega (arith, ap (λ bs. length bs) e, length-take (k + 1) p.bytes.items, i.inside) in
    let m : k + 1 ≡ 0 + k + 1 = omega arith in (
      ((omega (arith, n), omega (arith, n, l)), tt),
      append-nil x.bytes.items ∙ (e ∙ (sym (take-front p.bytes.items (joined ps) (k + 1) (omega (arith, i.inside)))
          ∙ (ap (λ (r : Page). take (k + 1) (r.bytes.items ++ joined ps)) g ∙ ap (λ c. take c (q.bytes.items ++ joined ps)) m))),
    )
cut-pages room (q ∷ ps) (suc j) k p x a l h g e =
    let whole = length-append q.bytes.items (joined ps) in
    let small = page-small room q ps a.0 in
    let some : 0 < length (joined ps) = omega (arith, whole, small, h) in
    let full = page-full room q ps a.0 some in
    let b = begin-suc room j in
    let i = cut-pages 4096 ps j k p x a.1 (omega (arith, l, room-suc room j)) (omega (arith, whole, full, b, h)) g e in
    let m : page_size q + (page_begin 4096 j + k + 1) ≡ page_begin room (suc j) + k + 1 = omega (arith, full, b) in (
      (first-kept room q ps j x some full, i.0),
      ap (λ s. q.bytes.items ++ s) i.1 ∙ (sym (take-back q.bytes.items (joined ps) (page_begin 4096 j + k + 1)) ∙ ap (λ c. take c (q.bytes.items ++ joined ps)) m),
    )

get-front : (ps : List Page) (n j : ℕ) (p : Page) → j < n → get_or (take n ps) j p ≡ get_or ps j p
get-front [] zero j p h = refl
get-front [] (suc n) j p h = refl
get-front (q ∷ ps) zero j p h = absurd (omega arith)
get-front (q ∷ ps) (suc n) zero p h = refl
get-front (q ∷ ps) (suc n) (suc j) p h = get-front ps n j p (omega arith)

-- the pages that hold the first bytes, the last of them cut
pub cut-at : (room : ℕ) (ps qs : List Page) (j k size : ℕ) (p x : Page) → ArePages room ps → k < page_room room j → page_begin room j + k + 1 ≡ size → size ≤ length (joined ps) → qs ≡ take (j + 1) ps → p ≡ get_or qs j p → x.bytes.items ≡ take (k + 1) p.bytes.items → ArePages room (set qs j x) × (joined (set qs j x) ≡ take size (joined ps))
cut-at room ps qs j k size p x a l e h t g n =
    let s : j + 1 ≡ suc j = omega arith in
    let u : qs ≡ take (suc j) ps = t ∙ ap (λ i. take i ps) s in
    let f : p ≡ get_or ps j p = g ∙ (ap (λ rs. get_or rs j p) u ∙ get-front ps (suc j) j p (omega arith)) in
    let i = cut-pages room ps j k p x a l (omega (arith, e, h)) f n in
    rw u (i.0, i.1 ∙ ap (λ c. take c (joined ps)) e)

-- the pages after a rise: z is put behind the last page, more pages behind that
pub risen : (room size kept : ℕ) (ps more : List Page) (j : ℕ) (p x : Page) → ArePages room ps → j + 1 ≡ length ps → p ≡ get_or ps j p → x.bytes.items ≡ p.bytes.items ++ zeros kept → kept ≡ min (page_room room j - page_size p) (size - length (joined ps)) → ArePages 4096 more → joined more ≡ zeros (size - length (joined ps) - kept) → length (joined ps) < size → ArePages room (set ps j x ++ more) × (joined (set ps j x ++ more) ≡ joined ps ++ zeros (size - length (joined ps)))
risen room size kept ps more j p x a l g h k m z s =
    let i = last-small room ps j p a l g in
    let n : page_size x ≡ page_size p + kept = omega (arith, ap (λ bs. length bs) h, length-append p.bytes.items (zeros kept), length-zeros kept) in
    let c : length (joined more) ≡ size - length (joined ps) - kept = ap (λ bs. length bs) z ∙ length-zeros (size - length (joined ps) - kept) in
    let e : kept + (size - length (joined ps) - kept) ≡ size - length (joined ps) = omega (arith, k) in (
      risen-pages room ps j x more a l (omega (arith, n, i.0)) (omega (arith, n, k, i.1)) (λ y. omega (arith, y, n, c, k, i.1)) m,
      joined-append (set ps j x) more ∙ (ap (λ b. b ++ joined more) (risen-bytes ps j p x (zeros kept) l g h)
          ∙ (ap (λ b. (joined ps ++ zeros kept) ++ b) z ∙ (append_assoc (joined ps) (zeros kept) (zeros (size - length (joined ps) - kept))
          ∙ ap (λ b. joined ps ++ b) (zeros-append kept (size - length (joined ps) - kept) ∙ ap zeros e)))),
    )

same-page : (ps : List Page) (j : ℕ) (r p : Page) → j < length ps → r ≡ get_or ps j r → p ≡ get_or ps j p → r ≡ p
same-page [] j r p l g h = absurd (omega arith)
same-page (q ∷ ps) zero r p l g h = g ∙ sym h
same-page (q ∷ ps) (suc j) r p l g h = same-page ps j r p (omega arith) g h

-- the last page has the same bytes
pub last-same : (room : ℕ) (ps qs : List Page) (j : ℕ) (p x : Page) → ArePages room ps → j + 1 ≡ length ps → qs ≡ ps → p ≡ get_or qs j p → x.bytes.items ≡ p.bytes.items → ArePages room (set qs j x) × (joined (set qs j x) ≡ joined ps)
last-same room ps qs j p x a l e g h =
    let f : p ≡ get_or ps j p = g ∙ ap (λ rs. get_or rs j p) e in
    rw e (
      ArePages-set room ps j p x a f (ap (λ bs. length bs) h),
      risen-bytes ps j p x [] l f (h ∙ sym (append-nil p.bytes.items)) ∙ append-nil (joined ps),
    )

pub risen-at : (room size held kept old : ℕ) (ps qs more : List Page) (j : ℕ) (r p x : Page) → ArePages room ps → j + 1 ≡ length ps → old ≡ length (joined ps) → qs ≡ ps → r ≡ get_or ps j r → held ≡ page_size r → p ≡ get_or qs j p → x.bytes.items ≡ p.bytes.items ++ zeros (held + kept - page_size p) → kept ≡ min (page_room room j - held) (size - old) → ArePages 4096 more → joined more ≡ zeros (size - old - kept) → old < size → ArePages room (set qs j x ++ more) × (joined (set qs j x ++ more) ≡ joined ps ++ zeros (size - length (joined ps)))
risen-at room size held kept old ps qs more j r p x a l o e f d g h k m z s =
    let u : p ≡ get_or ps j p = g ∙ ap (λ rs. get_or rs j p) e in
    let t : page_size r ≡ page_size p = ap page_size (same-page ps j r p (omega (arith, l)) f u) in
    let v : held + kept - page_size p ≡ kept = omega (arith, d, t) in
    rw e (risen room size kept ps more j p x a l u (h ∙ ap (λ n. p.bytes.items ++ zeros n) v) (omega (arith, k, d, t, o)) m (z ∙ ap (λ n. zeros (size - n - kept)) o) (omega (arith, o, s)))
