-- Copies of bytes, piece after piece.
use Rattle.std.proofs.Common.{◌≡◌, ℕ, ◌+◌, ◌-◌, ◌%◌, ◌<◌, ◌≤◌, nat_le, min, Bool, false, List, [], ◌++◌, length, take, drop, sym, ◌∙◌, ap, ap₂, arith, length-take, length-drop, drop-drop, take-add, take-append-drop, take_all, append-nil, true}
use Rattle.std.specs.Prelude.{replicate, if◌then◌else◌}
use Rattle.std.proofs.lemmas.List.{take-replicate, drop-replicate, take_min}
use Rattle.std.proofs.lemmas.Bool.Decides.{nat_tests}
use Rattle.br_word.specs.Memory.{Region, covers, put_over, zeros}
use Rattle.guest_mem.specs.Pieces.{piece_size, in_page, page_rest, put_piece}
use Rattle.guest_mem.proofs.Lists.{put_over-zero, put_over-twice}

-- a piece and the bytes behind it
pub two-pieces : (bs a b : List ℕ) (o p m q len : ℕ) → a ≡ take m (drop o bs) → m ≤ len → o + len ≤ length bs → p ≡ o + m → q ≡ len - m → b ≡ take q (drop p bs) → a ++ b ≡ take len (drop o bs)
two-pieces bs a b o p m q len e l h s t f =
    let n : m + q ≡ len = omega (arith, t, l) in
    ap₂ (λ x y. x ++ y) e (f ∙ ap (take q) (ap (λ i. drop i bs) s ∙ sym (drop-drop m o bs)))
    ∙ (sym (take-add m q (drop o bs)) ∙ ap (λ i. take i (drop o bs)) n)

pub length-piece : (bs a : List ℕ) (o m len : ℕ) → a ≡ take m (drop o bs) → m ≤ len → o + len ≤ length bs → length a ≡ m
length-piece bs a o m len e l h = omega (arith, ap (λ x. length x) e, length-take m (drop o bs), length-drop o bs)

-- bytes that lie in one page, and bytes that do not
in_page-all : (at : ℕ) (bs : List ℕ) → at % 4096 + length bs ≤ 4096 → in_page at bs ≡ bs
in_page-all at bs h = ap (λ b. if b then bs else []) (let e : nat_le (at % 4096 + length bs) 4096 ≡ true = grind (arith, nat_tests) in e)

in_page-none : (at : ℕ) (bs : List ℕ) → 4096 < at % 4096 + length bs → in_page at bs ≡ []
in_page-none at bs h = ap (λ b. if b then bs else []) (let e : nat_le (at % 4096 + length bs) 4096 ≡ false = grind (arith, nat_tests) in e)

pub in_page-nothing : (at : ℕ) → in_page at [] ≡ []
in_page-nothing at = in_page-all at [] (omega arith)

-- where there are some, they are all
pub in_page-some : (at : ℕ) (bs new : List ℕ) → new ≡ in_page at bs → (length new ≡ 0 → ⊥) → new ≡ bs
in_page-some at bs new e some = go (nat_le (at % 4096 + length bs) 4096) e
  where
    go : (b : Bool) → new ≡ (if b then bs else []) → new ≡ bs
    go true e = e
    go false e = absurd (some (ap (λ x. length x) e))

-- the first of l bytes that are left, by their number n
pub front-in_page : (bs : List ℕ) (at k l n most : ℕ) → l ≡ length bs - k → n ≡ min l most → n ≤ 4096 - at % 4096 → take (piece_size at n) (drop k bs) ≡ in_page at (take most (drop k bs))
front-in_page bs at k l n most e h f =
    let s : piece_size at n ≡ min most (length (drop k bs)) = omega (arith, e, h, f, length-drop k bs) in
    let t : take (piece_size at n) (drop k bs) ≡ take most (drop k bs) = ap (λ i. take i (drop k bs)) s ∙ take_min most (drop k bs) in
    t ∙ sym (in_page-all at (take most (drop k bs)) (omega (arith, e, h, f, length-take most (drop k bs), length-drop k bs)))

pub front-no_page : (bs : List ℕ) (at k l n most : ℕ) → l ≡ length bs - k → n ≡ min l most → 4096 - at % 4096 < n → [] ≡ in_page at (take most (drop k bs))
front-no_page bs at k l n most e h f =
    sym (in_page-none at (take most (drop k bs)) (omega (arith, e, h, f, length-take most (drop k bs), length-drop k bs)))

-- a piece is written, then the bytes behind it
pub write-pieces : (r : Region) (at m p : ℕ) (from front back w : List ℕ) → r.start ≤ at → at + length from ≤ r.start + length r.bytes → m ≡ piece_size at (length from) → w ≡ front → front ≡ take m from → back ≡ drop m from → p ≡ at + length front - r.start → put_over (put_piece at w r).bytes p back ≡ put_over r.bytes (at - r.start) from
write-pieces r at m p from front back w s h e f g d o =
    let n : length front ≡ m = omega (arith, ap (λ x. length x) g, length-take m from, e) in
    let l : length w ≡ m = ap (λ x. length x) f ∙ n in
    let i : p ≡ at - r.start + length w = omega (arith, o, n, l, s) in
    let v : take (page_rest at r) w ≡ w = take_all (page_rest at r) w (omega (arith, l, e, h, s)) in
    let t : w ++ back ≡ from = ap₂ (λ x y. x ++ y) (f ∙ g) d ∙ take-append-drop m from in
    ap (λ x. put_over (put_over r.bytes (at - r.start) x) p back) v
    ∙ (ap (λ x. put_over (put_over r.bytes (at - r.start) w) x back) i
    ∙ (put_over-twice r.bytes w back (at - r.start) (omega (arith, l, e, h, s)) ∙ ap (λ x. put_over r.bytes (at - r.start) x) t))

-- ---- bytes that are put over zeros

pub covers-true : (r : Region) (at n : ℕ) → r.start ≤ at → at + n ≤ r.start + length r.bytes → covers r at n ≡ true
covers-true r at n l h = grind (arith, nat_tests)

pub zeros-front : (size i : ℕ) (bs : List ℕ) → length bs ≤ size → i ≡ 0 → put_over (zeros size) i bs ≡ bs ++ zeros (size - length bs)
unfolding zeros
zeros-front size i bs h e =
    ap (λ k. put_over (zeros size) k bs) e ∙ (put_over-zero (zeros size) bs ∙ ap (λ s. bs ++ s) (drop-replicate (length bs) size 0))

pub zeros-back : (size i : ℕ) (bs : List ℕ) → length bs ≤ size → i ≡ size - length bs → put_over (zeros size) i bs ≡ zeros (size - length bs) ++ bs
unfolding zeros
zeros-back size i bs h e =
    let n : size - (i + length bs) ≡ 0 = omega (arith, e, h) in
    ap₂ (λ x y. x ++ (bs ++ y)) (take-replicate i size 0 (omega (arith, e)) ∙ ap (λ k. replicate k 0) e) (drop-replicate (i + length bs) size 0 ∙ ap (λ k. replicate k 0) n)
    ∙ ap (λ s. zeros (size - length bs) ++ s) (append-nil bs)
