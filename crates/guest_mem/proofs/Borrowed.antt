-- What a lent piece leaves.
use Rattle.std.proofs.Common.{◌≡◌, ℕ, zero, suc, ◌-◌, ◌<◌, true, false, List, [], ◌∷◌, length, take, get_or, set, sym, ◌∙◌, ap, arith, length-take}
use Rattle.std.specs.Prelude.{if◌then◌else◌}
use Rattle.std.specs.List.{position}
use Rattle.std.proofs.lemmas.List.Quantifiers.{position-Some}
use Rattle.br_word.specs.Memory.{Region, Writes, covers}
use Rattle.guest_mem.specs.Layout.{is_usable}
use Rattle.guest_mem.specs.Pieces.{page_rest, put_piece, put_pieces}
use Rattle.guest_mem.proofs.Places.{covers-bounds}
use Rattle.guest_mem.proofs.Numbers.{length-put_over}
use Rattle.std.specs.Prelude.{Some}

pub length-put_piece : (r : Region) (at len : ℕ) (w : List ℕ) → covers r at len ≡ true → length (put_piece at w r).bytes ≡ length r.bytes
length-put_piece r at len w h =
    let b = covers-bounds r at len h in
    length-put_over r.bytes (take (page_rest at r) w) (at - r.start) (omega (arith, b, length-take (page_rest at r) w))

put_pieces-first : (at len : ℕ) (w : List ℕ) (rs : List Region) (i : ℕ) (d : Region) → i < length rs → is_usable Writes at len (get_or rs i d) ≡ true → ((k : ℕ) → k < i → is_usable Writes at len (get_or rs k d) ≡ false) → put_pieces at len w rs ≡ set rs i (put_piece at w (get_or rs i d))
unfolding put_pieces
put_pieces-first at len w [] i d l h f = absurd (omega arith)
put_pieces-first at len w (r ∷ rs) zero d l h f =
    ap (λ b. if b then put_piece at w r ∷ rs else r ∷ put_pieces at len w rs) h
put_pieces-first at len w (r ∷ rs) (suc i) d l h f =
    ap (λ b. if b then put_piece at w r ∷ rs else r ∷ put_pieces at len w rs) (f 0 (omega arith))
    ∙ ap (λ s. r ∷ s) (put_pieces-first at len w rs i d (omega arith) h (λ k m. f (suc k) (omega arith)))

pub put_pieces-Some : (at len : ℕ) (w : List ℕ) (rs : List Region) (i : ℕ) (r : Region) → position (is_usable Writes at len) rs ≡ Some i → r ≡ get_or rs i r → put_pieces at len w rs ≡ set rs i (put_piece at w r)
put_pieces-Some at len w rs i r e g =
    let found = position-Some (is_usable Writes at len) rs i r e in
    put_pieces-first at len w rs i r found.0 found.1 found.2 ∙ ap (λ (s : Region). set rs i (put_piece at w s)) (sym g)
