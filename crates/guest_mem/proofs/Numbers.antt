-- Numbers in bytes, and lists of bytes that are cut or filled up.
use Rattle.std.proofs.Common.{◌≡◌, ℕ, zero, suc, ◌+◌, ◌-◌, ◌*◌, ◌<◌, ◌≤◌, List, [], ◌∷◌, ◌++◌, length, take, drop, get_or, refl, sym, ◌∙◌, ap, arith, length-append, length-take, length-drop}
use Rattle.std.specs.Prelude.{replicate, min}
use Rattle.std.specs.Int.{bytes_low_first}
use Rattle.std.proofs.lemmas.List.{drop_more, take_all, length-replicate, take-replicate, take_min}
use Rattle.br_word.specs.declared.types.Width.{Width}
use Rattle.br_word.specs.declared.types.Width.TheVariants.{B8, B16, B32}
use Rattle.br_word.specs.Words.{size_of}
use Rattle.br_word.specs.Memory.{put_over, number_of, bytes_of, zeros}

-- the byte that is read at an index is the first of those from there on
drop_read : (bs : List ℕ) (k j x : ℕ) → k < length bs → k + 1 ≡ j → x ≡ get_or bs k x → drop k bs ≡ x ∷ drop j bs
drop_read bs k j x l e h = drop_more bs k x l ∙ (ap (λ y. y ∷ drop (k + 1) bs) (sym h) ∙ ap (λ i. x ∷ drop i bs) e)

pub number_of-1 : (bs : List ℕ) (k x : ℕ) → k + 1 ≤ length bs → x ≡ get_or bs k x → number_of (take 1 (drop k bs)) ≡ x
unfolding number_of
number_of-1 bs k x l h =
    ap (λ s. number_of (take 1 s)) (drop_read bs k (k + 1) x (omega arith) refl h) ∙ omega arith

pub number_of-2 : (bs : List ℕ) (k x y : ℕ) → k + 2 ≤ length bs → x ≡ get_or bs k x → y ≡ get_or bs (k + 1) y → number_of (take 2 (drop k bs)) ≡ x + 256 * y
unfolding number_of
number_of-2 bs k x y l h i =
    ap (λ s. number_of (take 2 s)) (drop_read bs k (k + 1) x (omega arith) refl h ∙ ap (λ s. x ∷ s) (drop_read bs (k + 1) (k + 2) y (omega arith) (omega arith) i)) ∙ omega arith

pub number_of-4 : (bs : List ℕ) (k x y z w : ℕ) → k + 4 ≤ length bs → x ≡ get_or bs k x → y ≡ get_or bs (k + 1) y → z ≡ get_or bs (k + 2) z → w ≡ get_or bs (k + 3) w → number_of (take 4 (drop k bs)) ≡ x + 256 * y + 65536 * z + 16777216 * w
unfolding number_of
number_of-4 bs k x y z w l h i m n =
    ap (λ s. number_of (take 4 s))
    (drop_read bs k (k + 1) x (omega arith) refl h
    ∙ ap (λ s. x ∷ s) (drop_read bs (k + 1) (k + 2) y (omega arith) (omega arith) i
    ∙ ap (λ s. y ∷ s) (drop_read bs (k + 2) (k + 3) z (omega arith) (omega arith) m
    ∙ ap (λ s. z ∷ s) (drop_read bs (k + 3) (k + 4) w (omega arith) (omega arith) n))))
    ∙ omega arith

-- the low bytes of a word
pub take-bytes_of : (w : Width) (v : ℕ) → take (size_of w) (bytes_low_first 0 4 v) ≡ bytes_of (size_of w) v
unfolding bytes_of
take-bytes_of B8 v = refl
take-bytes_of B16 v = refl
take-bytes_of B32 v = refl

pub length-zeros : (n : ℕ) → length (zeros n) ≡ n
unfolding zeros
length-zeros n = length-replicate n 0

-- a list that is cut at a size, or filled up to it
take-fill : (size n : ℕ) (bs : List ℕ) → size ≤ length bs + n → take size bs ++ replicate (size - length bs) 0 ≡ take size (bs ++ replicate n 0)
take-fill zero n bs h = ap (λ k. replicate k 0) (let e : 0 - length bs ≡ 0 = omega arith in e)
take-fill (suc size) n [] h =
    ap (λ k. replicate k 0) (let e : suc size - 0 ≡ suc size = omega arith in e) ∙ sym (take-replicate (suc size) n 0 (omega arith))
take-fill (suc size) n (b ∷ bs) h =
    ap (λ k. b ∷ (take size bs ++ replicate k 0)) (let e : suc size - suc (length bs) ≡ size - length bs = omega arith in e)
    ∙ ap (λ s. b ∷ s) (take-fill size n bs (omega arith))

pub take-zeros : (size : ℕ) (bs : List ℕ) → take size bs ++ replicate (size - length bs) 0 ≡ take size (bs ++ zeros size)
unfolding zeros
take-zeros size bs = take-fill size size bs (omega arith)

-- a segment is filled up with zeros
pub take-filled : (size : ℕ) (bs : List ℕ) → length bs ≤ size → take size (bs ++ zeros size) ≡ bs ++ zeros (size - length bs)
unfolding zeros
take-filled size bs h = sym (take-zeros size bs) ∙ ap (λ s. s ++ replicate (size - length bs) 0) (take_all size bs h)

pub take-own_zeros : (n : ℕ) → take n (zeros n) ≡ zeros n
take-own_zeros n = take_all n (zeros n) (omega (arith, length-zeros n))

-- what is fetched, of l bytes that are left
pub length-fetched : (bs : List ℕ) (k l n : ℕ) → l ≡ length bs - k → n ≡ min l 15 → n ≡ length (take {A = ℕ} 15 (drop k bs))
length-fetched bs k l n e h = omega (arith, length-take 15 (drop k bs), length-drop k bs)

pub take-fetched : (bs into : List ℕ) (k l n : ℕ) → l ≡ length bs - k → n ≡ min l 15 → length into ≡ 15 → take (length (take n into)) (drop k bs) ≡ take {A = ℕ} 15 (drop k bs)
take-fetched bs into k l n e h t =
    let count : length (take n into) ≡ min 15 (length (drop k bs)) = omega (arith, length-take n into, length-drop k bs) in
    ap (λ j. take j (drop k bs)) count ∙ take_min 15 (drop k bs)

pub length-cut : (size : ℕ) (bs : List ℕ) → length (take size (bs ++ zeros size)) ≡ size
length-cut size bs = omega (arith, length-take size (bs ++ zeros size), length-append bs (zeros size), length-zeros size)

-- bytes that are put over others leave their number
pub length-put_over : (old new : List ℕ) (k : ℕ) → k + length new ≤ length old → length (put_over old k new) ≡ length old
length-put_over old new k h =
    omega (arith, length-append (take k old) (new ++ drop (k + length new) old), length-append new (drop (k + length new) old), length-take k old, length-drop (k + length new) old)
