-- Lists of bytes that are put over parts of longer ones.
use Rattle.std.proofs.Common.{◌≡◌, ℕ, zero, suc, ◌+◌, ◌-◌, ◌≤◌, ◌<◌, get_or, List, [], ◌∷◌, ◌++◌, length, take, drop, refl, sym, ◌∙◌, ap, arith}
use Rattle.br_word.specs.Memory.{put_over}

pub put_over-zero : (xs w : List ℕ) → put_over xs 0 w ≡ w ++ drop (length w) xs
put_over-zero xs w = let e : 0 + length w ≡ length w = omega arith in ap (λ k. w ++ drop k xs) e

put_over-suc : (x : ℕ) (xs w : List ℕ) (i : ℕ) → put_over (x ∷ xs) (suc i) w ≡ x ∷ put_over xs i w
put_over-suc x xs w i = let e : suc i + length w ≡ suc (i + length w) = omega arith in ap (λ k. x ∷ (take i xs ++ (w ++ drop k (x ∷ xs)))) e

take-whole : (l z : List ℕ) → take (length l) (l ++ z) ≡ l
take-whole [] z = refl
take-whole (x ∷ l) z = ap (λ s. x ∷ s) (take-whole l z)

refill-here : (xs w : List ℕ) → take (length xs) ((w ++ drop (length w) xs) ++ drop (length (w ++ drop (length w) xs)) xs) ≡ take (length xs) w ++ drop (length (take (length xs) w)) xs
refill-here [] w = refl
refill-here (x ∷ xs) [] = ap (λ s. x ∷ s) (take-whole xs (drop (length xs) xs))
refill-here (x ∷ xs) (y ∷ w) = ap (λ s. y ∷ s) (refill-here xs w)

-- what a Vec holds after a slice of it was written
pub refill : (i : ℕ) (xs w : List ℕ) → i ≤ length xs → take (length xs) ((take i xs ++ (w ++ drop (length w) (drop i xs))) ++ drop (length (take i xs ++ (w ++ drop (length w) (drop i xs)))) xs) ≡ put_over xs i (take (length xs - i) w)
refill zero xs w h =
    let e : length xs - 0 ≡ length xs = omega arith in
    refill-here xs w ∙ (sym (put_over-zero xs (take (length xs) w)) ∙ ap (λ k. put_over xs 0 (take k w)) (sym e))
refill (suc i) [] w h = absurd (omega arith)
refill (suc i) (x ∷ xs) w h =
    let e : length xs - i ≡ suc (length xs) - suc i = omega arith in
    ap (λ s. x ∷ s) (refill i xs w (omega arith)) ∙ (sym (put_over-suc x xs (take (length xs - i) w) i) ∙ ap (λ k. put_over (x ∷ xs) (suc i) (take k w)) e)

-- bytes that are put into the front or the back of a list
front-zero : (xs ys w : List ℕ) → length w ≤ length xs → w ++ drop (length w) (xs ++ ys) ≡ (w ++ drop (length w) xs) ++ ys
front-zero xs ys [] h = refl
front-zero [] ys (y ∷ w) h = absurd (omega arith)
front-zero (x ∷ xs) ys (y ∷ w) h = ap (λ s. y ∷ s) (front-zero xs ys w (omega arith))

pub put_over-front : (xs ys w : List ℕ) (i : ℕ) → i + length w ≤ length xs → put_over (xs ++ ys) i w ≡ put_over xs i w ++ ys
put_over-front xs ys w zero h =
    put_over-zero (xs ++ ys) w ∙ (front-zero xs ys w (omega arith) ∙ ap (λ s. s ++ ys) (sym (put_over-zero xs w)))
put_over-front [] ys w (suc i) h = absurd (omega arith)
put_over-front (x ∷ xs) ys w (suc i) h =
    put_over-suc x (xs ++ ys) w i ∙ (ap (λ s. x ∷ s) (put_over-front xs ys w i (omega arith)) ∙ ap (λ s. s ++ ys) (sym (put_over-suc x xs w i)))

pub put_over-back : (xs ys w : List ℕ) (i : ℕ) → put_over (xs ++ ys) (length xs + i) w ≡ xs ++ put_over ys i w
put_over-back [] ys w i = let e : 0 + i ≡ i = omega arith in ap (λ k. put_over ys k w) e
put_over-back (x ∷ xs) ys w i =
    let e : suc (length xs) + i ≡ suc (length xs + i) = omega arith in
    ap (λ k. put_over (x ∷ (xs ++ ys)) k w) e ∙ (put_over-suc x (xs ++ ys) w (length xs + i) ∙ ap (λ s. x ∷ s) (put_over-back xs ys w i))

-- the back of a list
pub drop-front : (xs ys : List ℕ) (i : ℕ) → i ≤ length xs → drop i (xs ++ ys) ≡ drop i xs ++ ys
drop-front xs ys zero h = refl
drop-front [] ys (suc i) h = absurd (omega arith)
drop-front (x ∷ xs) ys (suc i) h = drop-front xs ys i (omega arith)

pub drop-back : (xs ys : List ℕ) (i : ℕ) → drop (length xs + i) (xs ++ ys) ≡ drop i ys
drop-back [] ys i = let e : 0 + i ≡ i = omega arith in ap (λ k. drop k ys) e
drop-back (x ∷ xs) ys i =
    let e : suc (length xs) + i ≡ suc (length xs + i) = omega arith in
    ap (λ k. drop k (x ∷ (xs ++ ys))) e ∙ drop-back xs ys i

pub take-front : (xs ys : List ℕ) (i : ℕ) → i ≤ length xs → take i (xs ++ ys) ≡ take i xs
take-front xs ys zero h = refl
take-front [] ys (suc i) h = absurd (omega arith)
take-front (x ∷ xs) ys (suc i) h = ap (λ s. x ∷ s) (take-front xs ys i (omega arith))

pub take-back : (xs ys : List ℕ) (i : ℕ) → take (length xs + i) (xs ++ ys) ≡ xs ++ take i ys
take-back [] ys i = let e : 0 + i ≡ i = omega arith in ap (λ k. take k ys) e
take-back (x ∷ xs) ys i =
    let e : suc (length xs) + i ≡ suc (length xs + i) = omega arith in
    ap (λ k. take k (x ∷ (xs ++ ys))) e ∙ ap (λ s. x ∷ s) (take-back xs ys i)

-- two writes, one behind the other
twice-zero : (xs v w : List ℕ) → length v ≤ length xs → put_over (v ++ drop (length v) xs) (length v) w ≡ (v ++ w) ++ drop (length (v ++ w)) xs
twice-zero xs [] w h = put_over-zero xs w
twice-zero [] (y ∷ v) w h = absurd (omega arith)
twice-zero (x ∷ xs) (y ∷ v) w h =
    put_over-suc y (v ++ drop (length v) xs) w (length v) ∙ ap (λ s. y ∷ s) (twice-zero xs v w (omega arith))

pub put_over-twice : (xs v w : List ℕ) (i : ℕ) → i + length v ≤ length xs → put_over (put_over xs i v) (i + length v) w ≡ put_over xs i (v ++ w)
put_over-twice xs v w zero h =
    let e : 0 + length v ≡ length v = omega arith in
    ap (λ s. put_over s (0 + length v) w) (put_over-zero xs v)
    ∙ (ap (λ k. put_over (v ++ drop (length v) xs) k w) e ∙ (twice-zero xs v w (omega arith) ∙ sym (put_over-zero xs (v ++ w))))
put_over-twice [] v w (suc i) h = absurd (omega arith)
put_over-twice (x ∷ xs) v w (suc i) h =
    let e : suc i + length v ≡ suc (i + length v) = omega arith in
    ap (λ s. put_over s (suc i + length v) w) (put_over-suc x xs v i)
    ∙ (ap (λ k. put_over (x ∷ put_over xs i v) k w) e
    ∙ (put_over-suc x (put_over xs i v) w (i + length v)
    ∙ (ap (λ s. x ∷ s) (put_over-twice xs v w i (omega arith)) ∙ sym (put_over-suc x xs (v ++ w) i))))

pub get-any : (xs : List ℕ) (k d e : ℕ) → k < length xs → get_or xs k d ≡ get_or xs k e
get-any [] k d e h = absurd (omega arith)
get-any (x ∷ xs) zero d e h = refl
get-any (x ∷ xs) (suc k) d e h = get-any xs k d e (omega arith)
