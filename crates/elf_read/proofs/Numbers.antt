-- Numbers in bytes.
use Rattle.std.proofs.Common.{◌≡◌, ℕ, zero, suc, ◌+◌, ◌*◌, ◌^◌, ◌<◌, ◌≤◌, List, [], ◌∷◌, length, take, refl, sym, ap, ◌∙◌, arith, append-nil}
use Rattle.std.specs.Int.{bytes_low_first}
use Rattle.std.proofs.lemmas.List.{length-replicate, take_all}
use Rattle.br_word.specs.Memory.{number_of, bytes_of, zeros}
use Rattle.byteorder.specs.Endian.{little_number}
use Rattle.byteorder.specs.Numbers.{little_from-cons, little_number-reads_back, length-bytes_low_first}

-- the number that byteorder reads
pub number_of-take : (n : ℕ) (xs : List ℕ) → n ≤ length xs → number_of (take n xs) ≡ little_number n xs
unfolding number_of
number_of-take zero xs h = refl
number_of-take (suc n) [] h = absurd (omega arith)
number_of-take (suc n) (x ∷ xs) h = ap (λ v. x + 256 * v) (number_of-take n xs (omega arith) ∙ sym (little_from-cons 0 n x xs))

pub length_bytes_of : (n v : ℕ) → length (bytes_of n v) ≡ n
unfolding bytes_of
length_bytes_of n v = length-bytes_low_first 0 n v

-- a number read back
pub number_again : (n v : ℕ) → v < 256 ^ n → number_of (bytes_of n v) ≡ v
unfolding bytes_of
number_again n v h =
    let bytes = bytes_low_first 0 n v in
    let l = length-bytes_low_first 0 n v in
    ap number_of (sym (take_all n bytes (omega arith))) ∙ number_of-take n bytes (omega arith) ∙ ap (little_number n) (sym (append-nil bytes)) ∙ little_number-reads_back n v [] h

pub length_zeros : (n : ℕ) → length (zeros n) ≡ n
unfolding zeros
length_zeros n = length-replicate n 0
