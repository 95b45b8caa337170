-- How long a flat file is, and that it is of bytes.
use Rattle.std.proofs.Common.{◌≡◌, ℕ, zero, suc, ◌+◌, ◌/◌, ◌^◌, ◌<◌, Bool, true, ◌&&◌, List, [], ◌∷◌, ◌++◌, length, refl, sym, subst, arith}
use Rattle.std.specs.Prelude.{nat_lt}
use Rattle.std.specs.Int.{byte_at, bytes_low_first}
use Rattle.std.proofs.lemmas.Nat.{mod_below}
use Rattle.std.proofs.lemmas.Bool.{and_parts, ltb-true}
use Rattle.std.proofs.lemmas.List.Elements.{All-nil, All-cons, All-append}
use Rattle.br_word.specs.Memory.{bytes_of, AreBytes}
use Rattle.elf_write.specs.File.{word, file_header}
use Rattle.elf_flat.specs.Flat.{flat_start, flat_entry, flat_length, headed, flat_file}

pub headed_length : (size : ℕ) (rest : List ℕ) → length (headed size rest) ≡ 84 + length rest
unfolding bytes_of
headed_length size rest = omega arith

pub file_length : (code : List ℕ) → length (flat_file code) ≡ flat_length code
unfolding flat_file
file_length code = headed_length (flat_length code) code

-- ---- bytes

abbrev IsByte : ℕ → Type 0
IsByte b = b < 256

byte_small : (i v : ℕ) → byte_at i v < 256
byte_small zero v = mod_below v 256 (omega arith)
byte_small (suc i) v = mod_below (v / 256 ^ suc i) 256 (omega arith)

low_first : (i n v : ℕ) → AreBytes (bytes_low_first i n v)
low_first i zero v = All-nil IsByte
low_first i (suc n) v = All-cons IsByte _ _ (byte_small i v) (low_first (suc i) n v)

word_bytes : (v : ℕ) → AreBytes (word v)
unfolding bytes_of
word_bytes v = low_first 0 4 v

both : (xs ys : List ℕ) → AreBytes xs → AreBytes ys → AreBytes (xs ++ ys)
both xs ys h k = All-append IsByte xs ys h k

all_small : List ℕ → Bool
all_small [] = true
all_small (b ∷ bs) = nat_lt b 256 && all_small bs

small : (bs : List ℕ) → all_small bs ≡ true → AreBytes bs
unfolding all_small
small [] h = All-nil IsByte
small (b ∷ bs) h = let p = and_parts _ _ h in All-cons IsByte b bs (ltb-true b 256 p.0) (small bs p.1)

abbrev front : List ℕ
front = file_header 1 flat_entry (word 1 ++ (word 0 ++ (word flat_start ++ word flat_start)))

headed_parts : (size : ℕ) (rest : List ℕ) → headed size rest ≡ front ++ (word size ++ (word size ++ (word 5 ++ (word 4096 ++ rest))))
unfolding bytes_of
headed_parts size rest = refl

front_bytes : AreBytes front
unfolding all_small bytes_of
front_bytes = small front refl

headed_bytes : (size : ℕ) (rest : List ℕ) → AreBytes rest → AreBytes (headed size rest)
headed_bytes size rest h =
    let w = word size in
    let at = both (word 4096) rest (word_bytes 4096) h in
    let behind = both (word 5) (word 4096 ++ rest) (word_bytes 5) at in
    let second = both w (word 5 ++ (word 4096 ++ rest)) (word_bytes size) behind in
    let first = both w (w ++ (word 5 ++ (word 4096 ++ rest))) (word_bytes size) second in
    subst AreBytes (sym (headed_parts size rest)) (both front (w ++ (w ++ (word 5 ++ (word 4096 ++ rest)))) front_bytes first)

pub file_bytes : (code : List ℕ) → AreBytes code → AreBytes (flat_file code)
unfolding flat_file
file_bytes code h = headed_bytes (flat_length code) code h
