-- The private segment as words, and the memory behind it.
use Rattle.std.specs.Int.{byte_at, bytes_low_first}
use Rattle.std.proofs.Common.{◌≡◌, ℕ, zero, suc, ◌+◌, ◌-◌, ◌*◌, ◌/◌, ◌%◌, ◌^◌, ◌<◌, ◌≤◌, true, false, List, [], ◌∷◌, ◌++◌, length, take, drop, Some, nat_eq, nat_le, if◌then◌else◌, refl, sym, ap, ◌∙◌, arith, ⊎_elim, ◌≢◌, get_or, length-append, length-take, length-drop}
use Rattle.std.proofs.lemmas.Bool.{cases_eq, cases_lt, le-leb, lt-leb, and_right, and_from, eq-eqb, ne_eqb}
use Rattle.std.proofs.lemmas.List.{places, drop_more}
use Rattle.br_word.specs.Memory.{Region, covers, bytes_at, put_over, written, number_of, bytes_of, load, store}
use Rattle.br_word.specs.declared.types.Width.{Width}
use Rattle.br_word.specs.declared.types.Width.TheVariants.{B8, B16, B32}
use Rattle.br_word.specs.Words.{size_of}
use Rattle.par_moves.specs.Locations.{slot_at}
use Rattle.code_laws.specs.Seen.{private_region, word, IsCode, OwnSeen}
use Rattle.code_laws.proofs.Words.{low_part}

outside_code : (code : Region) (at n : ℕ) → 0 < n → IsCode code → 0x07000000 ≤ at → covers code at n ≡ false
outside_code code at n z h l = let b = h.below in and_right (nat_le code.start at) _ (lt-leb (at + n) (code.start + length code.bytes) (omega arith))

inside_own : (own : List ℕ) (k n : ℕ) → n ≤ 4 → k < 16384 → length own ≡ 65536 → covers (private_region own) (slot_at k) n ≡ true
inside_own own k n l h s = and_from _ _ (le-leb 0x07000000 (slot_at k) (omega arith)) (le-leb (slot_at k + n) (0x07000000 + length own) (omega arith))

in_slot : (k : ℕ) → slot_at k - 0x07000000 ≡ 4 * k
in_slot k = omega arith

pub load_slot : (code : Region) (own : List ℕ) (outer : List Region) (k : ℕ) → IsCode code → length own ≡ 65536 → k < 16384 → load (slot_at k) 4 (code ∷ private_region own ∷ outer) ≡ Some (word own k)
unfolding bytes_at
load_slot code own outer k c s h = rw (outside_code code (slot_at k) 4 (omega arith) c (omega arith), inside_own own k 4 (omega arith) h s, in_slot k)

pub length_bytes : (n v : ℕ) → length (bytes_of n v) ≡ n
unfolding bytes_of
length_bytes n v = length_low 0 n v
  where
    length_low : (i n v : ℕ) → length (bytes_low_first i n v) ≡ n
    length_low i zero v = refl
    length_low i (suc n) v = ap suc (length_low (suc i) n v)

byte_small : (j v : ℕ) → byte_at j v < 256
byte_small zero v = omega arith
byte_small (suc j) v = low (v / 256 ^ suc j)
  where
    low : (x : ℕ) → x % 256 < 256
    low x = omega arith

small_bytes : (n v i : ℕ) → get_or (bytes_of n v) i 0 < 256
unfolding bytes_of
small_bytes n v i = small_low 0 n v i
  where
    small_low : (j n v i : ℕ) → get_or (bytes_low_first j n v) i 0 < 256
    small_low j zero v i = omega arith
    small_low j (suc n) v zero = byte_small j v
    small_low j (suc n) v (suc i) = small_low (suc j) n v i

pub store_slot : (code : Region) (own : List ℕ) (outer : List Region) (k n v : ℕ) → 0 < n → n ≤ 4 → IsCode code → length own ≡ 65536 → k < 16384 → store (slot_at k) n v (code ∷ private_region own ∷ outer) ≡ Some (code ∷ private_region (put_over own (4 * k) (bytes_of n v)) ∷ outer)
unfolding written
store_slot code own outer k n v z l c s h =
    rw (length_bytes n v, outside_code code (slot_at k) n z c (omega arith), inside_own own k n l h s, in_slot k)

-- a word after writes
length_put : (l : List ℕ) (o : ℕ) (bs : List ℕ) → o + length bs ≤ length l → length (put_over l o bs) ≡ length l
length_put l o bs h = omega (arith, length-append (take o l) (bs ++ drop (o + length bs) l), length-append bs (drop (o + length bs) l), length-take {A = ℕ} o l, length-drop {A = ℕ} (o + length bs) l)

get_before : (l : List ℕ) (o : ℕ) (bs : List ℕ) (i d : ℕ) → o + length bs ≤ length l → i < o → get_or (put_over l o bs) i d ≡ get_or l i d
get_before l o bs i d h b = grind (arith, places)

get_after : (l : List ℕ) (o : ℕ) (bs : List ℕ) (i d : ℕ) → o + length bs ≤ length l → o + length bs ≤ i → get_or (put_over l o bs) i d ≡ get_or l i d
get_after l o bs i d h b = grind (arith, places)

get_in : (l : List ℕ) (o : ℕ) (bs : List ℕ) (i d : ℕ) → o + length bs ≤ length l → i < length bs → get_or (put_over l o bs) (o + i) d ≡ get_or bs i d
get_in l o bs i d h b = grind (arith, places)

get_at : (l : List ℕ) (o : ℕ) (bs : List ℕ) (i j d : ℕ) → o + length bs ≤ length l → i ≡ o + j → j < length bs → get_or (put_over l o bs) i d ≡ get_or bs j d
get_at l o bs i j d h e b = rw e (get_in l o bs j d h b)

-- a word by its bytes
pub word_at : (l : List ℕ) (o : ℕ) → o + 4 ≤ length l → number_of (take 4 (drop o l)) ≡ get_or l o 0 + 256 * (get_or l (o + 1) 0 + 256 * (get_or l (o + 1 + 1) 0 + 256 * (get_or l (o + 1 + 1 + 1) 0 + 256 * 0)))
unfolding number_of
word_at l o h = rw (drop_more l o 0 (omega arith), drop_more l (o + 1) 0 (omega arith), drop_more l (o + 1 + 1) 0 (omega arith), drop_more l (o + 1 + 1 + 1) 0 (omega arith))

bytes_4 : (v : ℕ) → bytes_of 4 v ≡ v % 256 ∷ v / 256 % 256 ∷ v / 65536 % 256 ∷ v / 16777216 % 256 ∷ []
unfolding bytes_of
bytes_4 v = grind arith

bytes_1 : (v : ℕ) → bytes_of 1 v ≡ v % 256 ∷ []
unfolding bytes_of
bytes_1 v = grind arith

bytes_2 : (v : ℕ) → bytes_of 2 v ≡ v % 256 ∷ v / 256 % 256 ∷ []
unfolding bytes_of
bytes_2 v = grind arith

-- a store writes the low part of a number
low_bytes : (w : Width) (v : ℕ) → bytes_of (size_of w) (low_part w v) ≡ bytes_of (size_of w) v
low_bytes B8 v = let e : v % 256 % 256 ≡ v % 256 = omega arith in bytes_1 (v % 256) ∙ ap (λ x. x ∷ []) e ∙ sym (bytes_1 v)
low_bytes B16 v =
    let e : v % 2 ^ 16 % 256 ≡ v % 256 = omega arith in
    let f : v % 2 ^ 16 / 256 % 256 ≡ v / 256 % 256 = omega arith in
    bytes_2 (v % 2 ^ 16) ∙ ap (λ x. x ∷ v % 2 ^ 16 / 256 % 256 ∷ []) e ∙ ap (λ x. v % 256 ∷ x ∷ []) f ∙ sym (bytes_2 v)
low_bytes B32 v = refl

pub store_low : (w : Width) (at v : ℕ) (rs : List Region) → store at (size_of w) (low_part w v) rs ≡ store at (size_of w) v rs
store_low w at v rs = ap (λ bs. written at bs rs) (low_bytes w v)

word_same : (l : List ℕ) (k v : ℕ) → 4 * k + 4 ≤ length l → v < 2 ^ 32 → word (put_over l (4 * k) (bytes_of 4 v)) k ≡ v
word_same l k v h lv =
    rw (bytes_4 v) (
    let bs = v % 256 ∷ v / 256 % 256 ∷ v / 65536 % 256 ∷ v / 16777216 % 256 ∷ [] in
    let n : length (put_over l (4 * k) bs) ≡ length l = length_put l (4 * k) bs h in
    let e = word_at (put_over l (4 * k) bs) (4 * k) (omega arith) in
    let g0 = get_at l (4 * k) bs (4 * k) 0 0 h (omega arith) (omega arith) in
    let g1 = get_at l (4 * k) bs (4 * k + 1) 1 0 h (omega arith) (omega arith) in
    let g2 = get_at l (4 * k) bs (4 * k + 1 + 1) 2 0 h (omega arith) (omega arith) in
    let g3 = get_at l (4 * k) bs (4 * k + 1 + 1 + 1) 3 0 h (omega arith) (omega arith) in
    e ∙ rw (g0, g1, g2, g3) (omega arith))

word_other : (l : List ℕ) (j k n v : ℕ) → n ≤ 4 → 4 * k + 4 ≤ length l → 4 * j + 4 ≤ length l → j ≢ k → word (put_over l (4 * k) (bytes_of n v)) j ≡ word l j
word_other l j k n v n4 hk hj ne =
    let len = length_bytes n v in
    let n' : length (put_over l (4 * k) (bytes_of n v)) ≡ length l = length_put l (4 * k) (bytes_of n v) (omega arith) in
    let g = λ (i : ℕ) (up : 4 * j ≤ i) (down : i < 4 * j + 4). other_byte i up down in
    rw (word_at (put_over l (4 * k) (bytes_of n v)) (4 * j) (omega arith), word_at l (4 * j) hj, g (4 * j) (omega arith) (omega arith), g (4 * j + 1) (omega arith) (omega arith), g (4 * j + 1 + 1) (omega arith) (omega arith), g (4 * j + 1 + 1 + 1) (omega arith) (omega arith))
  where
    other_byte : (i : ℕ) → 4 * j ≤ i → i < 4 * j + 4 → get_or (put_over l (4 * k) (bytes_of n v)) i 0 ≡ get_or l i 0
    other_byte i up down =
        let len = length_bytes n v in
        ⊎_elim (λ (e : j < k). get_before l (4 * k) (bytes_of n v) i 0 (omega arith) (omega arith)) (λ (e : k ≤ j). get_after l (4 * k) (bytes_of n v) i 0 (omega arith) (omega arith)) (cases_lt j k)

-- the low byte of a word is written
word_byte : (l : List ℕ) (k b : ℕ) → 4 * k + 4 ≤ length l → get_or l (4 * k) 0 < 256 → b < 256 → word (put_over l (4 * k) (bytes_of 1 b)) k ≡ word l k / 256 * 256 + b
word_byte l k b h lo hb =
    rw (bytes_1 b) (
    let bs = b % 256 ∷ [] in
    let n : length (put_over l (4 * k) bs) ≡ length l = length_put l (4 * k) bs (omega arith) in
    let e = word_at (put_over l (4 * k) bs) (4 * k) (omega arith) in
    let f = word_at l (4 * k) h in
    let g0 = get_at l (4 * k) bs (4 * k) 0 0 (omega arith) (omega arith) (omega arith) in
    let g1 = get_after l (4 * k) bs (4 * k + 1) 0 (omega arith) (omega arith) in
    let g2 = get_after l (4 * k) bs (4 * k + 1 + 1) 0 (omega arith) (omega arith) in
    let g3 = get_after l (4 * k) bs (4 * k + 1 + 1 + 1) 0 (omega arith) (omega arith) in
    let m : b % 256 ≡ b = omega arith in
    omega arith)

-- words with one of them written
abbrev pub put_word : ℕ → ℕ → (ℕ → ℕ) → ℕ → ℕ
put_word k v g j = if nat_eq j k then v else g j

put_word_at : (own : List ℕ) (k v : ℕ) (g : ℕ → ℕ) (own' : List ℕ) → ((j : ℕ) → j < 16384 → word own j ≡ g j) → word own' k ≡ v → ((j : ℕ) → j < 16384 → j ≢ k → word own' j ≡ word own j) → (j : ℕ) → j < 16384 → word own' j ≡ put_word k v g j
put_word_at own k v g own' slot same other j h = ⊎_elim
    (λ (e : j ≡ k). rw (e, eq-eqb k k refl) same)
    (λ (n : j ≢ k). rw (ne_eqb j k n) (other j h n ∙ slot j h))
    (cases_eq j k)

small_put : (l : List ℕ) (o n v : ℕ) → o + n ≤ length l → ((i : ℕ) → get_or l i 0 < 256) → (i : ℕ) → get_or (put_over l o (bytes_of n v)) i 0 < 256
small_put l o n v h small i =
    let len = length_bytes n v in
    ⊎_elim
    (λ (b : i < o). rw (get_before l o (bytes_of n v) i 0 (omega arith) b) (small i))
    (λ (b : o ≤ i). ⊎_elim
    (λ (c : i < o + n). rw (get_at l o (bytes_of n v) i (i - o) 0 (omega arith) (omega arith) (omega arith)) (small_bytes n v (i - o)))
    (λ (c : o + n ≤ i). rw (get_after l o (bytes_of n v) i 0 (omega arith) (omega arith)) (small i))
    (cases_lt i (o + n)))
    (cases_lt i o)

-- a write of a slot, and of a slot's low byte
pub own_word : (own : List ℕ) (g : ℕ → ℕ) (k v : ℕ) → OwnSeen own g → k < 16384 → v < 2 ^ 32 → OwnSeen (put_over own (4 * k) (bytes_of 4 v)) (put_word k v g)
own_word own g k v h l lv = let e = h.size in let len = length_bytes 4 v in record {
  size = length_put own (4 * k) (bytes_of 4 v) (omega arith) ∙ h.size;
  bytes = small_put own (4 * k) 4 v (omega arith) h.bytes;
  words = put_word_at own k v g _ h.words (word_same own k v (omega arith) lv) (λ j lj n. word_other own j k 4 v (omega arith) (omega arith) (omega arith) n);
}

pub own_byte : (own : List ℕ) (g : ℕ → ℕ) (k b : ℕ) → OwnSeen own g → k < 16384 → b < 256 → OwnSeen (put_over own (4 * k) (bytes_of 1 b)) (put_word k (g k / 256 * 256 + b) g)
own_byte own g k b h l lb = let e = h.size in let len = length_bytes 1 b in record {
  size = length_put own (4 * k) (bytes_of 1 b) (omega arith) ∙ h.size;
  bytes = small_put own (4 * k) 1 b (omega arith) h.bytes;
  words = put_word_at own k (g k / 256 * 256 + b) g _ h.words (word_byte own k b (omega arith) (h.bytes (4 * k)) lb ∙ ap (λ x. x / 256 * 256 + b) (h.words k l)) (λ j lj n. word_other own j k 1 b (omega arith) (omega arith) (omega arith) n);
}
