-- How long the parts of the demonstration are, and that they are of bytes.
use Rattle.std.proofs.Common.{◌≡◌, ℕ, zero, suc, ◌+◌, ◌*◌, ◌<◌, Bool, true, ◌&&◌, List, [], ◌∷◌, ◌++◌, length, refl, sym, ap, ◌∙◌, subst, arith, length-append, lit<}
use Rattle.std.specs.Prelude.{nat_lt}
use Rattle.std.proofs.lemmas.Bool.{and_parts, ltb-true}
use Rattle.std.proofs.lemmas.List.Elements.{All-nil, All-cons}
use Rattle.br_word.specs.Memory.{bytes_of, AreBytes}
use Rattle.elf_write.specs.File.{word}
use Rattle.run_model.proofs.KeptRegions.{word_bytes, both}
use Rattle.elf_flat.specs.Flat.{headed}
use Rattle.demo_gen.specs.Demonstration.{demo_length, next_number, call_code, calls_code, write_code, exit_code, function_code, functions_code, demo_code, demo_file}

pub file_headed : (count : ℕ) → demo_file count ≡ headed (demo_length count) (demo_code count)
unfolding demo_file
file_headed count = refl

pub word_length : (v : ℕ) → length (word v) ≡ 4
unfolding bytes_of
word_length v = refl

headed_length : (size : ℕ) (rest : List ℕ) → length (headed size rest) ≡ 84 + length rest
unfolding bytes_of
headed_length size rest = omega arith

pub calls_length : (n i k : ℕ) → length (calls_code n i k) ≡ 5 * k
calls_length n i zero = omega arith
calls_length n i (suc k) = let e = calls_length n (suc i) k in omega (arith, length-append (call_code n i) (calls_code n (suc i) k), word_length (27 + 5 * n + 6 * i))

pub function_length : (x : ℕ) → length (function_code x) ≡ 11
unfolding bytes_of
function_length x = refl

pub functions_length : (x k : ℕ) → length (functions_code x k) ≡ 11 * k
functions_length x zero = omega arith
functions_length x (suc k) =
    let e = functions_length (next_number x) k in
    omega (arith, length-append (function_code (next_number x)) (functions_code (next_number x) k), function_length (next_number x))

pub code_length : (n : ℕ) → length (demo_code n) ≡ 37 + 16 * n
code_length n =
    let f = functions_code n n in
    let a = length-append (word n) (calls_code n 0 n ++ (write_code ++ (exit_code ++ f))) in
    let b = length-append (calls_code n 0 n) (write_code ++ (exit_code ++ f)) in
    omega (arith, a, b, word_length n, calls_length n 0 n, functions_length n n)

pub file_length : (n : ℕ) → length (demo_file n) ≡ demo_length n
file_length n = ap length (file_headed n) ∙ headed_length (demo_length n) (demo_code n) ∙ omega (arith, code_length n)

-- ---- bytes

abbrev Small : ℕ → Type 0
Small b = b < 256

one : (b : ℕ) (bs : List ℕ) → b < 256 → AreBytes bs → AreBytes (b ∷ bs)
one b bs h k = All-cons Small b bs h k

all_small : List ℕ → Bool
all_small [] = true
all_small (b ∷ bs) = nat_lt b 256 && all_small bs

small : (bs : List ℕ) → all_small bs ≡ true → AreBytes bs
unfolding all_small
small [] h = All-nil Small
small (b ∷ bs) h = let p = and_parts _ _ h in one b bs (ltb-true b 256 p.0) (small bs p.1)

calls_bytes : (n i k : ℕ) → AreBytes (calls_code n i k)
calls_bytes n i zero = All-nil Small
calls_bytes n i (suc k) =
    let to = word (27 + 5 * n + 6 * i) in
    let more = calls_code n (suc i) k in
    one 0xE8 (to ++ more) (lit< tt) (both to more (word_bytes 4 (27 + 5 * n + 6 * i)) (calls_bytes n (suc i) k))

function_bytes : (x : ℕ) → AreBytes (function_code x)
unfolding all_small
function_bytes x =
    let end : List ℕ = 0x78 ∷ 0x02 ∷ 0xF7 ∷ 0xD0 ∷ 0xC3 ∷ [] in
    one 0x81 (0xC0 ∷ (word x ++ end)) (lit< tt) (one 0xC0 (word x ++ end) (lit< tt) (both (word x) end (word_bytes 4 x) (small end refl)))

functions_bytes : (x k : ℕ) → AreBytes (functions_code x k)
functions_bytes x zero = All-nil Small
functions_bytes x (suc k) = both (function_code (next_number x)) (functions_code (next_number x) k) (function_bytes (next_number x)) (functions_bytes (next_number x) k)

pub code_bytes : (n : ℕ) → AreBytes (demo_code n)
unfolding all_small
code_bytes n =
    let f = functions_code n n in
    let ends = both exit_code f (small exit_code refl) (functions_bytes n n) in
    let write = both write_code (exit_code ++ f) (small write_code refl) ends in
    let calls = both (calls_code n 0 n) (write_code ++ (exit_code ++ f)) (calls_bytes n 0 n) write in
    let move = both (word n) (calls_code n 0 n ++ (write_code ++ (exit_code ++ f))) (word_bytes 4 n) calls in
    one 0xB8 (word n ++ (calls_code n 0 n ++ (write_code ++ (exit_code ++ f)))) (lit< tt) move
