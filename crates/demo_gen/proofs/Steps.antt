-- One call and one function more, and the parts of the file together.
use Rattle.std.proofs.Common.{◌≡◌, ℕ, zero, suc, ◌+◌, ◌-◌, ◌*◌, ◌%◌, ◌^◌, ◌<◌, List, [], ◌∷◌, ◌++◌, refl, sym, ap, ◌∙◌, subst, arith, append_assoc, append-nil}
use Rattle.br_word.specs.Memory.{bytes_of}
use Rattle.elf_write.specs.File.{word}
use Rattle.elf_flat.specs.Flat.{headed}
use Rattle.demo_gen.specs.Demonstration.{demo_length, next_number, call_code, calls_code, write_code, exit_code, function_code, functions_code, demo_code, demo_file}

pub calls_step : (n i : ℕ) (out new whole : List ℕ) → i < n → out ++ calls_code n i (n - i) ≡ whole → new ≡ (out ++ (0xE8 ∷ [])) ++ word (27 + 5 * n + 6 * i) → new ++ calls_code n (i + 1) (n - (i + 1)) ≡ whole
calls_step n i out new whole l inv e =
    let z : n - i ≡ suc (n - (i + 1)) = omega (arith, l) in
    let s : i + 1 ≡ suc i = omega arith in
    let rest : List ℕ = calls_code n (suc i) (n - (i + 1)) in
    let flat : ((out ++ (0xE8 ∷ [])) ++ word (27 + 5 * n + 6 * i)) ++ rest ≡ out ++ (call_code n i ++ rest) = simp (append_assoc) in
    ap (λ j. new ++ calls_code n j (n - (i + 1))) s ∙ ap (λ ls. ls ++ rest) e ∙ flat ∙ sym (ap (λ k. out ++ calls_code n i k) z) ∙ inv

next_same : (x : ℕ) → (x * 1103515245 % 4294967296 + 12345) % 4294967296 ≡ next_number x
next_same x = omega arith

pub functions_step : (n x k : ℕ) (out new whole : List ℕ) → k < n → out ++ functions_code x (n - k) ≡ whole → new ≡ out ++ function_code ((x * 1103515245 % 4294967296 + 12345) % 4294967296) → new ++ functions_code ((x * 1103515245 % 4294967296 + 12345) % 4294967296) (n - (k + 1)) ≡ whole
functions_step n x k out new whole l inv e =
    let z : n - k ≡ suc (n - (k + 1)) = omega (arith, l) in
    let y : (x * 1103515245 % 4294967296 + 12345) % 4294967296 ≡ next_number x = next_same x in
    let rest : List ℕ = functions_code (next_number x) (n - (k + 1)) in
    ap (λ y. new ++ functions_code y (n - (k + 1))) y ∙ ap (λ ls. ls ++ rest) (e ∙ ap (λ y. out ++ function_code y) y) ∙ append_assoc out (function_code (next_number x)) rest ∙ sym (ap (λ m. out ++ functions_code x m) z) ∙ inv

-- what stands behind a header
header_then : (size : ℕ) (rest : List ℕ) → headed size [] ++ rest ≡ headed size rest
unfolding bytes_of
header_then size rest = refl

pub all_parts : (count : ℕ) (o1 o2 o3 o4 o5 o6 : List ℕ) → o1 ≡ [] ++ headed (demo_length count) [] → o2 ≡ o1 ++ (0xB8 ∷ []) → o3 ≡ o2 ++ word count → o4 ≡ o3 ++ calls_code count 0 count → o5 ≡ o4 ++ (write_code ++ exit_code) → o6 ≡ o5 ++ functions_code count count → o6 ≡ demo_file count
unfolding demo_file
all_parts count o1 o2 o3 o4 o5 o6 e1 e2 e3 e4 e5 e6 =
    let h : List ℕ = headed (demo_length count) [] in
    let all : o6 ≡ (((((h ++ (0xB8 ∷ [])) ++ word count) ++ calls_code count 0 count) ++ (write_code ++ exit_code)) ++ functions_code count count) = cc in
    let flat : (((((h ++ (0xB8 ∷ [])) ++ word count) ++ calls_code count 0 count) ++ (write_code ++ exit_code)) ++ functions_code count count) ≡ h ++ demo_code count = simp (append_assoc) in
    all ∙ flat ∙ header_then (demo_length count) (demo_code count)
