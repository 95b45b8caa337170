-- The demonstration: a program that calls functions, each of which changes eax, writes eax and ends (SDM volume 2, MOV, CALL, PUSH, INT,
-- ADD, Jcc, NOT, RET).
use Rattle.std.specs.Prelude.{ℕ, zero, suc, ◌+◌, ◌*◌, ◌%◌, ◌^◌, List, [], ◌∷◌, ◌++◌}
use Rattle.elf_write.specs.File.{word}
use Rattle.elf_flat.specs.Flat.{headed}

-- how long the file is, by the number of its functions
abbrev pub demo_length : ℕ → ℕ
demo_length count = 121 + 16 * count

-- the number that function i adds comes from the one before it, and the first from the number of functions
abbrev pub next_number : ℕ → ℕ
next_number x = (1103515245 * x + 12345) % 2 ^ 32

-- a call of function i: behind the n calls stand 32 bytes, and then the functions, of 11 bytes each
abbrev pub call_code : ℕ → ℕ → List ℕ
call_code n i = 0xE8 ∷ word (27 + 5 * n + 6 * i)

-- calls of the functions from i on
abbrev pub calls_code : ℕ → ℕ → ℕ → List ℕ
calls_code n i zero = []
calls_code n i (suc k) = call_code n i ++ calls_code n (suc i) k

-- PUSH of eax; write of the four bytes at esp; exit with 0
abbrev pub write_code : List ℕ
write_code =
    0x50 ∷ 0xB8 ∷ 4 ∷ 0 ∷ 0 ∷ 0 ∷ 0xBB ∷ 1 ∷ 0 ∷ 0 ∷ 0 ∷ 0x89 ∷ 0xE1 ∷ 0xBA ∷ 4 ∷ 0 ∷ 0 ∷ 0 ∷ 0xCD ∷ 0x80 ∷ []

abbrev pub exit_code : List ℕ
exit_code = 0xB8 ∷ 1 ∷ 0 ∷ 0 ∷ 0 ∷ 0xBB ∷ 0 ∷ 0 ∷ 0 ∷ 0 ∷ 0xCD ∷ 0x80 ∷ []

-- a function: ADD of its number, JS over NOT, NOT, RET
abbrev pub function_code : ℕ → List ℕ
function_code x = 0x81 ∷ 0xC0 ∷ (word x ++ (0x78 ∷ 0x02 ∷ 0xF7 ∷ 0xD0 ∷ 0xC3 ∷ []))

-- so many functions, by the number before that of the first
abbrev pub functions_code : ℕ → ℕ → List ℕ
functions_code x zero = []
functions_code x (suc k) = function_code (next_number x) ++ functions_code (next_number x) k

abbrev pub demo_code : ℕ → List ℕ
demo_code count =
    0xB8 ∷ (word count ++ (calls_code count 0 count ++ (write_code ++ (exit_code ++ functions_code count count))))

-- the file with so many functions: its headers, and the code behind them
unfoldable pub demo_file : ℕ → List ℕ
demo_file count = headed (demo_length count) (demo_code count)
