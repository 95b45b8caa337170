-- The lines of bytes, the first of them told apart, and how long they are together.
use Rattle.std.proofs.Common.{◌≡◌, ◌+◌, ◌*◌, ◌≤◌, ℕ, suc, Bool, true, false, not, cond, List, [], ◌∷◌, length, take, drop, Option, Some, None, refl, ◌∙◌, ap, arith}
use Rattle.script_text.specs.Split.{is_end, put_first, lines_of}
use Rattle.asm_line.specs.Forms.{Form, form_of}
use Rattle.asm_line.specs.Laws.{FormsAreShort}
use Rattle.asm_text.specs.Source.{size_in, rows_of}
use Rattle.asm_text.specs.Reads.{line_length, size_of_rows}

-- the first line and the lines behind it, by how long the first is
abbrev parted : List ℕ → ℕ → List (List ℕ)
parted bytes n = take n bytes ∷ lines_of (drop (n + 1) bytes)

one_more : (b n : ℕ) (bs : List ℕ) → put_first b (parted bs n) ≡ parted (b ∷ bs) (1 + n)
one_more b n bs =
    let e : suc n ≡ 1 + n = omega arith in
    let f : suc (n + 1) ≡ suc n + 1 = omega arith in
    ap (λ k. take (suc n) (b ∷ bs) ∷ lines_of (drop k (b ∷ bs))) f ∙ ap (parted (b ∷ bs)) e

pub first_line : (b : ℕ) (bs : List ℕ) → lines_of (b ∷ bs) ≡ parted (b ∷ bs) (line_length (b ∷ bs))
first_line b [] = by_test (is_end b)
  where
    by_test : (t : Bool) → cond t ([] ∷ []) (put_first b []) ≡ parted (b ∷ []) (cond (not t) (1 + 0) 0)
    by_test true = refl
    by_test false = refl
first_line b (c ∷ cs) = by_test (is_end b) (first_line c cs)
  where
    by_test : (t : Bool) → lines_of (c ∷ cs) ≡ parted (c ∷ cs) (line_length (c ∷ cs)) → cond t ([] ∷ lines_of (c ∷ cs)) (put_first b (lines_of (c ∷ cs))) ≡ parted (b ∷ c ∷ cs) (cond (not t) (1 + line_length (c ∷ cs)) 0)
    by_test true rest = refl
    by_test false rest = ap (put_first b) rest ∙ one_more b (line_length (c ∷ cs)) (c ∷ cs)

-- ---- how long lines are together

abbrev all_length : List (List ℕ) → ℕ
all_length [] = 0
all_length (line ∷ lines) = length line + all_length lines

put_length : (b : ℕ) (lines : List (List ℕ)) → all_length (put_first b lines) ≡ 1 + all_length lines
put_length b [] = refl
put_length b (line ∷ lines) = omega arith

lines_length : (bytes : List ℕ) → all_length (lines_of bytes) ≤ length bytes
lines_length [] = omega arith
lines_length (b ∷ bs) = by_test (is_end b) (lines_length bs) (put_length b (lines_of bs))
  where
    by_test : (t : Bool) → all_length (lines_of bs) ≤ length bs → all_length (put_first b (lines_of bs)) ≡ 1 + all_length (lines_of bs) → all_length (cond t ([] ∷ lines_of bs) (put_first b (lines_of bs))) ≤ suc (length bs)
    by_test true l p = omega (arith, l)
    by_test false l p = omega (arith, l, p)

-- ---- how many bytes they give

size_short : FormsAreShort → (line : List ℕ) (at : ℕ) (f : Option Form) → f ≡ form_of line at → size_in f ≤ 3 * length line
size_short short line at None h = omega arith
size_short short line at (Some f) h = short line at f (cc)

rows_length : FormsAreShort → (number at : ℕ) (lines : List (List ℕ)) → size_of_rows (rows_of number at lines) ≤ 3 * all_length lines
rows_length short number at [] = omega arith
rows_length short number at (line ∷ lines) =
    let a : size_in (form_of line at) ≤ 3 * length line = size_short short line at (form_of line at) refl in
    let b : size_of_rows (rows_of (number + 1) (at + size_in (form_of line at)) lines) ≤ 3 * all_length lines = rows_length short (number + 1) (at + size_in (form_of line at)) lines in
    omega (arith, a, b)

pub rows_short : FormsAreShort → (number at : ℕ) (bytes : List ℕ) → size_of_rows (rows_of number at (lines_of bytes)) ≤ 3 * length bytes
rows_short short number at bytes =
    let a : size_of_rows (rows_of number at (lines_of bytes)) ≤ 3 * all_length (lines_of bytes) = rows_length short number at (lines_of bytes) in
    let b : all_length (lines_of bytes) ≤ length bytes = lines_length bytes in
    omega (arith, a, b)
