-- From a place behind the next line.
use Rattle.std.proofs.Common.{◌≡◌, ◌+◌, ◌-◌, ◌<◌, ◌≤◌, ℕ, suc, not, cond, Bool, true, false, List, [], ◌∷◌, length, take, drop, Option, refl, ◌∙◌, ap, sym, arith, length-drop}
use Rattle.script_text.specs.Split.{is_end, lines_of}
use Rattle.asm_line.specs.Forms.{Form, form_of}
use Rattle.asm_text.specs.Source.{Row, size_in, rows_of}
use Rattle.asm_text.specs.Reads.{line_length, size_of_rows}
use Rattle.asm_text.proofs.Lines.{first_line}
use Rattle.std.specs.Prelude.{Some, None, nat_lt}
use Rattle.std.specs.List.{position}
use Rattle.std.proofs.lemmas.Bool.{ltb-false}

-- the rows behind a line of so many bytes
abbrev pub rows_behind : ℕ → ℕ → ℕ → List ℕ → Option Form → List Row
rows_behind number at n bytes form = rows_of (number + 1) (at + size_in form) (lines_of (drop (n + 1) bytes))

pub first_row : (number at n : ℕ) (bytes : List ℕ) (form : Option Form) → 0 < length bytes → n ≡ line_length bytes → form ≡ form_of (take n bytes) at → rows_of number at (lines_of bytes) ≡ record { number = number; at = at; form = form } ∷ rows_behind number at n bytes form
first_row number at n [] form some is read = absurd (omega (arith, some))
first_row number at n (b ∷ bs) form some is read =
    ap (rows_of number at) (first_line b bs)
    ∙ ap (λ k. rows_of number at (take k (b ∷ bs) ∷ lines_of (drop (k + 1) (b ∷ bs)))) (sym is)
    ∙ ap (λ (f : Option Form). record { number = number; at = at; form = f } ∷ rows_behind number at n (b ∷ bs) f) (sym read)

-- and where what stands behind it is known by equations
pub next_rows : (number at n size : ℕ) (bytes behind : List ℕ) (form : Option Form) → 0 < length bytes → n ≡ line_length bytes → form ≡ form_of (take n bytes) at → size ≡ size_in form → behind ≡ drop (n + 1) bytes → rows_of number at (lines_of bytes) ≡ record { number = number; at = at; form = form } ∷ rows_of (number + 1) (at + size) (lines_of behind)
next_rows number at n size bytes behind form some is read sized left =
    first_row number at n bytes form some is read
    ∙ ap (λ k. record { number = number; at = at; form = form } ∷ rows_of (number + 1) (at + k) (lines_of (drop (n + 1) bytes))) (sym sized)
    ∙ ap (λ b. record { number = number; at = at; form = form } ∷ rows_of (number + 1) (at + size) (lines_of b)) (sym left)

pub next_end : (number at n size : ℕ) (bytes behind : List ℕ) (form : Option Form) → 0 < length bytes → n ≡ line_length bytes → form ≡ form_of (take n bytes) at → size ≡ size_in form → behind ≡ drop (n + 1) bytes → at + size + size_of_rows (rows_of (number + 1) (at + size) (lines_of behind)) ≡ at + size_of_rows (rows_of number at (lines_of bytes))
next_end number at n size bytes behind form some is read sized left =
    let e : size_of_rows (rows_of number at (lines_of bytes)) ≡ size_in form + size_of_rows (rows_of (number + 1) (at + size) (lines_of behind)) = ap size_of_rows (next_rows number at n size bytes behind form some is read sized left) in
    omega (arith, e, sized)

pub fewer : (n : ℕ) (bytes : List ℕ) → 0 < length bytes → length (drop (n + 1) bytes) < length bytes
fewer n bytes some = let l : length (drop (n + 1) bytes) ≡ length bytes - (n + 1) = length-drop (n + 1) bytes in omega (arith, l, some)

-- ---- how long the first line is

pub line_in : (xs : List ℕ) → line_length xs ≤ length xs
line_in [] = omega arith
line_in (x ∷ xs) = by_test (is_end x) (line_in xs)
  where
    by_test : (b : Bool) → line_length xs ≤ length xs → cond (not b) (1 + line_length xs) 0 ≤ suc (length xs)
    by_test true r = omega arith
    by_test false r = omega (arith, r)

pub some_end : (xs : List ℕ) (n : ℕ) → Some n ≡ position is_end xs → n ≡ line_length xs
some_end xs n h = by_test (nat_lt (line_length xs) (length xs)) (line_length xs) h
  where
    by_test : (t : Bool) (p : ℕ) → Some n ≡ cond t (Some p) None → n ≡ p
    by_test true p h = cc
    by_test false p h = absurd (cc)

pub no_end : (xs : List ℕ) → None ≡ position is_end xs → length xs ≡ line_length xs
no_end xs h = by_test (nat_lt (line_length xs) (length xs)) refl h
  where
    by_test : (t : Bool) → nat_lt (line_length xs) (length xs) ≡ t → None ≡ cond t (Some (line_length xs)) None → length xs ≡ line_length xs
    by_test true e h = absurd (cc)
    by_test false e h =
        let a : length xs ≤ line_length xs = ltb-false (line_length xs) (length xs) e in
        let b : line_length xs ≤ length xs = line_in xs in
        omega (arith, a, b)
