-- The lines of a script, the first of them told apart.
use Rattle.std.proofs.Common.{◌≡◌, ◌+◌, ℕ, suc, Bool, true, false, not, cond, List, [], ◌∷◌, take, drop, refl, ◌∙◌, ap, arith}
use Rattle.script_text.specs.Split.{is_end, lines_of, put_first}
use Rattle.line_reader.specs.Lines.{line_length}

-- the first line and the lines behind it, by how long the first is
abbrev parted : List ℕ → ℕ → List (List ℕ)
parted bytes n = take n bytes ∷ lines_of (drop (n + 1) bytes)

one_more : (b n : ℕ) (bs : List ℕ) → put_first b (parted bs n) ≡ parted (b ∷ bs) (1 + n)
one_more b n bs =
    let e : suc n ≡ 1 + n = omega arith in
    let f : suc (n + 1) ≡ suc n + 1 = omega arith in
    ap (λ k. take (suc n) (b ∷ bs) ∷ lines_of (drop k (b ∷ bs))) f ∙ ap (parted (b ∷ bs)) e

pub first_line : (b : ℕ) (bs : List ℕ) → lines_of (b ∷ bs) ≡ parted (b ∷ bs) (line_length (b ∷ bs))
first_line b [] = by_test (is_end b)
  where
    by_test : (t : Bool) → cond t ([] ∷ []) (put_first b []) ≡ parted (b ∷ []) (cond (not t) (1 + 0) 0)
    by_test true = refl
    by_test false = refl
first_line b (c ∷ cs) = by_test (is_end b) (first_line c cs)
  where
    by_test : (t : Bool) → lines_of (c ∷ cs) ≡ parted (c ∷ cs) (line_length (c ∷ cs)) → cond t ([] ∷ lines_of (c ∷ cs)) (put_first b (lines_of (c ∷ cs))) ≡ parted (b ∷ c ∷ cs) (cond (not t) (1 + line_length (c ∷ cs)) 0)
    by_test true rest = refl
    by_test false rest = ap (put_first b) rest ∙ one_more b (line_length (c ∷ cs)) (c ∷ cs)
