-- How long the first line of bytes is that stand behind one another.
use Rattle.std.proofs.Common.{◌≡◌, ◌<◌, ◌≤◌, ◌+◌, nat_le, not, cond, ℕ, suc, Bool, true, false, List, [], ◌∷◌, ◌++◌, length, take, drop, get_or, min, refl, sym, ◌∙◌, ap, subst, arith}
use Rattle.std.specs.Prelude.{slice_range}
use Rattle.std.proofs.lemmas.Bool.{eq-eqb, ne_eqb, le-leb, lt-leb, cond-true, cond-false}
use Rattle.std.proofs.lemmas.List.Sums.{position_or_len_is}
use Rattle.std.proofs.lemmas.List.{drop-drop, get_or_default}
use Rattle.std.proofs.lemmas.Slice.{between_is}
use Rattle.script_text.specs.Split.{is_end}
use Rattle.line_reader.specs.Lines.{line_length, Next, Text, TooLong, next_in}

pub most : (xs : List ℕ) → line_length xs ≤ length xs
most [] = omega arith
most (x ∷ xs) = by_test (is_end x) (most xs)
  where
    by_test : (b : Bool) → line_length xs ≤ length xs → cond (not b) (1 + line_length xs) 0 ≤ suc (length xs)
    by_test true r = omega arith
    by_test false r = omega (arith, r)

-- no LF stands in the first part
pub behind : (xs ys : List ℕ) → line_length xs ≡ length xs → line_length (xs ++ ys) ≡ length xs + line_length ys
behind [] ys all = omega arith
behind (x ∷ xs) ys all = by_test (is_end x) all (behind xs ys)
  where
    by_test : (b : Bool) → cond (not b) (1 + line_length xs) 0 ≡ suc (length xs) → (line_length xs ≡ length xs → line_length (xs ++ ys) ≡ length xs + line_length ys)
        → cond (not b) (1 + line_length (xs ++ ys)) 0 ≡ suc (length xs) + line_length ys
    by_test true h r = absurd (let z : 0 ≡ suc (length xs) = h in omega (arith, z))
    by_test false h r = let z : 1 + line_length xs ≡ suc (length xs) = h in let e = r (omega (arith, z)) in omega (arith, e)

-- an LF stands in it
pub within : (xs ys : List ℕ) → line_length xs < length xs → line_length (xs ++ ys) ≡ line_length xs
within [] ys less = absurd (omega (arith, less))
within (x ∷ xs) ys less = by_test (is_end x) less (within xs ys)
  where
    by_test : (b : Bool) → cond (not b) (1 + line_length xs) 0 < suc (length xs) → (line_length xs < length xs → line_length (xs ++ ys) ≡ line_length xs)
        → cond (not b) (1 + line_length (xs ++ ys)) 0 ≡ cond (not b) (1 + line_length xs) 0
    by_test true h r = refl
    by_test false h r = let z : 1 + line_length xs < suc (length xs) = h in ap (λ n. 1 + n) (r (omega (arith, z)))

-- no less than in it
pub no_less : (xs ys : List ℕ) → line_length xs ≤ line_length (xs ++ ys)
no_less [] ys = omega arith
no_less (x ∷ xs) ys = by_test (is_end x) (no_less xs ys)
  where
    by_test : (b : Bool) → line_length xs ≤ line_length (xs ++ ys) → cond (not b) (1 + line_length xs) 0 ≤ cond (not b) (1 + line_length (xs ++ ys)) 0
    by_test true r = omega arith
    by_test false r = omega (arith, r)

-- what stands next, by how long it is
pub text_next : (limit n : ℕ) (left : List ℕ) → line_length left ≡ n → n ≤ limit → 0 < length left → Text (take n left) ≡ next_in limit left
text_next limit n [] is few some = absurd (omega (arith, some))
text_next limit n (b ∷ bs) is few some =
    ap (λ k. Text (take k (b ∷ bs))) (sym is)
    ∙ sym (cond-true (nat_le (line_length (b ∷ bs)) limit) (Text (take (line_length (b ∷ bs)) (b ∷ bs))) TooLong (le-leb (line_length (b ∷ bs)) limit (omega (arith, is, few))))

pub long_next : (limit : ℕ) (left : List ℕ) → limit < line_length left → TooLong ≡ next_in limit left
long_next limit [] long = absurd (let z : limit < 0 = long in omega (arith, z))
long_next limit (b ∷ bs) long =
    sym (cond-false (nat_le (line_length (b ∷ bs)) limit) (Text (take (line_length (b ∷ bs)) (b ∷ bs))) TooLong (lt-leb (line_length (b ∷ bs)) limit long))

-- what is left of a part of a list whose first elements are passed
pub passed : (xs : List ℕ) (i k j : ℕ) → slice_range xs (i + k) j ≡ drop k (slice_range xs i j)
passed xs i k j = between_is xs (i + k) j ∙ (sym (drop-drop k i (take j xs)) ∙ ap (drop k) (sym (between_is xs i j)))

-- the first LF, or none
pub found : (xs : List ℕ) (at d : ℕ) → at < length xs → get_or xs at d ≡ 10 → ((k : ℕ) → k < at → get_or xs k 0 ≡ 10 → ⊥) → at ≡ line_length xs
found xs at d there is none =
    sym (position_or_len_is is_end xs at 0 (omega (arith, there)) (λ k l. ne_eqb (get_or xs k 0) 10 (none k l)) (λ l. eq-eqb (get_or xs at 0) 10 (get_or_default xs at 0 d l ∙ is)))

pub none_found : (xs : List ℕ) (at : ℕ) → length xs ≤ at → ((k : ℕ) → k < at → get_or xs k 0 ≡ 10 → ⊥) → length xs ≡ line_length xs
none_found xs at past none =
    sym (position_or_len_is is_end xs (length xs) 0 (omega arith) (λ k l. ne_eqb (get_or xs k 0) 10 (none k (omega (arith, l, past)))) (λ l. absurd (omega (arith, l))))
