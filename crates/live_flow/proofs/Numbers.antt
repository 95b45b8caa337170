-- Live sets as numbers.
use Rattle.std.proofs.Common.{◌≡◌, ℕ, zero, suc, ◌+◌, ◌^◌, ◌<◌, Bool, List, [], ◌∷◌, length, get_or, sym, ap, ◌∙◌, refl, arith}
use Rattle.pass_dead.specs.Names.{has}
use Rattle.live_flow.specs.declared.row.LiveRow.{LiveRow}
use Rattle.live_flow.specs.Live.{gathered, sets_from, is_live, live_in}
use Rattle.live_flow.proofs.Bits.{same_sets, gathered_below, gathered_has}

set_at : (sets : ℕ → ℕ → Bool) (n : ℕ) (rs : List LiveRow) (k i v : ℕ) → i ≡ n + k → k < length rs → v < 16 → has (get_or (sets_from sets n rs) k 0) v ≡ sets i v
set_at sets n [] k i v e l m = absurd (omega arith)
set_at sets n (r ∷ rs) zero i v e l m = let z : n ≡ i = omega arith in gathered_has (sets n) 16 v m ∙ ap (λ x. sets x v) z
set_at sets n (r ∷ rs) (suc k) i v e l m = set_at sets (suc n) rs k i v (omega arith) (omega arith) m

pub numbers : (rows : List LiveRow) (i v : ℕ) → i < length rows → v < 16 → has (get_or (live_in rows) i 0) v ≡ is_live rows i v
numbers rows i v l m = set_at (is_live rows) 0 rows i i v (omega arith) l m

two : (x y : ℕ) (xs ys : List ℕ) → x ≡ y → xs ≡ ys → ◌≡◌ {A = List ℕ} (x ∷ xs) (y ∷ ys)
two x y xs ys e g = cc

-- numbers of these sets are their list
sets_are : (sets : ℕ → ℕ → Bool) (n : ℕ) (rs : List LiveRow) (xs : List ℕ) → length xs ≡ length rs → ((k : ℕ) → get_or xs k 0 < 2 ^ 16) → ((k i v : ℕ) → i ≡ n + k → k < length rs → v < 16 → has (get_or xs k 0) v ≡ sets i v) → xs ≡ sets_from sets n rs
sets_are sets n [] [] e f h = refl
sets_are sets n [] (x ∷ xs) e f h = absurd (omega arith)
sets_are sets n (r ∷ rs) [] e f h = absurd (omega arith)
sets_are sets n (r ∷ rs) (x ∷ xs) e f h = two x (gathered (sets n) 16) xs (sets_from sets (suc n) rs)
    (same_sets x (gathered (sets n) 16) (f 0) (gathered_below (sets n) 16) (λ v m. h 0 n v (omega arith) (omega arith) m ∙ sym (gathered_has (sets n) 16 v m)))
    (sets_are sets (suc n) rs xs (omega arith) (λ k. f (suc k)) (λ k i v q l m. h (suc k) i v (omega arith) (omega arith) m))

pub live_is : (rows : List LiveRow) (xs : List ℕ) → length xs ≡ length rows → ((k : ℕ) → get_or xs k 0 < 2 ^ 16) → ((i v : ℕ) → i < length rows → v < 16 → has (get_or xs i 0) v ≡ is_live rows i v) → xs ≡ live_in rows
live_is rows xs e f h = sets_are (is_live rows) 0 rows xs e f (λ k i v q l m. let z : k ≡ i = omega arith in h k v l m ∙ ap (λ x. is_live rows x v) z)
