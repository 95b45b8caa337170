-- The length of the texts of a guest's arguments.
use Rattle.std.proofs.Common.{◌≡◌, ℕ, ◌+◌, ◌-◌, ◌^◌, ◌≤◌, min, List, [], ◌∷◌, ◌++◌, length, take, map, refl, sym, ◌∙◌, ap, arith, length-append, IsTrue, nat_le}
use Rattle.std.specs.Prelude.{sum_by, codes}
use Rattle.std.proofs.lemmas.List.{take_all, length-map}
use Rattle.std.proofs.lemmas.List.Concat.{flat_map-cons}
use Rattle.std.proofs.lemmas.List.Sums.{sum_by-cons}
use Rattle.std.proofs.lemmas.Bool.Decides.{nat_tests}
use Rattle.run_model.specs.Opening.{texts, arguments, FitArguments}

-- a text and its zero byte
abbrev pub room_of : List ℕ → ℕ
room_of arg = length arg + 1

length-texts : (args : List (List ℕ)) → length (texts args) ≡ sum_by room_of args
length-texts [] = refl
length-texts (arg ∷ args) =
    ap length (flat_map-cons (λ (a : List ℕ). a ++ 0 ∷ []) arg args)
    ∙ (length-append (arg ++ 0 ∷ []) (texts args)
    ∙ (ap (λ n. n + length (texts args)) (length-append arg (0 ∷ []))
    ∙ (ap (λ n. length arg + 1 + n) (length-texts args) ∙ sym (sum_by-cons room_of arg args))))

length-arguments : (words : List (List ℕ)) → length (texts (arguments words)) ≡ 6 + sum_by room_of words
length-arguments words =
    let five : length (codes "guest") ≡ 5 = refl in
    length-texts (arguments words) ∙ (sum_by-cons room_of (codes "guest") words ∙ ap (λ n. n + 1 + sum_by room_of words) five)

sum-map : {A : Type 0} (f : A → List ℕ) (xs : List A) → sum_by room_of (map f xs) ≡ sum_by (λ a. length (f a) + 1) xs
sum-map f [] = refl
sum-map f (x ∷ xs) = sum_by-cons room_of (f x) (map f xs) ∙ (ap (λ n. length (f x) + 1 + n) (sum-map f xs) ∙ sym (sum_by-cons (λ a. length (f a) + 1) x xs))

fits_when : (total sum : ℕ) → total ≡ min (6 + sum) (2 ^ 64 - 1) → (IsTrue (nat_le total 65536) → 6 + sum ≤ 65536) × (6 + sum ≤ 65536 → IsTrue (nat_le total 65536))
fits_when total sum e = (λ h. grind (arith, nat_tests), λ h. grind (arith, nat_tests))

pub fits : {A : Type 0} (f : A → List ℕ) (xs : List A) (k total : ℕ) → length xs ≤ 256 → length xs ≤ k → total ≡ min (6 + sum_by (λ a. length (f a) + 1) (take k xs)) (2 ^ 64 - 1)
    → (IsTrue (nat_le total 65536) → FitArguments (map f xs)) × (FitArguments (map f xs) → IsTrue (nat_le total 65536))
fits f xs k total few all e =
    let whole : total ≡ min (6 + sum_by room_of (map f xs)) (2 ^ 64 - 1) = e ∙ ap (λ n. min (6 + n) (2 ^ 64 - 1)) (ap (λ ys. sum_by (λ a. length (f a) + 1) ys) (take_all k xs all) ∙ sym (sum-map f xs)) in
    let w = fits_when total (sum_by room_of (map f xs)) whole in
    let len = length-arguments (map f xs) in
    (λ h. record { count = omega (arith, length-map xs f); bytes = omega (arith, len, w.0 h) }, λ h. w.1 (omega (arith, len, h.bytes)))
