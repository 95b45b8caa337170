-- What the words give a command: arguments that fit, a number of steps of at most 18 digits, and at most 4096 traces.
use Rattle.std.proofs.Common.{◌≡◌, ◌<◌, ◌≤◌, ◌+◌, ◌-◌, ◌*◌, ◌^◌, ◌&&◌, ◌||◌, if◌then◌else◌, nat_le, nat_lt, not, min, ℕ, suc, Bool, true, false, cond, List, [], ◌∷◌, ◌++◌, length, map, codes, Option, Some, None, Result, Ok, Err, refl, sym, ◌∙◌, ap, subst, arith, lit<, lit≤, length-append}
use Rattle.std.proofs.lemmas.Bool.{leb-true, leb-false, ltb-false}
use Rattle.std.proofs.Math.Nat.{mul-le-mul_right, pow-succ', pow-le-pow_right, mul_assoc}
use Rattle.std.specs.Str.{bytes_eq}
use Rattle.std.specs.Int.Digits.{number_from_digits_after}
use Rattle.run_model.specs.Opening.{FitArguments, texts, arguments}
use Rattle.word_reader.specs.Numbers.{are_digits, is_digit, number_of_digits, number_in}
use Rattle.word_reader.specs.Words.{Asked, Builds, Traces, Runs, Merges, Shows, Sessions, Demos, Assembles, is_name, next_name, no_more, unless_wrong, or_wrong, first_no_argument, first_no_trace, traces_at, arguments_at, own_bytes, steps_behind, next_steps, build_words, trace_words, run_words, merge_words, show_words, session_words, demo_words, demo_count, asm_words, command, is_steps, first_name}
use Rattle.binrec.specs.Words.{Fits, IsFitting}

-- ---- tests

both : (a b : Bool) → (a && b) ≡ true → (a ≡ true) × (b ≡ true)
both true b h = (refl, h)
both false b h = absurd (let z : false ≡ true = h in cc)

neither : (a b : Bool) → (a || b) ≡ false → (a ≡ false) × (b ≡ false)
neither true b h = absurd (let z : true ≡ false = h in cc)
neither false b h = (refl, h)

passed : (b : Bool) (k : ℕ) (o : Option ℕ) → cond b (Some k) o ≡ None → (b ≡ false) × (o ≡ None)
passed true k o h = absurd (let z : (let x : Option ℕ = Some k in x) ≡ None = h in cc)
passed false k o h = (refl, h)

given : (b : Bool) (m n : ℕ) → (if b then Some m else None) ≡ Some n → (b ≡ true) × (m ≡ n)
given true m n h = (refl, let z : (let x : Option ℕ = Some m in x) ≡ Some n = h in cc)
given false m n h = absurd (let z : (let x : Option ℕ = None in x) ≡ Some n = h in cc)

-- ---- numbers

digits_small : (n : ℕ) (word : List ℕ) → are_digits word ≡ true → number_from_digits_after 10 n (map (λ b. b - 48) word) < (n + 1) * 10 ^ length word
digits_small n [] h = omega arith
digits_small n (b ∷ bs) h =
    let digits = both (is_digit b) (are_digits bs) h in
    let most : b ≤ 57 = leb-true b 57 (both (nat_le 48 b) (nat_le b 57) digits.0).1 in
    let step : n * 10 + (b - 48) + 1 ≤ (n + 1) * 10 = omega (arith, most) in
    let rest : number_from_digits_after 10 (n * 10 + (b - 48)) (map (λ b. b - 48) bs) < (n * 10 + (b - 48) + 1) * 10 ^ length bs = digits_small (n * 10 + (b - 48)) bs digits.1 in
    let power : (n + 1) * 10 ^ suc (length bs) ≡ (n + 1) * 10 * 10 ^ length bs = ap (λ x. (n + 1) * x) (pow-succ' 10 (length bs)) ∙ sym (mul_assoc (n + 1) 10 (10 ^ length bs)) in
    omega (arith, rest, mul-le-mul_right (10 ^ length bs) step, power)

small : (word : List ℕ) (n : ℕ) → number_in 18 word ≡ Some n → n ≤ 10 ^ 18
small word n is =
    let h = given _ (number_of_digits word) n is in
    let tests = both (nat_le 1 (length word) && nat_le (length word) 18) (are_digits word) h.0 in
    let few : length word ≤ 18 = leb-true (length word) 18 (both (nat_le 1 (length word)) (nat_le (length word) 18) tests.0).1 in
    let below : number_of_digits word < (0 + 1) * 10 ^ length word = digits_small 0 word tests.1 in
    let power : 10 ^ length word ≤ 10 ^ 18 = pow-le-pow_right {n = 10} (lit< tt) few in
    omega (arith, below, power, h.1)

-- ---- arguments

few_args : (k bytes : ℕ) (words : List (List ℕ)) → first_no_argument k bytes words ≡ None → k ≤ 256 → bytes ≤ 65536 → (k + length words ≤ 256) × (bytes + length (texts words) ≤ 65536)
few_args k bytes [] none few short = (omega (arith, few), omega (arith, short))
few_args k bytes (word ∷ words) none few short =
    let h = passed (nat_le 256 k || nat_lt 65536 (bytes + (length word + 1))) k (first_no_argument (k + 1) (bytes + (length word + 1)) words) none in
    let tests = neither (nat_le 256 k) (nat_lt 65536 (bytes + (length word + 1))) h.0 in
    let less : k < 256 = leb-false 256 k tests.0 in
    let short' : bytes + (length word + 1) ≤ 65536 = ltb-false 65536 (bytes + (length word + 1)) tests.1 in
    let rest = few_args (k + 1) (bytes + (length word + 1)) words h.1 (omega (arith, less)) short' in
    let lengths : length (texts (word ∷ words)) ≡ length word + 1 + length (texts words) = length-append (word ++ 0 ∷ []) (texts words) ∙ ap (λ n. n + length (texts words)) (length-append word (0 ∷ [])) in
    (omega (arith, rest.0), omega (arith, rest.1, lengths))

fit_words : (words : List (List ℕ)) → first_no_argument 0 own_bytes words ≡ None → FitArguments words
fit_words words none =
    let h = few_args 0 own_bytes words none (lit≤ tt) (lit≤ tt) in
    let lengths : length (texts (arguments words)) ≡ 6 + length (texts words) = length-append (codes "guest" ++ 0 ∷ []) (texts words) in
    record { count = omega (arith, h.0); bytes = omega (arith, h.1, lengths) }

-- ---- traces

few_traces : (k : ℕ) (words : List (List ℕ)) → first_no_trace k words ≡ None → k ≤ 4096 → k + length words ≤ 4096
few_traces k [] none few = omega (arith, few)
few_traces k (word ∷ words) none few =
    let h = passed (nat_le 4096 k || not (is_name word)) k (first_no_trace (k + 1) words) none in
    let less : k < 4096 = leb-false 4096 k (neither (nat_le 4096 k) (not (is_name word)) h.0).0 in
    let rest = few_traces (k + 1) words h.1 (omega (arith, less)) in
    omega (arith, rest)

-- ---- commands

-- what a command is given fits
Fit : Result Asked ℕ → Type 0
Fit (Ok asked) = IsFitting asked
Fit (Err at) = Unit {0}

abbrev Next : Type 0
Next = List ℕ → List (List ℕ) → Result Asked ℕ

fit_cond : (b : Bool) (x y : Result Asked ℕ) → Fit x → Fit y → Fit (cond b x y)
fit_cond true x y p q = p
fit_cond false x y p q = q

fit_name : (at : ℕ) (words : List (List ℕ)) (next : Next) → ((word : List ℕ) (words : List (List ℕ)) → Fit (next word words)) → Fit (next_name at words next)
unfolding Fit
fit_name at [] next h = tt
fit_name at (word ∷ words) next h = fit_cond (is_name word) (next word words) (Err at) (h word words) tt

fit_no_more : (at : ℕ) (words : List (List ℕ)) (asked : Asked) → Fit (Ok asked) → Fit (no_more at words asked)
unfolding Fit
fit_no_more at [] asked h = h
fit_no_more at (word ∷ words) asked h = tt

fit_number : (at : ℕ) (o : Option ℕ) (next : ℕ → Result Asked ℕ) → ((n : ℕ) → o ≡ Some n → Fit (next n)) → Fit (or_wrong at o next)
unfolding Fit
fit_number at None next h = tt
fit_number at (Some n) next h = h n refl

fit_args : (at steps : ℕ) (words : List (List ℕ)) (asked : Asked) (o : Option ℕ) → (Fits steps words → Fit (Ok asked)) → first_no_argument 0 own_bytes words ≡ o → steps ≤ 10 ^ 18 → Fit (unless_wrong at o asked)
unfolding Fit
fit_args at steps words asked None fits is few = fits (record { fit = fit_words words is; few = few })
fit_args at steps words asked (Some k) fits is few = tt

fit_traces : (at : ℕ) (words : List (List ℕ)) (asked : Asked) (o : Option ℕ) → (length words ≤ 4096 → Fit (Ok asked)) → first_no_trace 0 words ≡ o → Fit (unless_wrong at o asked)
unfolding Fit
fit_traces at words asked None fits is = fits (let few = few_traces 0 words is (lit≤ tt) in omega (arith, few))
fit_traces at words asked (Some k) fits is = tt

abbrev NextSteps : Type 0
NextSteps = ℕ → ℕ → List (List ℕ) → Result Asked ℕ

fit_behind : (words : List (List ℕ)) (next : NextSteps) → ((steps at : ℕ) (words : List (List ℕ)) → steps ≤ 10 ^ 18 → Fit (next steps at words)) → Fit (steps_behind words next)
unfolding Fit
fit_behind [] next h = tt
fit_behind (word ∷ words) next h = fit_number 2 (number_in 18 word) (λ steps. next steps 3 words) (λ n is. h n 3 words (small word n is))

fit_steps : (words : List (List ℕ)) (next : NextSteps) → ((steps at : ℕ) (words : List (List ℕ)) → steps ≤ 10 ^ 18 → Fit (next steps at words)) → Fit (next_steps words next)
fit_steps [] next h = h 100000000 1 [] (lit≤ tt)
fit_steps (word ∷ words) next h = fit_cond (bytes_eq word (codes "--steps")) (steps_behind words next) (next 100000000 1 (word ∷ words)) (fit_behind words next h) (h 100000000 1 (word ∷ words) (lit≤ tt))

fit_build : (words : List (List ℕ)) → Fit (build_words words)
unfolding Fit
fit_build words = fit_name 1 words (λ n words. next_name 2 words (λ e words. traces_at 3 words (Builds n e words))) (λ n words. fit_name 2 words (λ e words. traces_at 3 words (Builds n e words)) (λ e words. fit_traces 3 words (Builds n e words) (first_no_trace 0 words) (λ few. few) refl))

fit_merge : (words : List (List ℕ)) → Fit (merge_words words)
unfolding Fit
fit_merge words = fit_name 1 words (λ n words. next_name 2 words (λ e words. traces_at 3 words (Merges n e words))) (λ n words. fit_name 2 words (λ e words. traces_at 3 words (Merges n e words)) (λ e words. fit_traces 3 words (Merges n e words) (first_no_trace 0 words) (λ few. few) refl))

fit_trace : (words : List (List ℕ)) → Fit (trace_words words)
unfolding Fit
fit_trace words = fit_steps words (λ steps at words. next_name at words (λ t words. next_name (at + 1) words (λ e words. arguments_at (at + 2) words (Traces steps t e words))))
    (λ steps at words few. fit_name at words (λ t words. next_name (at + 1) words (λ e words. arguments_at (at + 2) words (Traces steps t e words)))
    (λ t words. fit_name (at + 1) words (λ e words. arguments_at (at + 2) words (Traces steps t e words)) (λ e words. fit_args (at + 2) steps words (Traces steps t e words) (first_no_argument 0 own_bytes words) (λ fits. fits) refl few)))

fit_run : (words : List (List ℕ)) → Fit (run_words words)
unfolding Fit
fit_run words = fit_steps words (λ steps at words. next_name at words (λ e words. arguments_at (at + 1) words (Runs steps e words)))
    (λ steps at words few. fit_name at words (λ e words. arguments_at (at + 1) words (Runs steps e words)) (λ e words. fit_args (at + 1) steps words (Runs steps e words) (first_no_argument 0 own_bytes words) (λ fits. fits) refl few))

fit_show : (words : List (List ℕ)) → Fit (show_words words)
unfolding Fit
fit_show words = fit_name 1 words (λ e words. traces_at 2 words (Shows e words)) (λ e words. fit_traces 2 words (Shows e words) (first_no_trace 0 words) (λ few. few) refl)

fit_session : (words : List (List ℕ)) → Fit (session_words words)
unfolding Fit
fit_session words = fit_name 1 words (λ e words. no_more 2 words (Sessions e)) (λ e words. fit_no_more 2 words (Sessions e) tt)

fit_demo : (words : List (List ℕ)) → Fit (demo_words words)
unfolding Fit
fit_demo [] = tt
fit_demo (word ∷ words) = fit_number 1 (number_in 18 word) (λ count. demo_count count words) (λ count is. go count (nat_le 1 count && nat_le count 1000) refl)
  where
    go : (count : ℕ) (b : Bool) → (nat_le 1 count && nat_le count 1000) ≡ b → Fit (cond b (no_more 2 words (Demos count)) (Err 1))
    go count true is = let tests = both (nat_le 1 count) (nat_le count 1000) is in fit_no_more 2 words (Demos count) (leb-true 1 count tests.0, leb-true count 1000 tests.1)
    go count false is = tt

fit_asm : (words : List (List ℕ)) → Fit (asm_words words)
unfolding Fit
fit_asm words = fit_name 1 words (λ n words. next_name 2 words (λ text words. no_more 3 words (Assembles n text))) (λ n words. fit_name 2 words (λ text words. no_more 3 words (Assembles n text)) (λ text words. fit_no_more 3 words (Assembles n text) tt))

fit_command : (words : List (List ℕ)) → Fit (command words)
unfolding Fit command
fit_command [] = tt
fit_command (word ∷ words) =
    fit_cond (bytes_eq word (codes "build")) (build_words words) _ (fit_build words) (
    fit_cond (bytes_eq word (codes "trace")) (trace_words words) _ (fit_trace words) (
    fit_cond (bytes_eq word (codes "run")) (run_words words) _ (fit_run words) (
    fit_cond (bytes_eq word (codes "merge")) (merge_words words) _ (fit_merge words) (
    fit_cond (bytes_eq word (codes "show")) (show_words words) _ (fit_show words) (
    fit_cond (bytes_eq word (codes "session")) (session_words words) _ (fit_session words) (
    fit_cond (bytes_eq word (codes "demo")) (demo_words words) _ (fit_demo words) (
    fit_cond (bytes_eq word (codes "asm")) (asm_words words) (Err 0) (fit_asm words) tt)))))))

-- what a command that was read is given fits
pub fit_read : (words : List (List ℕ)) (asked : Asked) → command words ≡ Ok asked → IsFitting asked
unfolding Fit
fit_read words asked is = let h : Fit (Ok asked) = subst Fit is (fit_command words) in h

-- ---- positions

by_steps : (b : Bool) → cond b 3 1 ≤ 3
by_steps true = lit≤ tt
by_steps false = lit≤ tt

-- the first name stands at a small position
pub first_few : (words : List (List ℕ)) → first_name words ≤ 3
first_few [] = lit≤ tt
first_few (word ∷ []) = lit≤ tt
first_few (word ∷ second ∷ words) = by_steps (is_steps second)
