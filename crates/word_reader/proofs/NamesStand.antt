-- The names of `run` and `trace` stand where first_name says.
use Rattle.std.proofs.Common.{◌≡◌, ℕ, ◌+◌, ◌&&◌, nat_le, Bool, true, false, cond, List, [], ◌∷◌, get_or, Option, Some, None, refl, ap, subst}
use Rattle.std.specs.Prelude.{codes, Result, Ok, Err}
use Rattle.std.specs.Str.{bytes_eq}
use Rattle.word_reader.specs.declared.limits.TheConstants.{DIGIT_LIMIT, DEFAULT_STEPS, DEMO_LIMIT, FIRST_NAME, FIRST_NAME_BEHIND_STEPS}
use Rattle.word_reader.specs.Numbers.{number_in}
use Rattle.word_reader.specs.Words.{Asked, Builds, Traces, Runs, Merges, Shows, Sessions, Demos, Assembles, is_name, next_name, no_more, unless_wrong, or_wrong, first_no_argument, first_no_trace, traces_at, arguments_at, own_bytes, is_steps, steps_behind, first_name, build_words, trace_words, run_words, merge_words, show_words, session_words, demo_words, demo_count, asm_words, command, Named}

-- what is read is named where it stands
unfoldable Stood : List (List ℕ) → Result Asked ℕ → Type 0
Stood all (Ok asked) = Named all asked
Stood all (Err at) = Unit {0}

abbrev Next : Type 0
Next = List ℕ → List (List ℕ) → Result Asked ℕ

cond_stood : (all : List (List ℕ)) (b : Bool) (x y : Result Asked ℕ) → Stood all x → Stood all y → Stood all (cond b x y)
cond_stood all true x y p q = p
cond_stood all false x y p q = q

name_stood : (all : List (List ℕ)) (at : ℕ) (words : List (List ℕ)) (next : Next) → ((word : List ℕ) (words : List (List ℕ)) → Stood all (next word words)) → Stood all (next_name at words next)
unfolding Stood
name_stood all at [] next h = tt
name_stood all at (word ∷ words) next h = cond_stood all (is_name word) (next word words) (Err at) (h word words) tt

wrong_stood : (all : List (List ℕ)) (at : ℕ) (o : Option ℕ) (asked : Asked) → Named all asked → Stood all (unless_wrong at o asked)
unfolding Stood
wrong_stood all at None asked h = h
wrong_stood all at (Some k) asked h = tt

more_stood : (all : List (List ℕ)) (at : ℕ) (words : List (List ℕ)) (asked : Asked) → Named all asked → Stood all (no_more at words asked)
unfolding Stood
more_stood all at [] asked h = h
more_stood all at (word ∷ words) asked h = tt

number_stood : (all : List (List ℕ)) (at : ℕ) (o : Option ℕ) (next : ℕ → Result Asked ℕ) → ((n : ℕ) → Stood all (next n)) → Stood all (or_wrong at o next)
unfolding Stood
number_stood all at None next h = tt
number_stood all at (Some n) next h = h n

-- ---- run

abbrev run_next : ℕ → ℕ → List (List ℕ) → Result Asked ℕ
run_next steps at words = next_name at words (λ e words. arguments_at (at + 1) words (Runs steps e words))

run_from : (all : List (List ℕ)) (at steps : ℕ) (words : List (List ℕ)) → get_or all (first_name all) [] ≡ get_or words 0 [] → Stood all (run_next steps at words)
unfolding Stood
run_from all at steps [] h = tt
run_from all at steps (e ∷ args) h = cond_stood all (is_name e) (arguments_at (at + 1) args (Runs steps e args)) (Err at) (wrong_stood all (at + 1) (first_no_argument 0 own_bytes args) (Runs steps e args) h) tt

run_behind : (own word : List ℕ) (words : List (List ℕ)) → is_steps word ≡ true → Stood (own ∷ word ∷ words) (steps_behind words run_next)
unfolding Stood
run_behind own word [] p = tt
run_behind own word (n ∷ words) p =
    let all = own ∷ word ∷ n ∷ words in
    number_stood all 2 (number_in DIGIT_LIMIT n) (λ steps. run_next steps FIRST_NAME_BEHIND_STEPS words)
    (λ steps. run_from all FIRST_NAME_BEHIND_STEPS steps words (ap (λ b. get_or all (cond b FIRST_NAME_BEHIND_STEPS FIRST_NAME) []) p))

run_either : (own word : List ℕ) (words : List (List ℕ)) (b : Bool) → is_steps word ≡ b → Stood (own ∷ word ∷ words) (cond b (steps_behind words run_next) (run_next DEFAULT_STEPS FIRST_NAME (word ∷ words)))
run_either own word words true p = run_behind own word words p
run_either own word words false p =
    run_from (own ∷ word ∷ words) FIRST_NAME DEFAULT_STEPS (word ∷ words) (ap (λ b. get_or (own ∷ word ∷ words) (cond b FIRST_NAME_BEHIND_STEPS FIRST_NAME) []) p)

run_stood : (own : List ℕ) (words : List (List ℕ)) → Stood (own ∷ words) (run_words words)
unfolding Stood
run_stood own [] = tt
run_stood own (word ∷ words) = run_either own word words (is_steps word) refl

-- ---- trace

abbrev trace_next : ℕ → ℕ → List (List ℕ) → Result Asked ℕ
trace_next steps at words = next_name at words (λ t words. next_name (at + 1) words (λ e words. arguments_at (at + 2) words (Traces steps t e words)))

trace_from : (all : List (List ℕ)) (at steps : ℕ) (words : List (List ℕ)) → get_or all (first_name all) [] ≡ get_or words 0 [] → get_or all (first_name all + 1) [] ≡ get_or words 1 [] → Stood all (trace_next steps at words)
unfolding Stood
trace_from all at steps [] h k = tt
trace_from all at steps (t ∷ []) h k = cond_stood all (is_name t) (Err (at + 1)) (Err at) tt tt
trace_from all at steps (t ∷ e ∷ args) h k =
    cond_stood all (is_name t) (next_name (at + 1) (e ∷ args) (λ e words. arguments_at (at + 2) words (Traces steps t e words))) (Err at)
    (cond_stood all (is_name e) (arguments_at (at + 2) args (Traces steps t e args)) (Err (at + 1)) (wrong_stood all (at + 2) (first_no_argument 0 own_bytes args) (Traces steps t e args) (h, k)) tt)
    tt

trace_behind : (own word : List ℕ) (words : List (List ℕ)) → is_steps word ≡ true → Stood (own ∷ word ∷ words) (steps_behind words trace_next)
unfolding Stood
trace_behind own word [] p = tt
trace_behind own word (n ∷ words) p =
    let all = own ∷ word ∷ n ∷ words in
    number_stood all 2 (number_in DIGIT_LIMIT n) (λ steps. trace_next steps FIRST_NAME_BEHIND_STEPS words)
    (λ steps. trace_from all FIRST_NAME_BEHIND_STEPS steps words
    (ap (λ b. get_or all (cond b FIRST_NAME_BEHIND_STEPS FIRST_NAME) []) p)
    (ap (λ b. get_or all (cond b FIRST_NAME_BEHIND_STEPS FIRST_NAME + 1) []) p))

trace_either : (own word : List ℕ) (words : List (List ℕ)) (b : Bool) → is_steps word ≡ b → Stood (own ∷ word ∷ words) (cond b (steps_behind words trace_next) (trace_next DEFAULT_STEPS FIRST_NAME (word ∷ words)))
trace_either own word words true p = trace_behind own word words p
trace_either own word words false p =
    trace_from (own ∷ word ∷ words) FIRST_NAME DEFAULT_STEPS (word ∷ words)
    (ap (λ b. get_or (own ∷ word ∷ words) (cond b FIRST_NAME_BEHIND_STEPS FIRST_NAME) []) p)
    (ap (λ b. get_or (own ∷ word ∷ words) (cond b FIRST_NAME_BEHIND_STEPS FIRST_NAME + 1) []) p)

trace_stood : (own : List ℕ) (words : List (List ℕ)) → Stood (own ∷ words) (trace_words words)
unfolding Stood
trace_stood own [] = tt
trace_stood own (word ∷ words) = trace_either own word words (is_steps word) refl

-- ---- the other commands

build_stood : (all words : List (List ℕ)) → Stood all (build_words words)
build_stood all words =
    name_stood all 1 words (λ n words. next_name 2 words (λ e words. traces_at 3 words (Builds n e words)))
    (λ n words. name_stood all 2 words (λ e words. traces_at 3 words (Builds n e words)) (λ e words. wrong_stood all 3 (first_no_trace 0 words) (Builds n e words) tt))

merge_stood : (all words : List (List ℕ)) → Stood all (merge_words words)
merge_stood all words =
    name_stood all 1 words (λ t words. next_name 2 words (λ e words. traces_at 3 words (Merges t e words)))
    (λ t words. name_stood all 2 words (λ e words. traces_at 3 words (Merges t e words)) (λ e words. wrong_stood all 3 (first_no_trace 0 words) (Merges t e words) tt))

show_stood : (all words : List (List ℕ)) → Stood all (show_words words)
show_stood all words =
    name_stood all 1 words (λ e words. traces_at 2 words (Shows e words)) (λ e words. wrong_stood all 2 (first_no_trace 0 words) (Shows e words) tt)

session_stood : (all words : List (List ℕ)) → Stood all (session_words words)
session_stood all words = name_stood all 1 words (λ e words. no_more 2 words (Sessions e)) (λ e words. more_stood all 2 words (Sessions e) tt)

demo_stood : (all words : List (List ℕ)) → Stood all (demo_words words)
unfolding Stood
demo_stood all [] = tt
demo_stood all (word ∷ words) =
    number_stood all 1 (number_in DIGIT_LIMIT word) (λ count. demo_count count words)
    (λ count. cond_stood all (nat_le 1 count && nat_le count DEMO_LIMIT) (no_more 2 words (Demos count)) (Err 1) (more_stood all 2 words (Demos count) tt) tt)

asm_stood : (all words : List (List ℕ)) → Stood all (asm_words words)
asm_stood all words =
    name_stood all 1 words (λ n words. next_name 2 words (λ text words. no_more 3 words (Assembles n text)))
    (λ n words. name_stood all 2 words (λ text words. no_more 3 words (Assembles n text)) (λ text words. more_stood all 3 words (Assembles n text) tt))

command_stood : (words : List (List ℕ)) → Stood words (command words)
unfolding Stood command
command_stood [] = tt
command_stood (word ∷ words) =
    let all = word ∷ words in
    cond_stood all (bytes_eq word (codes "build")) (build_words words) _ (build_stood all words) (
    cond_stood all (bytes_eq word (codes "trace")) (trace_words words) _ (trace_stood word words) (
    cond_stood all (bytes_eq word (codes "run")) (run_words words) _ (run_stood word words) (
    cond_stood all (bytes_eq word (codes "merge")) (merge_words words) _ (merge_stood all words) (
    cond_stood all (bytes_eq word (codes "show")) (show_words words) _ (show_stood all words) (
    cond_stood all (bytes_eq word (codes "session")) (session_words words) _ (session_stood all words) (
    cond_stood all (bytes_eq word (codes "demo")) (demo_words words) _ (demo_stood all words) (
    cond_stood all (bytes_eq word (codes "asm")) (asm_words words) (Err 0) (asm_stood all words) tt)))))))

pub names_stand : (words : List (List ℕ)) (asked : Asked) → command words ≡ Ok asked → Named words asked
unfolding Stood
names_stand words asked e = subst (Stood words) e (command_stood words)
