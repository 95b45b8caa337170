-- The stack with which a guest begins has room.
use Rattle.std.proofs.Common.{◌≡◌, ℕ, ◌+◌, ◌-◌, ◌*◌, ◌/◌, ◌≤◌, List, [], ◌∷◌, ◌++◌, length, refl, arith, length-append}
use Rattle.br_word.specs.Memory.{bytes_of, zeros}
use Rattle.std.proofs.lemmas.List.{length-replicate}
use Rattle.run_model.specs.Opening.{texts, arguments, text_places, first_text, stack_pointer, stack_words, stack_top, FitArguments}

length-zeros : (n : ℕ) → length (zeros n) ≡ n
unfolding zeros
length-zeros n = length-replicate n 0

length-word : (n : ℕ) → length (bytes_of 4 n) ≡ 4
unfolding bytes_of
length-word n = refl

length-places : (at : ℕ) (args : List (List ℕ)) → length (text_places at args) ≡ 4 * length args
length-places at [] = refl
length-places at (arg ∷ args) =
    let rest = at + length arg + 1 in
    omega (arith, length-append (bytes_of 4 at) (text_places rest args), length-word at, length-places rest args)

length-words : (args : List (List ℕ)) → length (stack_words args) ≡ 4 * (length args + 5)
length-words args =
    let places = text_places (first_text args) args in
    omega (arith, length-append (bytes_of 4 (length args)) (places ++ zeros 16), length-append places (zeros 16), length-word (length args), length-places (first_text args) args, length-zeros 16)

gap : (n total : ℕ) → n ≤ 257 → total ≤ 65536 → (0xC0000000 - total) - ((0xC0000000 - total - 4 * (n + 5)) / 16 * 16 + 4 * (n + 5)) ≤ 15
gap n total few short = omega arith

length-top : (args : List (List ℕ)) → length args ≤ 257 → length (texts args) ≤ 65536 → length (stack_top args) ≤ 1048576
length-top args few short =
    let between = first_text args - (stack_pointer args + 4 * (length args + 5)) in
    omega (arith, gap (length args) (length (texts args)) few short, length-append (stack_words args) (zeros between ++ texts args), length-append (zeros between) (texts args), length-words args, length-zeros between)

pub room : (words : List (List ℕ)) → FitArguments words → length (stack_top (arguments words)) ≤ 1048576
room words fit = let few = fit.count in length-top (arguments words) (omega arith) fit.bytes
