-- How long pieces are together, and where a jump of one leads.
use Rattle.std.proofs.Common.{◌≡◌, ℕ, ◌+◌, ◌<◌, ◌≤◌, Bool, true, false, List, [], ◌∷◌, ◌++◌, length, refl, sym, ap, ◌∙◌, arith}
use Rattle.std.specs.Prelude.{◌==◌, if◌then◌else◌}
use Rattle.std.proofs.lemmas.Bool.Decides.{nat_tests}
use Rattle.block_cut.specs.Transfers.{is_among}
use Rattle.code_layout.specs.Layout.{Added, added_length}
use Rattle.code_layout.specs.Places.{place_in}
use Rattle.cold_copy.specs.declared.linking.Stands.{Stands}
use Rattle.cold_copy.specs.Linking.{stands_to}

pub length_both : (xs ys : List Added) → added_length (xs ++ ys) ≡ added_length xs + added_length ys
length_both [] ys = omega arith
length_both (a ∷ xs) ys = omega (arith, length_both xs ys)

not_zero : (y : ℕ) → 0 < y → (y == 0) ≡ false
not_zero y l = grind (arith, nat_tests, l)

pub to_start : (s : Stands) (y : ℕ) → 0 < y → is_among s.starts.items y ≡ true → stands_to s y ≡ place_in s.blocks y
to_start s y l m =
    ap (λ b. if b then s.turn else (if is_among s.starts.items y then place_in s.blocks y else place_in s.copies y)) (not_zero y l)
    ∙ ap (λ b. if b then place_in s.blocks y else place_in s.copies y) m

pub to_copy : (s : Stands) (y : ℕ) → 0 < y → is_among s.starts.items y ≡ false → stands_to s y ≡ place_in s.copies y
to_copy s y l m =
    ap (λ b. if b then s.turn else (if is_among s.starts.items y then place_in s.blocks y else place_in s.copies y)) (not_zero y l)
    ∙ ap (λ b. if b then place_in s.blocks y else place_in s.copies y) m
