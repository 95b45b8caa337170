-- Members of a list, by a test.
use Rattle.std.proofs.Common.{◌≡◌, ℕ, Bool, true, false, ◌||◌, ◌⊎◌, inl, inr, List, [], ◌∷◌, refl, arith}
use Rattle.std.specs.Prelude.{Contains, ◌==◌}
use Rattle.std.proofs.lemmas.Bool.Decides.{nat_tests}
use Rattle.block_cut.specs.Transfers.{is_among}
use Rattle.trace_file.proofs.Union.{there, first_or_later}
use Rattle.trace_file.proofs.Unique.{none}
use Rattle.flow_graph.proofs.Ascending.{at_first}

pub of_among : (xs : List ℕ) (x : ℕ) → is_among xs x ≡ true → Contains xs x
of_among [] x h = cc
of_among (y ∷ ys) x h = go (x == y) refl (of_among ys x) h
  where
    go : (b : Bool) → (x == y) ≡ b → (is_among ys x ≡ true → Contains ys x) → (b || is_among ys x) ≡ true → Contains (y ∷ ys) x
    go true e rest h = at_first y x ys (grind (arith, nat_tests))
    go false e rest h = there y x ys (rest h)

pub to_among : (xs : List ℕ) (x : ℕ) → Contains xs x → is_among xs x ≡ true
to_among [] x c = absurd (none x c)
to_among (y ∷ ys) x c = go (x == y) refl (first_or_later y x ys c) (to_among ys x)
  where
    go : (b : Bool) → (x == y) ≡ b → (y ≡ x) ⊎ Contains ys x → (Contains ys x → is_among ys x ≡ true) → (b || is_among ys x) ≡ true
    go true e c rest = refl
    go false e (inl s) rest = grind (arith, nat_tests)
    go false e (inr d) rest = rest d
