-- Laws of two lists that are joined, at each place the lower number first.
use Rattle.std.specs.Prelude.{◌≡◌, ℕ, ◌+◌, ◌<◌, ◌||◌, All, true, false, List, length}
use Rattle.std.specs.List.Sorted.{IsStrictlyIncreasing}
use Rattle.block_cut.specs.Transfers.{is_among}
use Rattle.cold_code.specs.Dispatcher.{merged}

-- no number is in both
abbrev pub AreApart : List ℕ → List ℕ → Type 0
AreApart xs ys = (x : ℕ) → is_among xs x ≡ true → is_among ys x ≡ false

-- the members are those of both
abbrev pub MembersOfBoth : Type 0
MembersOfBoth = (xs ys : List ℕ) (x : ℕ) → is_among (merged xs ys) x ≡ (is_among xs x || is_among ys x)

-- each as often as there
abbrev pub AsManyAsBoth : Type 0
AsManyAsBoth = (xs ys : List ℕ) → length (merged xs ys) ≡ length xs + length ys

-- ascending lists give one, where they share no member
abbrev pub MergedAscends : Type 0
MergedAscends = (xs ys : List ℕ) → IsStrictlyIncreasing xs → IsStrictlyIncreasing ys → AreApart xs ys → IsStrictlyIncreasing (merged xs ys)

-- what is above both is above the whole
abbrev pub MergedBelow : Type 0
MergedBelow = (xs ys : List ℕ) (high : ℕ) → All (λ x. x < high) xs → All (λ x. x < high) ys → All (λ x. x < high) (merged xs ys)
