-- Sets of lines as lists.
use Rattle.std.proofs.Common.{◌≡◌, ℕ, zero, suc, ◌+◌, ◌<◌, Bool, List, [], ◌∷◌, length, ap, ◌∙◌, refl, arith}
use Rattle.ssa_form.specs.declared.form.Line.{Line}
use Rattle.ssa_form.specs.declared.form.Block.{Block}
use Rattle.ssa_form.specs.declared.form.BlockKey.{BlockKey}
use Rattle.pass_dead.specs.Names.{set_of}
use Rattle.stub_sink.specs.Splits.{has_fallback, starts_of, live_at, body_of, sunk_of, listed}
use Rattle.stub_sink.specs.Serving.{IsListed}

pub listed_length : (set : ℕ → Bool) (n : ℕ) (ls : List Line) → length (listed set n ls) ≡ length ls
listed_length set n [] = refl
listed_length set n (l ∷ ls) = ap suc (listed_length set (suc n) ls)

listed_at : (set : ℕ → Bool) (n : ℕ) (ls : List Line) (k j : ℕ) → j ≡ n + k → k < length ls → set_of (listed set n ls) k ≡ set j
listed_at set n [] k j e l = absurd (omega arith)
listed_at set n (x ∷ ls) zero j e l = let z : n ≡ j = omega arith in ap set z
listed_at set n (x ∷ ls) (suc k) j e l = listed_at set (suc n) ls k j (omega arith) (omega arith)

two : (x y : Bool) (xs ys : List Bool) → x ≡ y → xs ≡ ys → ◌≡◌ {A = List Bool} (x ∷ xs) (y ∷ ys)
two x y xs ys e g = cc

-- marks of a set are its list
listed_from : (set : ℕ → Bool) (n : ℕ) (ls : List Line) (marks : List Bool) → length marks ≡ length ls → ((k j : ℕ) → j ≡ n + k → k < length ls → set_of marks k ≡ set j) → marks ≡ listed set n ls
listed_from set n [] [] e h = refl
listed_from set n [] (m ∷ ms) e h = absurd (omega arith)
listed_from set n (l ∷ ls) [] e h = absurd (omega arith)
listed_from set n (l ∷ ls) (m ∷ ms) e h = two m (set n) ms (listed set (suc n) ls) (h 0 n (omega arith) (omega arith)) (listed_from set (suc n) ls ms (omega arith) (λ k j q t. h (suc k) j (omega arith) (omega arith)))

pub listed_is : (set : ℕ → Bool) (ls : List Line) (marks : List Bool) → length marks ≡ length ls → ((j : ℕ) → j < length ls → set_of marks j ≡ set j) → marks ≡ listed set 0 ls
listed_is set ls marks e h = listed_from set 0 ls marks e (λ k j q l. let z : k ≡ j = omega arith in h k l ∙ ap set z)

pub is_listed : (b : Block) (key : BlockKey) → IsListed b key
is_listed b key =
    let live = live_at key.exits in
    let unknown = has_fallback b.exit (starts_of key.exits) in
    record {
      body_length = listed_length (body_of live unknown b) 0 b.lines;
      sunk_length = listed_length (sunk_of live unknown b) 0 b.lines;
      body = λ j l. listed_at (body_of live unknown b) 0 b.lines j j (omega arith) l;
      sunk = λ j l. listed_at (sunk_of live unknown b) 0 b.lines j j (omega arith) l;
    }
