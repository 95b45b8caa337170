-- Accesses of fewer and of more bytes at one address.
use Rattle.std.proofs.Common.{◌≡◌, ℕ, ◌≤◌, Bool, true, false, ◌&&◌, if◌then◌else◌, List, [], ◌∷◌, length, Option, Some, None, option_map, refl, arith}
use Rattle.br_word.specs.Memory.{Region, Use, Writes, allows, covers, bytes_at, written}
use Rattle.std.proofs.lemmas.Bool.Decides.{nat_tests}

-- what covers more covers fewer
covers_fewer : (r : Region) (at n m : ℕ) → n ≤ m → covers r at m ≡ true → covers r at n ≡ true
covers_fewer r at n m le h = grind (arith, nat_tests)

both : (a b c : Bool) → (a ≡ true → c ≡ true) → (a && b) ≡ true → (c && b) ≡ true
both true b c f h = rw (f refl) h
both false b c f h = absurd (let e : false ≡ true = h in cc)

skips : {A : Type 0} (b c : Bool) (x y : A) (t u : Option A) → (c ≡ true → b ≡ true) → (t ≡ None → u ≡ None) → (if b then Some x else t) ≡ None → (if c then Some y else u) ≡ None
skips true c x y t u f g h = absurd (cc)
skips false true x y t u f g h = absurd (let e = f refl in cc)
skips false false x y t u f g h = g h

-- where fewer bytes are denied, more are
pub denied_more : (how : Use) (at n m : ℕ) (rs : List Region) → n ≤ m → bytes_at how at n rs ≡ None → bytes_at how at m rs ≡ None
unfolding bytes_at
denied_more how at n m [] le h = refl
denied_more how at n m (r ∷ rs) le h =
    skips (covers r at n && allows how r.perms) (covers r at m && allows how r.perms) _ _ _ _
    (both (covers r at m) (allows how r.perms) (covers r at n) (covers_fewer r at n m le))
    (denied_more how at n m rs le) h

denies : {A B : Type 0} (b : Bool) (x : A) (y : B) (t : Option A) (u : Option B) → (t ≡ None → u ≡ None) → (if b then Some x else t) ≡ None → (if b then Some y else u) ≡ None
denies true x y t u g h = absurd (cc)
denies false x y t u g h = g h

map_none : {A B : Type 0} (f : A → B) (t : Option A) → option_map f t ≡ None → t ≡ None
map_none f None h = refl
map_none f (Some x) h = absurd (cc)

none_map : {A B : Type 0} (f : A → B) (t : Option A) → t ≡ None → option_map f t ≡ None
none_map f None h = refl
none_map f (Some x) h = absurd (cc)

-- a write is denied exactly where its bytes may not be used so
pub written_none : (at : ℕ) (new : List ℕ) (rs : List Region) → bytes_at Writes at (length new) rs ≡ None → written at new rs ≡ None
unfolding bytes_at written
written_none at new [] h = refl
written_none at new (r ∷ rs) h =
    denies (covers r at (length new) && allows Writes r.perms) _ _ _ _ (λ e. none_map _ _ (written_none at new rs e)) h

pub none_written : (at : ℕ) (new : List ℕ) (rs : List Region) → written at new rs ≡ None → bytes_at Writes at (length new) rs ≡ None
unfolding bytes_at written
none_written at new [] h = refl
none_written at new (r ∷ rs) h =
    denies (covers r at (length new) && allows Writes r.perms) _ _ _ _ (λ e. none_written at new rs (map_none _ _ e)) h
