-- One backward sweep gives the least closed set.
use Rattle.std.proofs.Common.{◌≡◌, ℕ, suc, ◌<◌, ◌≤◌, Bool, true, false, List, [], ◌∷◌, get_or, sym, ap, subst, ◌∙◌, refl, arith, ⊎_elim}
use Rattle.std.specs.Prelude.{◌&&◌, nat_lt, nat_eq}
use Rattle.ssa_form.specs.declared.form.Val.{Val}
use Rattle.ssa_form.specs.declared.form.Val.TheVariants.{Param, Line as Of, Num}
use Rattle.ssa_form.specs.declared.form.Line.{Line}
use Rattle.ssa_form.specs.declared.form.Line.TheVariants.{Bin, One, Select, Load, Store, Gone}
use Rattle.ssa_form.specs.Agree.{every}
use Rattle.ssa_form.specs.Checked.{has_result, val_checked, line_checked, lines_checked, vals_checked}
use Rattle.pass_dead.specs.Names.{vals_of, val_names, vals_name, NamedIn, ValsIn, IsClosed, IsWithin, IsLeast}
use Rattle.pass_dead.specs.Needed.{marked, needed_from, needed}
use Rattle.pass_dead.proofs.Bools.{and_left, and_right, either_one, or_left, or_right, is_of, self_eq, less}

-- ---- names and sets
pub val_in : (keep : ℕ → Bool) (v : Val) → IsWithin (val_names v) keep → NamedIn every keep v
val_in keep (Param v) h = refl
val_in keep (Of i) h = h i (self_eq i)
val_in keep (Num n) h = tt

val_out : (on keep : ℕ → Bool) (v : Val) → NamedIn on keep v → IsWithin (val_names v) keep
val_out on keep (Param v) h j e = absurd (cc)
val_out on keep (Of i) h j e = ap keep (is_of j i e) ∙ h
val_out on keep (Num n) h j e = absurd (cc)

pub vals_in : (keep : ℕ → Bool) (vs : List Val) → IsWithin (vals_name vs) keep → ValsIn every keep vs
vals_in keep [] h = tt
vals_in keep (v ∷ vs) h = (val_in keep v (λ j e. h j (or_left _ _ e)), vals_in keep vs (λ j e. h j (or_right (val_names v j) _ e)))

pub vals_out : (on keep : ℕ → Bool) (vs : List Val) → ValsIn on keep vs → IsWithin (vals_name vs) keep
vals_out on keep [] h j e = absurd (cc)
vals_out on keep (v ∷ vs) h j e = ⊎_elim (λ l. val_out on keep v h.0 j l) (λ r. vals_out on keep vs h.1 j r) (either_one (val_names v j) _ e)

pub val_wider : (on keep more : ℕ → Bool) (v : Val) → IsWithin keep more → NamedIn on keep v → NamedIn on more v
val_wider on keep more (Param v) w h = h
val_wider on keep more (Of i) w h = w i h
val_wider on keep more (Num n) w h = tt

pub vals_wider : (on keep more : ℕ → Bool) (vs : List Val) → IsWithin keep more → ValsIn on keep vs → ValsIn on more vs
vals_wider on keep more [] w h = tt
vals_wider on keep more (v ∷ vs) w h = (val_wider on keep more v w h.0, vals_wider on keep more vs w h.1)

pub val_on : (on keep : ℕ → Bool) (v : Val) → NamedIn on every v → NamedIn every keep v → NamedIn on keep v
val_on on keep (Param v) h g = h
val_on on keep (Of i) h g = g
val_on on keep (Num n) h g = tt

pub vals_on : (on keep : ℕ → Bool) (vs : List Val) → ValsIn on every vs → ValsIn every keep vs → ValsIn on keep vs
vals_on on keep [] h g = tt
vals_on on keep (v ∷ vs) h g = (val_on on keep v h.0 g.0, vals_on on keep vs h.1 g.1)

-- ---- earlier lines

pub checked_vals : (all : List Line) (n : ℕ) (l : Line) → line_checked all n l ≡ true → vals_checked all n (vals_of l) ≡ true
checked_vals all n (Bin op a b) c = pair (val_checked all n a) (val_checked all n b) c
  where
    pair : (x y : Bool) → (x && y) ≡ true → (x && (y && true)) ≡ true
    pair true true e = refl
    pair true false e = e
    pair false y e = e
checked_vals all n (One op a) c = rw c refl
checked_vals all n (Select x a b) c = three (val_checked all n x) (val_checked all n a) (val_checked all n b) c
  where
    three : (x y z : Bool) → (x && (y && z)) ≡ true → (x && (y && (z && true))) ≡ true
    three true true true e = refl
    three true true false e = e
    three true false z e = e
    three false y z e = e
checked_vals all n (Load w at) c = rw c refl
checked_vals all n (Store w at a) c = pair (val_checked all n at) (val_checked all n a) c
  where
    pair : (x y : Bool) → (x && y) ≡ true → (x && (y && true)) ≡ true
    pair true true e = refl
    pair true false e = e
    pair false y e = e
checked_vals all n Gone c = refl

pub named_earlier : (all : List Line) (n : ℕ) (vs : List Val) (j : ℕ) → vals_checked all n vs ≡ true → vals_name vs j ≡ true → (j < n) × (has_result (get_or all j Gone) ≡ true)
named_earlier all n [] j c e = absurd (cc)
named_earlier all n (Param v ∷ vs) j c e = named_earlier all n vs j (and_right (val_checked all n (Param v)) _ c) e
named_earlier all n (Num k ∷ vs) j c e = named_earlier all n vs j (and_right (val_checked all n (Num k)) _ c) e
named_earlier all n (Of i ∷ vs) j c e = ⊎_elim
    (λ l. let v = and_left (val_checked all n (Of i)) _ c in
    let P : ℕ → Type 0 = λ k. (k < n) × (has_result (get_or all k Gone) ≡ true) in
    subst P (sym (is_of j i l)) (less i n (and_left (nat_lt i n) _ v), and_right (nat_lt i n) _ v))
    (λ r. named_earlier all n vs j (and_right (val_checked all n (Of i)) _ c) r)
    (either_one (nat_eq j i) _ e)

-- ---- the sweep
module _ (all : List Line) where
  marked_more : (b : Bool) (l : Line) (set : ℕ → Bool) → IsWithin set (marked b l set)
  marked_more true l set j e = or_left _ _ e
  marked_more false l set j e = e

  marked_only : (b : Bool) (n : ℕ) (l : Line) (set : ℕ → Bool) → line_checked all n l ≡ true → (j : ℕ) → n ≤ j → marked b l set j ≡ true → set j ≡ true
  marked_only true n l set c j h e = ⊎_elim (λ x. x) (λ r. absurd (omega (arith, h, (named_earlier all n (vals_of l) j (checked_vals all n l c) r).0))) (either_one (set j) _ e)
  marked_only false n l set c j h e = e

  marked_names : (b : Bool) (l : Line) (set : ℕ → Bool) → b ≡ true → IsWithin (vals_name (vals_of l)) (marked b l set)
  marked_names true l set t j e = or_right (set j) _ e
  marked_names false l set t j e = absurd (cc)

  still_closed : (n : ℕ) (ls : List Line) (set more : ℕ → Bool) → IsWithin set more → ((j : ℕ) → n ≤ j → more j ≡ true → set j ≡ true) → IsClosed every set n ls → IsClosed every more n ls
  still_closed n [] set more w o h = tt
  still_closed n (l ∷ ls) set more w o h = ((λ e. vals_wider every set more (vals_of l) w (h.0 (o n (omega arith) e))), still_closed (suc n) ls set more w (λ j g. o j (omega arith)) h.1)

  sweep_has : (n : ℕ) (ls : List Line) (set : ℕ → Bool) → IsWithin set (needed_from n ls set)
  sweep_has n [] set j e = e
  sweep_has n (l ∷ ls) set j e = marked_more (needed_from (suc n) ls set n) l _ j (sweep_has (suc n) ls set j e)

  sweep_closed : (n : ℕ) (ls : List Line) (set : ℕ → Bool) → lines_checked all n ls ≡ true → IsClosed every (needed_from n ls set) n ls
  sweep_closed n [] set c = tt
  sweep_closed n (l ∷ ls) set c =
      let later = needed_from (suc n) ls set in
      let k = and_left (line_checked all n l) _ c in
      let only = marked_only (later n) n l later k in (
        (λ e. vals_in _ (vals_of l) (marked_names (later n) l later (only n (omega arith) e))),
        still_closed (suc n) ls later _ (marked_more (later n) l later) (λ j g. only j (omega arith)) (sweep_closed (suc n) ls set (and_right (line_checked all n l) _ c)),
      )

  marked_least : (b : Bool) (l : Line) (set other : ℕ → Bool) → IsWithin set other → (b ≡ true → ValsIn every other (vals_of l)) → IsWithin (marked b l set) other
  marked_least true l set other w h j e = ⊎_elim (w j) (vals_out every other (vals_of l) (h refl) j) (either_one (set j) _ e)
  marked_least false l set other w h j e = w j e

  sweep_least : (n : ℕ) (ls : List Line) (set other : ℕ → Bool) → IsWithin set other → IsClosed every other n ls → IsWithin (needed_from n ls set) other
  sweep_least n [] set other w h = w
  sweep_least n (l ∷ ls) set other w h =
      let before = sweep_least (suc n) ls set other w h.1 in
      marked_least (needed_from (suc n) ls set n) l _ other before (λ e. h.0 (before n e))

pub needed_least : (ls : List Line) (roots : ℕ → Bool) → lines_checked ls 0 ls ≡ true → IsLeast ls roots (needed ls roots)
needed_least ls roots c = record { has = sweep_has ls 0 ls roots; closed = sweep_closed ls 0 ls roots c; least = λ other w h. sweep_least ls 0 ls roots other w h }
