-- Stores that stay, and outs by their numbers.
use Rattle.std.proofs.Common.{◌≡◌, ℕ, zero, suc, ◌+◌, Bool, true, List, [], ◌∷◌, get_or, sym, ap, ◌∙◌, arith}
use Rattle.std.specs.Prelude.{◌&&◌}
use Rattle.ssa_form.specs.declared.form.Val.{Val}
use Rattle.ssa_form.specs.declared.form.Val.TheVariants.{Num}
use Rattle.ssa_form.specs.declared.form.Line.{Line}
use Rattle.ssa_form.specs.declared.form.Line.TheVariants.{Gone}
use Rattle.pass_dead.specs.Names.{val_names, outs_name, is_store}
use Rattle.pass_dead.proofs.Bools.{both, or_left, or_right}

-- a store is kept
abbrev pub MustStay : Bool → Line → Type 0
MustStay kept l = is_store l ≡ true → kept ≡ true

abbrev pub HasStores : (ℕ → Bool) → ℕ → List Line → Type 0
HasStores keep n [] = Unit {0}
HasStores keep n (l ∷ ls) = MustStay (keep n) l × HasStores keep (suc n) ls

pub has_stores : (keep : ℕ → Bool) (n : ℕ) (ls : List Line) → ((k j : ℕ) → j ≡ n + k → is_store (get_or ls k Gone) ≡ true → keep j ≡ true) → HasStores keep n ls
has_stores keep n [] h = tt
has_stores keep n (l ∷ ls) h = (h 0 n (omega arith), has_stores keep (suc n) ls (λ k j e. h (suc k) j (omega arith)))

pub outs_named : (on : ℕ → Bool) (n : ℕ) (os : List Val) (v w j : ℕ) → w ≡ n + v → on w ≡ true → val_names (get_or os v (Num 0)) j ≡ true → outs_name on n os j ≡ true
outs_named on n [] v w j q o e = absurd (cc)
outs_named on n (x ∷ os) zero w j q o e = let z : w ≡ n = omega arith in or_left _ _ (both _ _ (ap on (sym z) ∙ o) e)
outs_named on n (x ∷ os) (suc v) w j q o e = or_right (on n && val_names x j) _ (outs_named on (suc n) os v w j (omega arith) o e)
