-- Lines behind others.
use Rattle.std.proofs.Common.{◌≡◌, ℕ, suc, ◌+◌, List, [], ◌∷◌, ◌++◌, length, ap, subst, arith}
use Rattle.ssa_form.specs.declared.form.Line.{Line}
use Rattle.ssa_form.specs.Value.{Env, fold, AllAllowed, line_next, numbered}

-- the environment after the first of two lists
pub fold_behind : (xs ys : List Line) (n m : ℕ) (e : Env) → m ≡ n + length xs → fold (numbered n (xs ++ ys)) e ≡ fold (numbered m ys) (fold (numbered n xs) e)
fold_behind [] ys n m e q = let z : n ≡ m = omega arith in ap (λ (k : ℕ). fold (numbered k ys) e) z
fold_behind (x ∷ xs) ys n m e q = fold_behind xs ys (suc n) m (line_next n x e) (omega arith)

pub allowed_behind : (xs ys : List Line) (n m : ℕ) (e : Env) → m ≡ n + length xs → AllAllowed (numbered n xs) e → AllAllowed (numbered m ys) (fold (numbered n xs) e) → AllAllowed (numbered n (xs ++ ys)) e
allowed_behind [] ys n m e q h g = let z : m ≡ n = omega arith in subst (λ (k : ℕ). AllAllowed (numbered k ys) e) z g
allowed_behind (x ∷ xs) ys n m e q h g = (h.0, allowed_behind xs ys (suc n) m (line_next n x e) (omega arith) h.1 g)
