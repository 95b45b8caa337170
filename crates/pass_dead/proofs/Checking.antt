-- Pruned blocks are checked.
use Rattle.std.proofs.Common.{◌≡◌, ℕ, zero, suc, ◌+◌, Bool, true, false, List, [], ◌∷◌, length, get_or, sym, ap, subst, ◌∙◌, refl, arith, ⊎_elim}
use Rattle.std.specs.Prelude.{◌&&◌, nat_lt, nat_eq, if◌then◌else◌}
use Rattle.ssa_form.specs.declared.form.Val.{Val}
use Rattle.ssa_form.specs.declared.form.Val.TheVariants.{Param, Line as Of, Num}
use Rattle.ssa_form.specs.declared.form.Line.{Line}
use Rattle.ssa_form.specs.declared.form.Line.TheVariants.{Bin, One, Select, Load, Store, Gone}
use Rattle.ssa_form.specs.declared.form.Exit.{Exit}
use Rattle.ssa_form.specs.declared.form.Exit.TheVariants.{Jump, Cond, Way, Island}
use Rattle.ssa_form.specs.declared.form.Block.{Block}
use Rattle.ssa_form.specs.Agree.{every}
use Rattle.ssa_form.specs.Checked.{has_result, val_checked, line_checked, lines_checked, vals_checked, exit_checked, checked}
use Rattle.pass_dead.specs.Names.{vals_of, exit_vals, val_names, vals_name, outs_name, is_store, NamedIn, ValsIn, IsClosed, IsLeast}
use Rattle.pass_dead.specs.Needed.{always, needed, roots_of, kept_lines, pruned}
use Rattle.pass_dead.proofs.Bools.{and_left, and_right, both, either_one, or_left, or_right}
use Rattle.pass_dead.proofs.Least.{vals_in, needed_least}

kept_at : (keep : ℕ → Bool) (n : ℕ) (ls : List Line) (k j : ℕ) → j ≡ n + k → keep j ≡ true → get_or (kept_lines keep n ls) k Gone ≡ get_or ls k Gone
kept_at keep n [] k j q e = refl
kept_at keep n (l ∷ ls) zero j q e = let z : j ≡ n = omega arith in ap (λ (b : Bool). if b then l else Gone) (ap keep (sym z) ∙ e)
kept_at keep n (l ∷ ls) (suc k) j q e = kept_at keep (suc n) ls k j (omega arith) e

pub kept_length : (keep : ℕ → Bool) (n : ℕ) (ls : List Line) → length (kept_lines keep n ls) ≡ length ls
kept_length keep n [] = refl
kept_length keep n (l ∷ ls) = ap suc (kept_length keep (suc n) ls)

module _ (all : List Line) (keep : ℕ → Bool) where
  val_kept : (n : ℕ) (v : Val) → val_checked all n v ≡ true → NamedIn every keep v → val_checked (kept_lines keep 0 all) n v ≡ true
  val_kept n (Param v) c i = c
  val_kept n (Of j) c i = both _ _ (and_left (nat_lt j n) _ c) (ap has_result (kept_at keep 0 all j j (omega arith) i) ∙ and_right (nat_lt j n) _ c)
  val_kept n (Num k) c i = refl

  vals_kept : (n : ℕ) (vs : List Val) → vals_checked all n vs ≡ true → ValsIn every keep vs → vals_checked (kept_lines keep 0 all) n vs ≡ true
  vals_kept n [] c i = refl
  vals_kept n (v ∷ vs) c i = both _ _ (val_kept n v (and_left _ _ c) i.0) (vals_kept n vs (and_right (val_checked all n v) _ c) i.1)

  line_kept : (n : ℕ) (l : Line) → line_checked all n l ≡ true → ValsIn every keep (vals_of l) → line_checked (kept_lines keep 0 all) n l ≡ true
  line_kept n (Bin op a b) c i = both _ _ (val_kept n a (and_left _ _ c) i.0) (val_kept n b (and_right (val_checked all n a) _ c) i.1.0)
  line_kept n (One op a) c i = val_kept n a c i.0
  line_kept n (Select x a b) c i =
      let r = and_right (val_checked all n x) _ c in
      both _ _ (val_kept n x (and_left _ _ c) i.0) (both _ _ (val_kept n a (and_left _ _ r) i.1.0) (val_kept n b (and_right (val_checked all n a) _ r) i.1.1.0))
  line_kept n (Load w at) c i = val_kept n at c i.0
  line_kept n (Store w at a) c i = both _ _ (val_kept n at (and_left _ _ c) i.0) (val_kept n a (and_right (val_checked all n at) _ c) i.1.0)
  line_kept n Gone c i = refl

  line_or_gone : (b : Bool) (n : ℕ) (l : Line) → (b ≡ true → line_checked (kept_lines keep 0 all) n l ≡ true) → line_checked (kept_lines keep 0 all) n (if b then l else Gone) ≡ true
  line_or_gone true n l h = h refl
  line_or_gone false n l h = refl

  lines_kept : (n : ℕ) (ls : List Line) → lines_checked all n ls ≡ true → IsClosed every keep n ls → lines_checked (kept_lines keep 0 all) n (kept_lines keep n ls) ≡ true
  lines_kept n [] c i = refl
  lines_kept n (l ∷ ls) c i = both _ _ (line_or_gone (keep n) n l (λ e. line_kept n l (and_left _ _ c) (i.0 e))) (lines_kept (suc n) ls (and_right (line_checked all n l) _ c) i.1)

  exit_kept : (n : ℕ) (x : Exit) → exit_checked all n x ≡ true → ValsIn every keep (exit_vals x) → exit_checked (kept_lines keep 0 all) n x ≡ true
  exit_kept n (Jump to) c i = refl
  exit_kept n (Cond test taken next) c i = val_kept n test c i.0
  exit_kept n (Way v) c i = val_kept n v c i.0
  exit_kept n (Island len) c i = refl

any_outs : (n : ℕ) (os : List Val) (j : ℕ) → vals_name os j ≡ true → outs_name every n os j ≡ true
any_outs n [] j e = e
any_outs n (o ∷ os) j e = ⊎_elim (λ l. or_left _ _ l) (λ r. or_right (val_names o j) _ (any_outs (suc n) os j r)) (either_one (val_names o j) _ e)

pub pruned_checked : (b : Block) → checked b ≡ true → checked (pruned b) ≡ true
pruned_checked b c =
    let keep : ℕ → Bool = needed b.lines (roots_of every b) in
    let r = and_right (nat_eq (length b.outs) 14) _ c in
    let s = and_right (lines_checked b.lines 0 b.lines) _ r in
    let least : IsLeast b.lines (roots_of every b) keep = needed_least b.lines _ (and_left _ _ r) in
    let P : ℕ → Type 0 = λ n. (vals_checked (kept_lines keep 0 b.lines) n b.outs && exit_checked (kept_lines keep 0 b.lines) n b.exit) ≡ true in
    both _ _ (and_left _ _ c) (both _ _ (lines_kept b.lines keep 0 b.lines (and_left _ _ r) least.closed)
    (subst P (sym (kept_length keep 0 b.lines)) (both _ _
    (vals_kept b.lines keep (length b.lines) b.outs (and_left _ _ s) (vals_in keep b.outs (λ j e. least.has j (or_right (always b j) _ (any_outs 0 b.outs j e)))))
    (exit_kept b.lines keep (length b.lines) b.exit (and_right (vals_checked b.lines (length b.lines) b.outs) _ s) (vals_in keep (exit_vals b.exit) (λ j e. least.has j (or_left _ _ (or_right (is_store (get_or b.lines j Gone)) _ e))))))))
