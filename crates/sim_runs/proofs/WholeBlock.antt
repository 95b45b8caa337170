-- All lines of a block whose names stand for something serve it.
use Rattle.std.proofs.Common.{◌≡◌, ℕ, zero, suc, ◌+◌, ◌<◌, ◌≤◌, Bool, true, false, if◌then◌else◌, ◌&&◌, List, [], ◌∷◌, ◌++◌, length, get_or, refl, sym, ap, ◌∙◌, subst, arith}
use Rattle.std.specs.Prelude.{nat_lt, nat_eq}
use Rattle.std.proofs.lemmas.Bool.{ltb-true}
use Rattle.std.proofs.lemmas.List.{append-nil}
use Rattle.par_moves.specs.declared.locations.Place.{Place}
use Rattle.ssa_form.specs.declared.form.TheConstants.{REGISTERS}
use Rattle.ssa_form.specs.declared.form.Val.{Val}
use Rattle.ssa_form.specs.declared.form.Val.TheVariants.{Param, Line as Named, Num}
use Rattle.ssa_form.specs.declared.form.Line.{Line}
use Rattle.ssa_form.specs.declared.form.Line.TheVariants.{Bin, One, Select, Load, Store, Gone}
use Rattle.ssa_form.specs.declared.form.Exit.{Exit}
use Rattle.ssa_form.specs.declared.form.Exit.TheVariants.{Jump, Cond, Way, Island}
use Rattle.ssa_form.specs.declared.form.Block.{Block}
use Rattle.ssa_form.specs.Value.{numbered}
use Rattle.ssa_form.specs.Same.{rows}
use Rattle.ssa_form.specs.Checked.{has_result, val_checked, line_checked, lines_checked, vals_checked, exit_checked}
use Rattle.emit_ops.specs.Sequences.{kept}
use Rattle.sim_runs.specs.Lines.{NamedIn, LineIn, MustStay, Closed, Below, LineBelow, Ordered, either, AllSunk}
use Rattle.sim_runs.specs.Coding.{out_at, SameKind, ExitIn, NoneLost}
use Rattle.sim_runs.specs.WholeBlock.{IsWay, TakesAll, AllLinesServe}
use Rattle.sim_runs.proofs.Known.{and_inv}

-- ---- names of earlier lines

module _ (ls : List Line) where
  val_below : (n : ℕ) (v : Val) → val_checked ls n v ≡ true → Below n v
  val_below n (Param v) h = tt
  val_below n (Named j) h = ltb-true j n (and_inv (nat_lt j n) (has_result (get_or ls j Gone)) h).0
  val_below n (Num k) h = tt

  line_below : (n : ℕ) (l : Line) → line_checked ls n l ≡ true → LineBelow n l
  line_below n (Bin op a b) h = let p = and_inv (val_checked ls n a) (val_checked ls n b) h in (val_below n a p.0, val_below n b p.1)
  line_below n (One op a) h = val_below n a h
  line_below n (Select c a b) h =
      let p = and_inv (val_checked ls n c) (val_checked ls n a && val_checked ls n b) h in
      let q = and_inv (val_checked ls n a) (val_checked ls n b) p.1 in
      (val_below n c p.0, val_below n a q.0, val_below n b q.1)
  line_below n (Load w at) h = val_below n at h
  line_below n (Store w at a) h = let p = and_inv (val_checked ls n at) (val_checked ls n a) h in (val_below n at p.0, val_below n a p.1)
  line_below n Gone h = tt

  ordered : (n : ℕ) (rest : List Line) → lines_checked ls n rest ≡ true → Ordered n (numbered n rest)
  ordered n [] h = tt
  ordered n (l ∷ rest) h = let p = and_inv (line_checked ls n l) (lines_checked ls (suc n) rest) h in (refl, line_below n l p.0, ordered (suc n) rest p.1)

  vals_below : (n : ℕ) (vs : List Val) (v : ℕ) → vals_checked ls n vs ≡ true → Below n (get_or vs v (Num 0))
  vals_below n [] v h = tt
  vals_below n (x ∷ vs) zero h = val_below n x (and_inv (val_checked ls n x) (vals_checked ls n vs) h).0
  vals_below n (x ∷ vs) (suc v) h = vals_below n vs v (and_inv (val_checked ls n x) (vals_checked ls n vs) h).1

long : (n : ℕ) (ls : List Line) → length (numbered n ls) ≡ length ls
long n [] = refl
long n (l ∷ ls) = ap suc (long (suc n) ls)

same_kind : (x : Exit) → IsWay x → SameKind x x
same_kind (Jump to) h = refl
same_kind (Cond t taken next) h = (refl, refl)
same_kind (Way v) h = tt
same_kind (Island len) h = absurd h

-- ---- all of them are taken

module _ (home : ℕ → Place) (b : Block) (on body sunk : ℕ → Bool) (place : ℕ → Place) (live : (v : ℕ) → v < 14 → on v ≡ true) (all : TakesAll home b body sunk place) where
  named : (n : ℕ) (v : Val) → n ≤ length b.lines → val_checked b.lines n v ≡ true → NamedIn on body v
  named n (Param v) l h = live v (ltb-true v REGISTERS h)
  named n (Named j) l h = let k = ltb-true j n (and_inv (nat_lt j n) (has_result (get_or b.lines j Gone)) h).0 in all.taken j (omega (arith, k, l))
  named n (Num k) l h = tt

  line_in : (n : ℕ) (x : Line) → n ≤ length b.lines → line_checked b.lines n x ≡ true → LineIn on body x
  line_in n (Bin op a c) l h = let p = and_inv (val_checked b.lines n a) (val_checked b.lines n c) h in (named n a l p.0, named n c l p.1)
  line_in n (One op a) l h = named n a l h
  line_in n (Select t a c) l h =
      let p = and_inv (val_checked b.lines n t) (val_checked b.lines n a && val_checked b.lines n c) h in
      let q = and_inv (val_checked b.lines n a) (val_checked b.lines n c) p.1 in
      (named n t l p.0, named n a l q.0, named n c l q.1)
  line_in n (Load w at) l h = named n at l h
  line_in n (Store w at a) l h = let p = and_inv (val_checked b.lines n at) (val_checked b.lines n a) h in (named n at l p.0, named n a l p.1)
  line_in n Gone l h = tt

  stays : (i : ℕ) (x : Line) → i < length b.lines → MustStay body i x
  stays i (Bin op a c) l = tt
  stays i (One op a) l = tt
  stays i (Select t a c) l = tt
  stays i (Load n at) l = tt
  stays i (Store n at a) l = all.taken i l
  stays i Gone l = tt

  closed : (n : ℕ) (rest : List Line) → n + length rest ≡ length b.lines → lines_checked b.lines n rest ≡ true → Closed on body (numbered n rest)
  closed n [] e h = tt
  closed n (x ∷ rest) e h =
      let p = and_inv (line_checked b.lines n x) (lines_checked b.lines (suc n) rest) h in
      (stays n x (omega (arith, e)), (λ _. line_in n x (omega (arith, e)) p.0), closed (suc n) rest (omega (arith, e)) p.1)

  exit_in : (n : ℕ) (x : Exit) → n ≤ length b.lines → exit_checked b.lines n x ≡ true → ExitIn on body x
  exit_in n (Jump to) l h = tt
  exit_in n (Cond t taken next) l h = named n t l h
  exit_in n (Way v) l h = named n v l h
  exit_in n (Island len) l h = tt

  outs_in : (n : ℕ) (vs : List Val) (v : ℕ) → n ≤ length b.lines → vals_checked b.lines n vs ≡ true → NamedIn on body (get_or vs v (Num 0))
  outs_in n [] v l h = tt
  outs_in n (x ∷ vs) zero l h = named n x l (and_inv (val_checked b.lines n x) (vals_checked b.lines n vs) h).0
  outs_in n (x ∷ vs) (suc v) l h = outs_in n vs v l (and_inv (val_checked b.lines n x) (vals_checked b.lines n vs) h).1

  either_in : (v : Val) → NamedIn on body v → NamedIn on (either body sunk) v
  either_in (Param v) h = h
  either_in (Named j) h = ap (λ t. if t then true else sunk j) h
  either_in (Num n) h = tt

  none_sunk : (ps : List (ℕ × Line)) → AllSunk on body sunk ps
  none_sunk [] = tt
  none_sunk (p ∷ ps) = ((λ e. absurd (let h : false ≡ true = sym (all.none p.0) ∙ e in cc)), none_sunk ps)

  all_kept : (n : ℕ) (rest : List Line) → n + length rest ≡ length b.lines → kept body (numbered n rest) ≡ numbered n rest
  all_kept n [] e = refl
  all_kept n (x ∷ rest) e =
      ap (λ k. if k then ((n, x) ∷ kept body (numbered (suc n) rest)) else kept body (numbered (suc n) rest)) (all.taken n (omega (arith, e)))
      ∙ ap (λ qs. (n, x) ∷ qs) (all_kept (suc n) rest (omega (arith, e)))

  none_kept : (ps : List (ℕ × Line)) → kept sunk ps ≡ []
  none_kept [] = refl
  none_kept (p ∷ ps) = ap (λ k. if k then (p ∷ kept sunk ps) else kept sunk ps) (all.none p.0) ∙ none_kept ps

  kept_both : kept body (rows b) ++ kept sunk (rows b) ≡ rows b
  kept_both = ap (λ qs. qs ++ kept sunk (rows b)) (all_kept 0 b.lines (omega arith)) ∙ ap (λ qs. rows b ++ qs) (none_kept (rows b)) ∙ append-nil (rows b)

pub all_lines_serve : AllLinesServe
all_lines_serve home b on body sunk place exits h few way live all =
    let p = and_inv (nat_eq (length b.outs) REGISTERS) (lines_checked b.lines 0 b.lines && (vals_checked b.lines (length b.lines) b.outs && exit_checked b.lines (length b.lines) b.exit)) h in
    let q = and_inv (lines_checked b.lines 0 b.lines) (vals_checked b.lines (length b.lines) b.outs && exit_checked b.lines (length b.lines) b.exit) p.1 in
    let r = and_inv (vals_checked b.lines (length b.lines) b.outs) (exit_checked b.lines (length b.lines) b.exit) q.1 in
    let within : length b.lines ≤ length b.lines = omega arith in
    let begins : 0 + length b.lines ≡ length b.lines = omega arith in
    let out_in : (v : ℕ) → NamedIn on body (out_at b v) = λ v. outs_in home b on body sunk place live all (length b.lines) b.outs v within r.0 in
    record {
      few = few;
      order = ordered b.lines 0 b.lines q.0;
      named = λ v l. subst (λ n. Below n (out_at b v)) (sym (long 0 b.lines)) (vals_below b.lines (length b.lines) b.outs v r.0);
      kind = same_kind b.exit way;
      same = λ p m small bytes allowed. record { allowed = allowed; outs = λ v l. refl; memory = refl; exit = refl };
      body = closed home b on body sunk place live all 0 b.lines begins q.0;
      exit = exit_in home b on body sunk place live all (length b.lines) b.exit within r.1;
      outs = λ v l k. out_in v;
      apart = λ j e. all.none j;
      sunk = λ u. none_sunk home b on body sunk place live all (rows b);
      all_outs = λ u v l. either_in home b on body sunk place live all (out_at b v) (out_in v);
      places = all.places;
      lasting = subst (NoneLost b place) (sym (kept_both home b on body sunk place live all)) all.lasting;
    }
