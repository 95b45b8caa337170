-- Live sets feed the block of a row.
use Rattle.std.proofs.Common.{◌≡◌, ℕ, zero, suc, ◌+◌, ◌<◌, Bool, true, false, List, [], ◌∷◌, length, get_or, sym, ap, subst, ◌∙◌, refl, arith, ⊎_elim}
use Rattle.std.specs.Prelude.{◌&&◌, ◌||◌, nat_lt, nat_eq, bit_or, if◌then◌else◌}
use Rattle.std.proofs.lemmas.Bool.{cases_eq}
use Rattle.std.proofs.lemmas.Bool.Decides.{nat_tests}
use Rattle.ssa_form.specs.declared.form.Val.{Val}
use Rattle.ssa_form.specs.declared.form.Val.TheVariants.{Param, Line as Of, Num}
use Rattle.ssa_form.specs.declared.form.Line.{Line}
use Rattle.ssa_form.specs.declared.form.Line.TheVariants.{Bin, One, Select, Load, Store, Gone}
use Rattle.ssa_form.specs.declared.form.Exit.{Exit}
use Rattle.ssa_form.specs.declared.form.Exit.TheVariants.{Jump, Cond, Way, Island}
use Rattle.ssa_form.specs.declared.form.Block.{Block}
use Rattle.ssa_form.specs.Agree.{every}
use Rattle.ssa_form.specs.Checked.{val_checked, line_checked, lines_checked, vals_checked, exit_checked, checked}
use Rattle.pass_dead.specs.Names.{vals_of, exit_vals, has, NamedIn, ValsIn}
use Rattle.stub_sink.specs.Splits.{has_fallback}
use Rattle.stub_sink.specs.Serving.{LinesOn, Feeds}
use Rattle.pass_dead.proofs.Bools.{and_left, and_right, either_one, or_left, or_right, both, self_eq, less}
use Rattle.pass_dead.proofs.Least.{checked_vals}
use Rattle.live_flow.specs.declared.row.LiveRow.{LiveRow}
use Rattle.live_flow.specs.Live.{row_at, hands, ways, any_live, AreLive}
use Rattle.live_flow.specs.Rows.{one_of, val_set, vals_set, lines_set, is_own, moved_set, own_set, uses_of, row_of}
use Rattle.stub_sink.proofs.Sets.{has_or}
use Rattle.live_flow.proofs.Bits.{has_all, has_own}
use Rattle.live_flow.proofs.Living.{any_of}

in_left : (a b v : ℕ) → has a v ≡ true → has (bit_or a b) v ≡ true
in_left a b v e = has_or a b v ∙ or_left _ _ e

in_right : (a b v : ℕ) → has b v ≡ true → has (bit_or a b) v ≡ true
in_right a b v e = has_or a b v ∙ or_right (has a v) _ e

module _ (all : List Line) (n : ℕ) (on : ℕ → Bool) where
  val_fed : (v : Val) → val_checked all n v ≡ true → ((w : ℕ) → w < 14 → has (val_set v) w ≡ true → on w ≡ true) → NamedIn on every v
  val_fed (Param v) c h = let l = less v 14 c in h v l (has_own v l)
  val_fed (Of j) c h = refl
  val_fed (Num k) c h = tt

  vals_fed : (vs : List Val) → vals_checked all n vs ≡ true → ((w : ℕ) → w < 14 → has (vals_set vs) w ≡ true → on w ≡ true) → ValsIn on every vs
  vals_fed [] c h = tt
  vals_fed (v ∷ vs) c h = (val_fed v (and_left _ _ c) (λ w l e. h w l (in_left (val_set v) _ w e)), vals_fed vs (and_right (val_checked all n v) _ c) (λ w l e. h w l (in_right (val_set v) _ w e)))

lines_fed : (all : List Line) (on : ℕ → Bool) (n : ℕ) (ls : List Line) → lines_checked all n ls ≡ true → ((w : ℕ) → w < 14 → has (lines_set ls) w ≡ true → on w ≡ true) → LinesOn on ls
lines_fed all on n [] c h = tt
lines_fed all on n (l ∷ ls) c h = (
  vals_fed all n on (vals_of l) (checked_vals all n l (and_left _ _ c)) (λ w k e. h w k (in_left (vals_set (vals_of l)) _ w e)),
  lines_fed all on (suc n) ls (and_right (line_checked all n l) _ c) (λ w k e. h w k (in_right (vals_set (vals_of l)) _ w e)),
)

exit_checked_vals : (all : List Line) (n : ℕ) (x : Exit) → exit_checked all n x ≡ true → vals_checked all n (exit_vals x) ≡ true
exit_checked_vals all n (Jump to) c = refl
exit_checked_vals all n (Cond test taken next) c = both _ _ c refl
exit_checked_vals all n (Way v) c = both _ _ c refl
exit_checked_vals all n (Island len) c = refl

-- ---- outs
out_checked : (all : List Line) (n : ℕ) (os : List Val) (v : ℕ) → vals_checked all n os ≡ true → val_checked all n (get_or os v (Num 0)) ≡ true
out_checked all n [] v c = refl
out_checked all n (o ∷ os) zero c = and_left _ _ c
out_checked all n (o ∷ os) (suc v) c = out_checked all n os v (and_right (val_checked all n o) _ c)

-- the out of v, where it is another register w
moved_has : (n : ℕ) (os : List Val) (v x w : ℕ) → x ≡ n + v → (w ≡ x → ⊥) → get_or os v (Num 0) ≡ Param w → w < 14 → has (moved_set n os) w ≡ true
moved_has n [] v x w q d e l = absurd (cc)
moved_has n (o ∷ os) zero x w q d e l =
    let other : is_own n (Param w) ≡ false = let f : w ≡ n → ⊥ = λ z. d (omega arith) in grind (arith, nat_tests) in
    let at : (if is_own n o then 0 else val_set o) ≡ one_of w = ap (λ y. if is_own n y then 0 else val_set y) e ∙ ap (λ (b : Bool). if b then 0 else one_of w) other in
    in_left _ (moved_set (suc n) os) w (ap (λ s. has s w) at ∙ has_own w l)
moved_has n (o ∷ os) (suc v) x w q d e l = in_right (if is_own n o then 0 else val_set o) _ w (moved_has (suc n) os v x w (omega arith) d e l)

-- the out of v, where it is v itself
own_has : (n : ℕ) (os : List Val) (v x : ℕ) → x ≡ n + v → get_or os v (Num 0) ≡ Param x → x < 14 → has (own_set n os) x ≡ true
own_has n [] v x q e l = absurd (cc)
own_has n (o ∷ os) zero x q e l =
    let is : x ≡ n = omega arith in
    let own : is_own n o ≡ true = ap (is_own n) (e ∙ ap Param is) ∙ self_eq n in
    let at : (if is_own n o then one_of n else 0) ≡ one_of x = ap (λ (b : Bool). if b then one_of n else 0) own ∙ ap one_of (sym is) in
    in_left _ (own_set (suc n) os) x (ap (λ s. has s x) at ∙ has_own x l)
own_has n (o ∷ os) (suc v) x q e l = in_right (if is_own n o then one_of n else 0) _ x (own_has (suc n) os v x (omega arith) e l)

-- ---- what a block reads
abbrev reads : Block → ℕ
reads b = bit_or (lines_set b.lines) (bit_or (vals_set (exit_vals b.exit)) (moved_set 0 b.outs))

uses_has : (x : Exit) (b : Block) (w : ℕ) → w < 14 → x ≡ b.exit → has (reads b) w ≡ true → has (uses_of x b) w ≡ true
uses_has (Jump to) b w l q e = e
uses_has (Cond test taken next) b w l q e = e
uses_has (Way v) b w l q e = e
uses_has (Island len) b w l q e = has_all w l

module _ (rows : List LiveRow) (sets : ℕ → ℕ → Bool) (b : Block) (i : ℕ) (known : List ℕ) (c : checked b ≡ true) (live : AreLive rows sets) (q : row_at rows i ≡ row_of b known) where
  used : (w : ℕ) → w < 14 → has (reads b) w ≡ true → sets i w ≡ true
  used w l e = live.uses i w (ap (λ (r : LiveRow). has r.uses w) q ∙ uses_has b.exit b w l refl e)

  handed : (w : ℕ) → get_or b.outs w (Num 0) ≡ Param w → w < 14 → (any_live sets w (ways rows i) || has_fallback b.exit known) ≡ true → sets i w ≡ true
  handed w p l a =
      let passes : hands rows i w ≡ true = ap (λ (r : LiveRow). has r.passes w) q ∙ own_has 0 b.outs w w (omega arith) p l in
      ⊎_elim
      (λ m. let x = any_of sets w (ways rows i) m in live.passes i w x.0 passes x.1 x.2)
      (λ f. live.fallback i w passes (ap (λ (r : LiveRow). r.fallback) q ∙ f))
      (either_one (any_live sets w (ways rows i)) (has_fallback b.exit known) a)

  out_fed : (v : ℕ) (o : Val) → get_or b.outs v (Num 0) ≡ o → val_checked b.lines (length b.lines) o ≡ true → (any_live sets v (ways rows i) || has_fallback b.exit known) ≡ true → NamedIn (sets i) every o
  out_fed v (Of j) e k a = refl
  out_fed v (Num n) e k a = tt
  out_fed v (Param w) e k a =
      let l = less w 14 k in
      ⊎_elim
      (λ is. handed w (ap (λ x. get_or b.outs x (Num 0)) is ∙ e) l (ap (λ x. any_live sets x (ways rows i) || has_fallback b.exit known) is ∙ a))
      (λ ne. used w l (in_right (lines_set b.lines) _ w (in_right (vals_set (exit_vals b.exit)) _ w (moved_has 0 b.outs v v w (omega arith) ne e l))))
      (cases_eq w v)

  pub feeds : Feeds (sets i) (λ v. any_live sets v (ways rows i)) (has_fallback b.exit known) b
  feeds =
      let r = and_right (nat_eq (length b.outs) 14) _ c in
      let s = and_right (lines_checked b.lines 0 b.lines) _ r in
      record {
        lines = lines_fed b.lines (sets i) 0 b.lines (and_left _ _ r) (λ w l e. used w l (in_left (lines_set b.lines) _ w e));
        exit = vals_fed b.lines (length b.lines) (sets i) (exit_vals b.exit) (exit_checked_vals b.lines (length b.lines) b.exit (and_right (vals_checked b.lines (length b.lines) b.outs) _ s)) (λ w l e. used w l (in_right (lines_set b.lines) _ w (in_left (vals_set (exit_vals b.exit)) _ w e)));
        outs = λ v l a. out_fed v (get_or b.outs v (Num 0)) refl (out_checked b.lines (length b.lines) b.outs v (and_left _ _ s)) a;
      }
