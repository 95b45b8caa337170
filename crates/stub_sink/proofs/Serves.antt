-- The split of a block serves.
use Rattle.std.proofs.Common.{◌≡◌, ℕ, suc, ◌+◌, ◌<◌, Bool, true, false, List, [], ◌∷◌, length, get_or, sym, ap, subst, ◌∙◌, refl, arith, ⊎_elim}
use Rattle.std.specs.Prelude.{◌&&◌, ◌||◌, not, nat_eq}
use Rattle.ssa_form.specs.declared.form.Val.{Val}
use Rattle.ssa_form.specs.declared.form.Val.TheVariants.{Num}
use Rattle.ssa_form.specs.declared.form.Line.{Line}
use Rattle.ssa_form.specs.declared.form.Line.TheVariants.{Gone}
use Rattle.ssa_form.specs.declared.form.Block.{Block}
use Rattle.ssa_form.specs.Agree.{every}
use Rattle.ssa_form.specs.Value.{numbered}
use Rattle.ssa_form.specs.Same.{rows}
use Rattle.ssa_form.specs.Checked.{has_result, line_checked, lines_checked, vals_checked, checked}
use Rattle.pass_dead.specs.Names.{vals_of, exit_vals, val_names, vals_name, outs_name, is_store, NamedIn, IsClosed, IsWithin, IsLeast}
use Rattle.pass_dead.specs.Needed.{always, needed, roots_of, NeededIsLeast}
use Rattle.stub_sink.specs.Splits.{is_load, fall_of, body_of, sunk_of}
use Rattle.stub_sink.specs.Serving.{either, Closed, IsQuiet, AllSunk, IsSplit, LinesOn, Feeds}
use Rattle.pass_dead.proofs.Bools.{and_left, and_right, both, either_one, or_left, or_right}
use Rattle.pass_dead.proofs.Least.{val_in, vals_in, vals_wider, val_on, vals_on, checked_vals, named_earlier}
use Rattle.pass_dead.proofs.Stores.{HasStores, has_stores, outs_named}

clash : (b : Bool) → b ≡ true → b ≡ false → ⊥
clash b e g = cc

outs_any : (n : ℕ) (os : List Val) → IsWithin (outs_name every n os) (vals_name os)
outs_any n [] j e = e
outs_any n (x ∷ os) j e = ⊎_elim (λ l. or_left _ _ (and_right (every n) _ l)) (λ r. or_right (val_names x j) _ (outs_any (suc n) os j r)) (either_one (every n && val_names x j) _ e)

on_closed : (on keep : ℕ → Bool) (n : ℕ) (ls : List Line) → LinesOn on ls → IsClosed every keep n ls → HasStores keep n ls → Closed on keep (numbered n ls)
on_closed on keep n [] o h s = tt
on_closed on keep n (l ∷ ls) o h s = (s.0, (λ e. vals_on on keep (vals_of l) o.0 (h.0 e)), on_closed on keep (suc n) ls o.1 h.1 s.1)

-- ---- named lines have a result
module _ (all : List Line) where
  results_closed : (n : ℕ) (ls : List Line) → lines_checked all n ls ≡ true → IsClosed every (λ j. has_result (get_or all j Gone)) n ls
  results_closed n [] c = tt
  results_closed n (l ∷ ls) c = ((λ e. vals_in _ (vals_of l) (λ j g. (named_earlier all n (vals_of l) j (checked_vals all n l (and_left _ _ c)) g).1)), results_closed (suc n) ls (and_right (line_checked all n l) _ c))

not_true : (b : Bool) → (b ≡ true → ⊥) → b ≡ false
not_true true h = absurd (h refl)
not_true false h = refl

in_either : (f b : Bool) → f ≡ true → (b || (f && not b)) ≡ true
in_either true true e = refl
in_either true false e = refl
in_either false b e = absurd (cc)

not_both : (f b : Bool) → b ≡ true → (f && not b) ≡ false
not_both true true e = refl
not_both false b e = refl
not_both true false e = absurd (cc)

not_of : (b : Bool) → not b ≡ true → b ≡ false
not_of false e = refl
not_of true e = absurd (cc)

none_without : (unknown : Bool) (x y : Bool) → unknown ≡ false → ((unknown && x) && y) ≡ false
none_without false x y e = refl
none_without true x y e = absurd (cc)

module _ (law : NeededIsLeast) (b : Block) (c : checked b ≡ true) (on live : ℕ → Bool) where
  lines_ok : lines_checked b.lines 0 b.lines ≡ true
  lines_ok = and_left _ _ (and_right (nat_eq (length b.outs) 14) _ c)

  outs_ok : vals_checked b.lines (length b.lines) b.outs ≡ true
  outs_ok = and_left _ _ (and_right (lines_checked b.lines 0 b.lines) _ (and_right (nat_eq (length b.outs) 14) _ c))

  for_outs : IsLeast b.lines (outs_name every 0 b.outs) (needed b.lines (outs_name every 0 b.outs))
  for_outs = law b _ c

  all_sunk : (keep fall : ℕ → Bool) (n : ℕ) (ls : List Line) → ((j : ℕ) → fall j ≡ true → keep j ≡ false → IsQuiet (get_or b.lines j Gone)) → ((k j : ℕ) → j ≡ n + k → get_or b.lines j Gone ≡ get_or ls k Gone) → LinesOn on ls → IsClosed every fall n ls → AllSunk on keep (λ j. fall j && not (keep j)) (numbered n ls)
  all_sunk keep fall n [] q i o h = tt
  all_sunk keep fall n (l ∷ ls) q i o h = (
    (λ e. (
      subst IsQuiet (i 0 n (omega arith)) (q n (and_left _ _ e) (not_of (keep n) (and_right (fall n) _ e))),
      vals_on on _ (vals_of l) o.0 (vals_wider every fall _ (vals_of l) (λ j g. in_either (fall j) (keep j) g) (h.0 (and_left _ _ e))),
    )),
    all_sunk keep fall (suc n) ls q (λ k j e. i (suc k) j (omega arith)) o.1 h.1,
  )

  outs_result : (j : ℕ) → needed b.lines (outs_name every 0 b.outs) j ≡ true → has_result (get_or b.lines j Gone) ≡ true
  outs_result j e = for_outs.least (λ i. has_result (get_or b.lines i Gone)) (λ i g. (named_earlier b.lines (length b.lines) b.outs i outs_ok (outs_any 0 b.outs i g)).1) (results_closed b.lines 0 b.lines lines_ok) j e

-- the split serves, for any sets that feed it
pub split_holds : NeededIsLeast → (b : Block) (on live : ℕ → Bool) (unknown : Bool) → checked b ≡ true → Feeds on live unknown b → IsSplit on live unknown b (body_of live unknown b) (sunk_of live unknown b)
split_holds law b on live unknown c f =
    let fall : ℕ → Bool = fall_of unknown b in
    let body : ℕ → Bool = body_of live unknown b in
    let least : IsLeast b.lines (λ j. roots_of live b j || (fall j && is_load (get_or b.lines j Gone))) body = law b _ c in
    let stores : (j : ℕ) → is_store (get_or b.lines j Gone) ≡ true → body j ≡ true = λ j e. least.has j (or_left _ _ (or_left _ _ (or_left _ _ e))) in
    record {
      runs = on_closed on body 0 b.lines f.lines least.closed (has_stores body 0 b.lines (λ k j q e. let z : k ≡ j = omega arith in stores j (ap (λ i. is_store (get_or b.lines i Gone)) (sym z) ∙ e)));
      exit = vals_on on body (exit_vals b.exit) f.exit (vals_in body (exit_vals b.exit) (λ j e. least.has j (or_left _ _ (or_left _ _ (or_right (is_store (get_or b.lines j Gone)) _ e)))));
      outs = λ v l a. val_on on body (get_or b.outs v (Num 0)) (f.outs v l (or_left _ _ a)) (val_in body (get_or b.outs v (Num 0)) (λ j e. least.has j (or_left _ _ (or_right (always b j) _ (outs_named live 0 b.outs v v j (omega arith) a e)))));
      apart = λ j e. not_both (fall j) (body j) e;
      none = λ u j. none_without unknown _ _ u;
      moves = λ u. moving u;
      all_outs = λ u v l. ending u v l;
    }
  where
    moving : unknown ≡ true → AllSunk on (body_of live unknown b) (sunk_of live unknown b) (rows b)
    moving u =
        let least = law b (λ j. roots_of live b j || (fall_of unknown b j && is_load (get_or b.lines j Gone))) c in
        let closed : IsClosed every (fall_of unknown b) 0 b.lines = still u in
        all_sunk law b c on live (body_of live unknown b) (fall_of unknown b) 0 b.lines
        (λ j g k. record {
          result = outs_result law b c on live j (and_right unknown _ g);
          no_load = not_true _ (λ e. clash (body_of live unknown b j) (least.has j (or_right (roots_of live b j) _ (both _ _ g e))) k);
        })
        (λ k j e. let z : j ≡ k = omega arith in ap (λ i. get_or b.lines i Gone) z)
        f.lines closed
      where
        still : unknown ≡ true → IsClosed every (fall_of unknown b) 0 b.lines
        still u = let P : Bool → Type 0 = λ x. IsClosed every (fall_of x b) 0 b.lines in subst P (sym u) (for_outs law b c on live).closed

    ending : unknown ≡ true → (v : ℕ) → v < 14 → NamedIn on (either (body_of live unknown b) (sunk_of live unknown b)) (get_or b.outs v (Num 0))
    ending u v l = val_on on _ (get_or b.outs v (Num 0)) (f.outs v l (or_right (live v) _ u)) (val_in _ (get_or b.outs v (Num 0)) (λ j e. in_either (fall_of unknown b j) (body_of live unknown b j) (both _ _ u ((for_outs law b c on live).has j (outs_named every 0 b.outs v v j (omega arith) refl e)))))
