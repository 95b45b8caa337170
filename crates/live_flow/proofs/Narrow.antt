-- Only registers are in sets.
use Rattle.std.proofs.Common.{◌≡◌, ℕ, zero, suc, ◌+◌, ◌^◌, ◌<◌, ◌≤◌, Bool, true, false, List, [], ◌∷◌, length, get_or, sym, ap, ◌∙◌, refl, arith, ⊎_elim}
use Rattle.std.specs.Prelude.{◌&&◌, ◌||◌, ◌==◌, bit_or, nat_lt, if◌then◌else◌}
use Rattle.std.proofs.lemmas.Bool.{cases_lt, ltb-true}
use Rattle.std.proofs.lemmas.Nat.Bits.{bit_at-pow_other, bit_at_ones_above}
use Rattle.ssa_form.specs.declared.form.Val.{Val}
use Rattle.ssa_form.specs.declared.form.Val.TheVariants.{Param, Line as Of, Num}
use Rattle.ssa_form.specs.declared.form.Line.{Line}
use Rattle.ssa_form.specs.declared.form.Exit.{Exit}
use Rattle.ssa_form.specs.declared.form.Exit.TheVariants.{Jump, Cond, Way, Island}
use Rattle.ssa_form.specs.declared.form.Block.{Block}
use Rattle.pass_dead.specs.Names.{vals_of, exit_vals, has}
use Rattle.stub_sink.proofs.Sets.{has_or, has_none}
use Rattle.live_flow.specs.declared.row.LiveRow.{LiveRow}
use Rattle.live_flow.specs.Rows.{one_of, val_set, vals_set, lines_set, is_own, moved_set, own_set, uses_of}
use Rattle.live_flow.specs.Live.{row_at, hands, ways, any_live, live_after, is_live, gathered, sets_from, live_in, AreLive}
use Rattle.live_flow.specs.Laws.{IsNarrow, AreNarrow, EachRowIsNarrow, SetsAreSmall, NumbersAreClosed}
use Rattle.live_flow.proofs.Bits.{gathered_below}
use Rattle.live_flow.proofs.Numbers.{numbers}
use Rattle.live_flow.proofs.Living.{none_past, are_live}

-- ---- rows

or_narrow : (a b : ℕ) → IsNarrow a → IsNarrow b → IsNarrow (bit_or a b)
or_narrow a b f g v l = has_or a b v ∙ ap (λ x. x || has b v) (f v l) ∙ g v l

none_narrow : IsNarrow 0
none_narrow v l = has_none v

one_narrow : (w : ℕ) → IsNarrow (one_of w)
one_narrow w v l = go (nat_lt w 14) refl
  where
    go : (b : Bool) → nat_lt w 14 ≡ b → has (if b then 2 ^ w else 0) v ≡ false
    go true e = let k = ltb-true w 14 e in ap (λ x. x == 1) (bit_at-pow_other w v (λ z. absurd (omega (arith, k, l, z))))
    go false e = has_none v

val_narrow : (x : Val) → IsNarrow (val_set x)
val_narrow (Param w) = one_narrow w
val_narrow (Of j) = none_narrow
val_narrow (Num n) = none_narrow

vals_narrow : (xs : List Val) → IsNarrow (vals_set xs)
vals_narrow [] = none_narrow
vals_narrow (x ∷ xs) = or_narrow (val_set x) (vals_set xs) (val_narrow x) (vals_narrow xs)

lines_narrow : (ls : List Line) → IsNarrow (lines_set ls)
lines_narrow [] = none_narrow
lines_narrow (l ∷ ls) = or_narrow (vals_set (vals_of l)) (lines_set ls) (vals_narrow (vals_of l)) (lines_narrow ls)

narrow_if : (b : Bool) (x y : ℕ) → IsNarrow x → IsNarrow y → IsNarrow (if b then x else y)
narrow_if true x y f g = f
narrow_if false x y f g = g

moved_narrow : (n : ℕ) (os : List Val) → IsNarrow (moved_set n os)
moved_narrow n [] = none_narrow
moved_narrow n (o ∷ os) = or_narrow (if is_own n o then 0 else val_set o) (moved_set (suc n) os) (narrow_if (is_own n o) 0 (val_set o) none_narrow (val_narrow o)) (moved_narrow (suc n) os)

own_narrow : (n : ℕ) (os : List Val) → IsNarrow (own_set n os)
own_narrow n [] = none_narrow
own_narrow n (o ∷ os) = or_narrow (if is_own n o then one_of n else 0) (own_set (suc n) os) (narrow_if (is_own n o) (one_of n) 0 (one_narrow n) none_narrow) (own_narrow (suc n) os)

read_narrow : (b : Block) → IsNarrow (bit_or (lines_set b.lines) (bit_or (vals_set (exit_vals b.exit)) (moved_set 0 b.outs)))
read_narrow b = or_narrow (lines_set b.lines) (bit_or (vals_set (exit_vals b.exit)) (moved_set 0 b.outs)) (lines_narrow b.lines)
    (or_narrow (vals_set (exit_vals b.exit)) (moved_set 0 b.outs) (vals_narrow (exit_vals b.exit)) (moved_narrow 0 b.outs))

uses_narrow : (x : Exit) (b : Block) → IsNarrow (uses_of x b)
uses_narrow (Jump to) b = read_narrow b
uses_narrow (Cond test taken next) b = read_narrow b
uses_narrow (Way v) b = read_narrow b
uses_narrow (Island len) b = λ v l. ap (λ x. x == 1) (bit_at_ones_above 14 v l)

pub row_narrow : EachRowIsNarrow
row_narrow b known = (uses_narrow b.exit b, own_narrow 0 b.outs)

-- ---- their sets

module _ (rows : List LiveRow) (h : AreNarrow rows) where
  live_narrow : (n i v : ℕ) → 14 ≤ v → live_after n rows i v ≡ false
  live_narrow zero i v l =
      let r = row_at rows i in
      ap (λ x. x || (has r.passes v && r.fallback)) ((h i).0 v l) ∙ ap (λ x. x && r.fallback) ((h i).1 v l)
  live_narrow (suc n) i v l =
      let more = any_live (live_after n rows) v (ways rows i) in
      ap (λ x. x || (hands rows i v && more)) (live_narrow n i v l) ∙ ap (λ x. x && more) ((h i).1 v l)

  top_none : (set : ℕ → Bool) (k : ℕ) → set k ≡ false → gathered set (suc k) ≡ gathered set k
  top_none set k e = ap (λ (b : Bool). (if b then 2 ^ k else 0) + gathered set k) e ∙ omega arith

  from_small : (sets : ℕ → ℕ → Bool) (n : ℕ) (rs : List LiveRow) (k : ℕ) → ((i v : ℕ) → 14 ≤ v → sets i v ≡ false) → get_or (sets_from sets n rs) k 0 < 2 ^ 14
  from_small sets n [] k f = omega arith
  from_small sets n (r ∷ rs) zero f =
      let e : gathered (sets n) 16 ≡ gathered (sets n) 14 = top_none (sets n) 15 (f n 15 (omega arith)) ∙ top_none (sets n) 14 (f n 14 (omega arith)) in
      let l = gathered_below (sets n) 14 in
      omega (arith, e, l)
  from_small sets n (r ∷ rs) (suc k) f = from_small sets (suc n) rs k f

  small : (k : ℕ) → get_or (live_in rows) k 0 < 2 ^ 14
  small k = from_small (is_live rows) 0 rows k (λ i v l. live_narrow (length rows) i v l)

  -- ---- as numbers

  abbrev set : ℕ → ℕ → Bool
  set i v = has (get_or (live_in rows) i 0) v

  past_none : (sets : ℕ → ℕ → Bool) (n : ℕ) (rs : List LiveRow) (k : ℕ) → length rs ≤ k → get_or (sets_from sets n rs) k 0 ≡ 0
  past_none sets n [] k l = refl
  past_none sets n (r ∷ rs) zero l = absurd (omega (arith, l))
  past_none sets n (r ∷ rs) (suc k) l = past_none sets (suc n) rs k (omega (arith, l))

  clash : (b : Bool) → b ≡ true → b ≡ false → ⊥
  clash b e g = cc

  -- what names a register, at a row
  here : (i v : ℕ) → has (row_at rows i).uses v ≡ true → (i < length rows) × (v < 14)
  here i v e = (
    ⊎_elim (λ l. l) (λ g. absurd (clash (has (row_at rows i).uses v) e (ap (λ (r : LiveRow). has r.uses v) (none_past rows rows i g) ∙ has_none v))) (cases_lt i (length rows)),
    ⊎_elim (λ l. l) (λ g. absurd (clash (has (row_at rows i).uses v) e ((h i).0 v g))) (cases_lt v 14),
  )

  handed : (i v : ℕ) → hands rows i v ≡ true → (i < length rows) × (v < 14)
  handed i v e = (
    ⊎_elim (λ l. l) (λ g. absurd (clash (hands rows i v) e (ap (λ (r : LiveRow). has r.passes v) (none_past rows rows i g) ∙ has_none v))) (cases_lt i (length rows)),
    ⊎_elim (λ l. l) (λ g. absurd (clash (hands rows i v) e ((h i).1 v g))) (cases_lt v 14),
  )

  forth : (i v : ℕ) → (i < length rows) × (v < 14) → is_live rows i v ≡ true → set i v ≡ true
  forth i v p e = numbers rows i v p.0 (let l = p.1 in omega (arith, l)) ∙ e

  back : (i v : ℕ) → v < 14 → set i v ≡ true → is_live rows i v ≡ true
  back i v l e = ⊎_elim
      (λ k. sym (numbers rows i v k (omega (arith, l))) ∙ e)
      (λ g. absurd (clash (set i v) e (ap (λ n. has n v) (past_none (is_live rows) 0 rows i g) ∙ has_none v)))
      (cases_lt i (length rows))

  closed : AreLive rows set
  closed =
      let c = are_live rows in
      record {
        uses = λ i v e. forth i v (here i v e) (c.uses i v e);
        fallback = λ i v p f. forth i v (handed i v p) (c.fallback i v p f);
        passes = λ i v j p m e. forth i v (handed i v p) (c.passes i v j p m (back j v (handed i v p).1 e));
      }

pub sets_small : SetsAreSmall
sets_small rows k h = small rows h k

pub numbers_closed : NumbersAreClosed
numbers_closed rows h = closed rows h
