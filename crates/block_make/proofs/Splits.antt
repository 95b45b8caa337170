-- What a checked block's lines name, and where what they name is held.
use Rattle.std.proofs.Common.{◌≡◌, ℕ, zero, suc, ◌+◌, ◌^◌, ◌<◌, ◌≤◌, Bool, true, false, List, [], ◌∷◌, length, map, get_or, refl, sym, ap, ◌∙◌, subst, arith, ◌⊎◌, inl, inr}
use Rattle.std.specs.Prelude.{◌&&◌, ◌||◌, nat_lt, nat_eq, if◌then◌else◌, Option, Some, None, slice_get}
use Rattle.std.proofs.lemmas.Bool.{and_from, and_parts, cases_Bool, ltb-true, eqb-true}
use Rattle.std.proofs.lemmas.Option.{slice_get-get_or}
use Rattle.ssa_form.specs.declared.form.TheConstants.{REGISTERS}
use Rattle.ssa_form.specs.declared.form.Val.{Val}
use Rattle.ssa_form.specs.declared.form.Val.TheVariants as val
use Rattle.ssa_form.specs.declared.form.Line.{Line}
use Rattle.ssa_form.specs.declared.form.Line.TheVariants.{Bin, One, Select, Load, Store, Gone}
use Rattle.ssa_form.specs.declared.form.Exit.{Exit}
use Rattle.ssa_form.specs.declared.form.Exit.TheVariants.{Jump, Cond, Way, Island}
use Rattle.ssa_form.specs.declared.form.Block.{Block}
use Rattle.ssa_form.specs.Checked.{has_result, val_checked, line_checked, lines_checked, vals_checked, exit_checked, checked}
use Rattle.ssa_form.specs.Same.{IsWord, OnWords, AllOnWords}
use Rattle.par_moves.specs.declared.locations.Place.{Place}
use Rattle.reg_place.specs.Places.{IsNamed, Names, is_in, placed}
use Rattle.par_moves.specs.Locations.{InRange, IsFit}
use Rattle.par_moves.specs.Homes.{home_of}
use Rattle.reg_place.specs.Laws.{HomesLie}
use Rattle.emit_ops.specs.Templates.{held_by}
use Rattle.emit_ops.specs.Placed.{place_or, place_at, IsPlace, HasPlace, IsHeld, AreHeld}
use Rattle.ssa_form.specs.declared.form.Split.{Split}
use Rattle.block_make.specs.Prepared.{SpellsFew, IsFound, is_done, ArePlaced}

-- ---- names in a checked block

lines_nth : (ls : List Line) (n : ℕ) (rest : List Line) (i : ℕ) → lines_checked ls n rest ≡ true → i < length rest → line_checked ls (n + i) (get_or rest i Gone) ≡ true
lines_nth ls n [] i c l = absurd (omega arith)
lines_nth ls n (x ∷ rest) zero c l =
    let e : n ≡ n + 0 = omega arith in
    subst (λ (k : ℕ). line_checked ls k x ≡ true) e (and_parts (line_checked ls n x) (lines_checked ls (suc n) rest) c).0
lines_nth ls n (x ∷ rest) (suc i) c l =
    let e : suc n + i ≡ n + suc i = omega arith in
    subst (λ (k : ℕ). line_checked ls k (get_or rest i Gone) ≡ true) e (lines_nth ls (suc n) rest i (and_parts (line_checked ls n x) (lines_checked ls (suc n) rest) c).1 (omega arith))

vals_nth : (ls : List Line) (n : ℕ) (vs : List Val) (i : ℕ) → vals_checked ls n vs ≡ true → i < length vs → val_checked ls n (get_or vs i (val.Num 0)) ≡ true
vals_nth ls n [] i c l = absurd (omega arith)
vals_nth ls n (x ∷ vs) zero c l = (and_parts (val_checked ls n x) (vals_checked ls n vs) c).0
vals_nth ls n (x ∷ vs) (suc i) c l = vals_nth ls n vs i (and_parts (val_checked ls n x) (vals_checked ls n vs) c).1 (omega arith)

pub record IsWhole (b : Block) : Type 0 where
  pub count : length b.outs ≡ REGISTERS
  pub each : lines_checked b.lines 0 b.lines ≡ true
  pub lines : (i : ℕ) → i < length b.lines → line_checked b.lines i (get_or b.lines i Gone) ≡ true
  pub outs : (v : ℕ) → v < length b.outs → val_checked b.lines (length b.lines) (get_or b.outs v (val.Num 0)) ≡ true
  pub exit : exit_checked b.lines (length b.lines) b.exit ≡ true

pub whole : (b : Block) → checked b ≡ true → IsWhole b
whole b c =
    let p = and_parts (nat_eq (length b.outs) REGISTERS) (lines_checked b.lines 0 b.lines && (vals_checked b.lines (length b.lines) b.outs && exit_checked b.lines (length b.lines) b.exit)) c in
    let q = and_parts (lines_checked b.lines 0 b.lines) (vals_checked b.lines (length b.lines) b.outs && exit_checked b.lines (length b.lines) b.exit) p.1 in
    let r = and_parts (vals_checked b.lines (length b.lines) b.outs) (exit_checked b.lines (length b.lines) b.exit) q.1 in
    record {
      count = eqb-true (length b.outs) REGISTERS p.0;
      each = q.0;
      lines = λ i l. let z : 0 + i ≡ i = omega arith in subst (λ (k : ℕ). line_checked b.lines k (get_or b.lines i Gone) ≡ true) z (lines_nth b.lines 0 b.lines i q.0 l);
      outs = λ v l. vals_nth b.lines (length b.lines) b.outs v r.0 l;
      exit = r.1;
    }

-- ---- places

pub found_fits : HomesLie → (places : List (Option Place)) (v : Val) → IsFound places v → IsFit (held_by home_of (place_at places) v)
found_fits homes places (val.Param v) h = homes.fit v h
found_fits homes places (val.Line j) h = h
found_fits homes places (val.Num n) h = h

module _ (b : Block) (s : Split) (places : List (Option Place)) (h : ArePlaced b s places) where
  place_is : (j : ℕ) → j < length b.lines → slice_get places j ≡ Some (get_or (placed b s) j None)
  place_is j l =
      let n = h.each.count in
      ap (λ (xs : List (Option Place)). slice_get xs j) h.given ∙ slice_get-get_or (placed b s) j None (omega (arith, l, n))

  has_place : (j : ℕ) → j < length b.lines → is_done s j ≡ true → has_result (get_or b.lines j Gone) ≡ true → HasPlace places j
  has_place j l d r =
      let few = h.few in
      let e = h.each.some j (and_from (is_done s j) (has_result (get_or b.lines j Gone)) d r) in
      let k = e.1 in
      subst IsPlace (sym (place_is j l ∙ ap Some e.2)) (h.lie.fit e.0 (omega (arith, few, k)), h.lie.kept e.0)

  held : (n : ℕ) (v : Val) → n ≤ length b.lines → val_checked b.lines n v ≡ true → IsWord v → ((j : ℕ) → IsNamed v j → is_done s j ≡ true) → IsHeld places v
  held n (val.Param v) l c w d = ltb-true v REGISTERS c
  held n (val.Line j) l c w d =
      let q = and_parts (nat_lt j n) (has_result (get_or b.lines j Gone)) c in
      let m = ltb-true j n q.0 in
      has_place j (omega arith) (d j refl) q.1
  held n (val.Num k) l c w d = w

  line_held : (i : ℕ) (l : Line) → i < length b.lines → get_or b.lines i Gone ≡ l → line_checked b.lines i l ≡ true → OnWords l → is_done s i ≡ true → ((j : ℕ) → Names l j → is_done s j ≡ true) → AreHeld places i l
  line_held i (Bin op x y) m e c w t d =
      let q = and_parts (val_checked b.lines i x) (val_checked b.lines i y) c in
      (held i x (omega arith) q.0 w.0 (λ j n. d j (inl n)), held i y (omega arith) q.1 w.1 (λ j n. d j (inr n)), has_place i m t (ap has_result e))
  line_held i (One op x) m e c w t d = (held i x (omega arith) c w d, has_place i m t (ap has_result e))
  line_held i (Select g x y) m e c w t d =
      let q = and_parts (val_checked b.lines i g) (val_checked b.lines i x && val_checked b.lines i y) c in
      let r = and_parts (val_checked b.lines i x) (val_checked b.lines i y) q.1 in (
        held i g (omega arith) q.0 w.0 (λ j n. d j (inl n)),
        held i x (omega arith) r.0 w.1 (λ j n. d j (inr (inl n))),
        held i y (omega arith) r.1 w.2 (λ j n. d j (inr (inr n))),
        has_place i m t (ap has_result e),
      )
  line_held i (Load w at) m e c k t d = (held i at (omega arith) c k d, has_place i m t (ap has_result e))
  line_held i (Store w at x) m e c k t d =
      let q = and_parts (val_checked b.lines i at) (val_checked b.lines i x) c in
      (held i at (omega arith) q.0 k.0 (λ j n. d j (inl n)), held i x (omega arith) q.1 k.1 (λ j n. d j (inr n)))
  line_held i Gone m e c w t d = tt

  words_nth : (ls : List Line) (i : ℕ) → i < length ls → AllOnWords ls → OnWords (get_or ls i Gone)
  words_nth [] i l w = absurd (omega arith)
  words_nth (x ∷ ls) zero l w = w.0
  words_nth (x ∷ ls) (suc i) l w = words_nth ls i (omega arith) w.1

  -- a line that is done
  pub lines_held : (i : ℕ) → i < length b.lines → is_done s i ≡ true → AreHeld places i (get_or b.lines i Gone)
  lines_held i l d = line_held i (get_or b.lines i Gone) l refl ((whole b h.whole).lines i l) (words_nth b.lines i l h.words.lines) d (λ j n. h.split.together i j l d n)

  -- ---- what outs and exit name is found, also where the line is not done on any way

  -- the place of each line, or what stands for it, is there
  in_range : (j : ℕ) → j < length b.lines → InRange (place_at places j)
  in_range j l = either (cases_Bool (is_done s j && has_result (get_or b.lines j Gone)))
    where
      either : (((is_done s j && has_result (get_or b.lines j Gone)) ≡ true) ⊎ ((is_done s j && has_result (get_or b.lines j Gone)) ≡ false)) → InRange (place_at places j)
      either (inl d) =
          let few = h.few in
          let e = h.each.some j d in
          let k = e.1 in
          subst (λ (o : Option (Option Place)). InRange (place_or o)) (sym (place_is j l ∙ ap Some e.2)) (h.lie.fit e.0 (omega (arith, few, k)))
      either (inr d) = subst (λ (o : Option (Option Place)). InRange (place_or o)) (sym (place_is j l ∙ ap Some (h.each.none j d))) (omega arith)

  found : (n : ℕ) (v : Val) → n ≤ length b.lines → val_checked b.lines n v ≡ true → IsWord v → IsFound places v
  found n (val.Param v) l c w = ltb-true v REGISTERS c
  found n (val.Line j) l c w =
      let m = ltb-true j n (and_parts (nat_lt j n) (has_result (get_or b.lines j Gone)) c).0 in
      in_range j (omega (arith, l, m))
  found n (val.Num k) l c w = w

  abbrev pub ExitFound : Exit → Type 0
  ExitFound (Jump to) = Unit {0}
  ExitFound (Cond test taken next) = IsFound places test
  ExitFound (Way v) = IsFound places v
  ExitFound (Island len) = Unit {0}

  one_found : (e : Exit) → exit_checked b.lines (length b.lines) e ≡ true → SpellsFew e → ExitFound e
  one_found (Jump to) c f = tt
  one_found (Cond test taken next) c f = found (length b.lines) test (omega arith) c f
  one_found (Way v) c f = found (length b.lines) v (omega arith) c f
  one_found (Island len) c f = tt

  pub exit_found : ExitFound b.exit
  exit_found = one_found b.exit (whole b h.whole).exit h.exit

  pub outs_found : (v : ℕ) → v < length b.outs → IsFound places (get_or b.outs v (val.Num 0))
  outs_found v l = found (length b.lines) (get_or b.outs v (val.Num 0)) (omega arith) ((whole b h.whole).outs v l) (h.words.outs v)
