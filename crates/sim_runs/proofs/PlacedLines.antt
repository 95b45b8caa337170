-- The places of a split's lines serve.
use Rattle.std.proofs.Common.{◌≡◌, ℕ, zero, suc, ◌+◌, ◌-◌, ◌<◌, ◌≤◌, ◌⊎◌, Bool, true, false, cond, ◌&&◌, List, [], ◌∷◌, ◌++◌, length, get_or, Option, Some, None, refl, inl, inr, sym, ap, ◌∙◌, subst, arith, ⊎_elim, append_assoc}
use Rattle.std.specs.Prelude.{nat_lt, nat_eq, filter, ◌||◌, if◌then◌else◌, slice_get, IsTrue}
use Rattle.std.proofs.lemmas.Bool.{both_ways, eq-eqb, or_left, or_right, and_from, and_parts, cases_Bool, true≢false}
use Rattle.std.proofs.lemmas.Option.{same_Some}
use Rattle.ssa_form.specs.declared.form.TheConstants.{REGISTERS}
use Rattle.ssa_form.specs.declared.form.Val.{Val}
use Rattle.ssa_form.specs.declared.form.Val.TheVariants.{Param, Line as Named, Num}
use Rattle.ssa_form.specs.declared.form.Line.{Line}
use Rattle.ssa_form.specs.declared.form.Line.TheVariants.{Bin, One, Select, Load, Store, Gone}
use Rattle.ssa_form.specs.declared.form.Exit.{Exit}
use Rattle.ssa_form.specs.declared.form.Exit.TheVariants.{Jump, Cond, Way, Island}
use Rattle.ssa_form.specs.declared.form.Block.{Block}
use Rattle.ssa_form.specs.declared.form.Split.{Split}
use Rattle.ssa_form.specs.Agree.{every}
use Rattle.ssa_form.specs.Checked.{checked, has_result, val_checked, line_checked, lines_checked, vals_checked, exit_checked}
use Rattle.ssa_form.specs.Same.{rows}
use Rattle.ssa_form.specs.Value.{numbered}
use Rattle.pass_dead.specs.Names.{vals_of, exit_vals, val_names, vals_name, outs_name}
use Rattle.par_moves.specs.declared.locations.Place.{Place}
use Rattle.par_moves.specs.declared.locations.Place.TheVariants.{Reg, Slot}
use Rattle.par_moves.specs.Homes.{home_of}
use Rattle.par_moves.specs.Locations.{same_place, InRange, IsKept as IsNoScratch}
use Rattle.par_moves.proofs.Membership.{In, filter_in}
use Rattle.reg_place.specs.Laws.{place_at as entry_at, OfSplits, AreEntries, ArePlaced, EachPlaced, HomesLie, NoneLost as NoneGiven, PlacesLie}
use Rattle.reg_place.specs.Places.{IsSplit, is_in, order, at_end, is_used, lines_in, place_of, placed}
use Rattle.emit_ops.specs.Placed.{place_or, place_at}
use Rattle.emit_ops.specs.Sequences.{kept}
use Rattle.sim_runs.specs.Coding.{out_at, HasResult, NamesIt, LineNames, ExitNames, EndNames, NamedLater, IsKept, NoneLost, IsPlace}
use Rattle.sim_runs.specs.PlacedLines.{AreServing, PlacesServe}
use Rattle.sim_runs.proofs.Known.{and_inv}

abbrev Step : Type 0
Step = ℕ × Line

-- ---- what names a line uses it

val_used : (i : ℕ) (v : Val) → NamesIt i v → val_names v i ≡ true
val_used i (Param v) h = absurd h
val_used i (Named j) h = eq-eqb i j (sym h)
val_used i (Num n) h = absurd h

line_used : (i : ℕ) (l : Line) → LineNames i l → vals_name (vals_of l) i ≡ true
line_used i (Bin op a b) (inl h) = or_left (val_names a i) _ (val_used i a h)
line_used i (Bin op a b) (inr h) = or_right (val_names a i) _ (or_left (val_names b i) _ (val_used i b h))
line_used i (One op a) h = or_left (val_names a i) _ (val_used i a h)
line_used i (Select c a b) (inl h) = or_left (val_names c i) _ (val_used i c h)
line_used i (Select c a b) (inr (inl h)) = or_right (val_names c i) _ (or_left (val_names a i) _ (val_used i a h))
line_used i (Select c a b) (inr (inr h)) = or_right (val_names c i) _ (or_right (val_names a i) _ (or_left (val_names b i) _ (val_used i b h)))
line_used i (Load w at) h = or_left (val_names at i) _ (val_used i at h)
line_used i (Store w at a) (inl h) = or_left (val_names at i) _ (val_used i at h)
line_used i (Store w at a) (inr h) = or_right (val_names at i) _ (or_left (val_names a i) _ (val_used i a h))
line_used i Gone h = absurd h

exit_used : (i : ℕ) (x : Exit) → ExitNames i x → vals_name (exit_vals x) i ≡ true
exit_used i (Jump to) h = absurd h
exit_used i (Cond t taken next) h = or_left (val_names t i) _ (val_used i t h)
exit_used i (Way v) h = or_left (val_names v i) _ (val_used i v h)
exit_used i (Island len) h = absurd h

outs_used : (i n : ℕ) (vs : List Val) (v : ℕ) → NamesIt i (get_or vs v (Num 0)) → outs_name every n vs i ≡ true
outs_used i n [] v h = absurd h
outs_used i n (x ∷ vs) zero h = or_left (val_names x i) _ (val_used i x h)
outs_used i n (x ∷ vs) (suc v) h = or_right (val_names x i) _ (outs_used i (suc n) vs v h)

later_used : (b : Block) (i : ℕ) (qs : List Step) → NamedLater b i qs → is_used (at_end b) qs i ≡ true
later_used b i [] (inl h) = or_right (outs_name every 0 b.outs i) _ (exit_used i b.exit h)
later_used b i [] (inr h) = or_left (outs_name every 0 b.outs i) _ (outs_used i 0 b.outs h.0 h.2)
later_used b i (q ∷ qs) (inl h) = or_left (vals_name (vals_of q.1) i) _ (line_used i q.1 h)
later_used b i (q ∷ qs) (inr h) = or_right (vals_name (vals_of q.1) i) _ (later_used b i qs h)

-- ---- what a checked block names has a result

module _ (ls : List Line) where
  abbrev Gives : ℕ → Type 0
  Gives i = has_result (get_or ls i Gone) ≡ true

  val_gives : (n i : ℕ) (v : Val) → val_checked ls n v ≡ true → NamesIt i v → Gives i
  val_gives n i (Param v) c h = absurd h
  val_gives n i (Named j) c h = subst Gives h (and_inv (nat_lt j n) (has_result (get_or ls j Gone)) c).1
  val_gives n i (Num k) c h = absurd h

  line_gives : (n i : ℕ) (l : Line) → line_checked ls n l ≡ true → LineNames i l → Gives i
  line_gives n i (Bin op a b) c (inl h) = val_gives n i a (and_inv (val_checked ls n a) (val_checked ls n b) c).0 h
  line_gives n i (Bin op a b) c (inr h) = val_gives n i b (and_inv (val_checked ls n a) (val_checked ls n b) c).1 h
  line_gives n i (One op a) c h = val_gives n i a c h
  line_gives n i (Select t a b) c (inl h) = val_gives n i t (and_inv (val_checked ls n t) (val_checked ls n a && val_checked ls n b) c).0 h
  line_gives n i (Select t a b) c (inr (inl h)) = val_gives n i a (and_inv (val_checked ls n a) (val_checked ls n b) (and_inv (val_checked ls n t) (val_checked ls n a && val_checked ls n b) c).1).0 h
  line_gives n i (Select t a b) c (inr (inr h)) = val_gives n i b (and_inv (val_checked ls n a) (val_checked ls n b) (and_inv (val_checked ls n t) (val_checked ls n a && val_checked ls n b) c).1).1 h
  line_gives n i (Load w at) c h = val_gives n i at c h
  line_gives n i (Store w at a) c (inl h) = val_gives n i at (and_inv (val_checked ls n at) (val_checked ls n a) c).0 h
  line_gives n i (Store w at a) c (inr h) = val_gives n i a (and_inv (val_checked ls n at) (val_checked ls n a) c).1 h
  line_gives n i Gone c h = absurd h

  exit_gives : (n i : ℕ) (x : Exit) → exit_checked ls n x ≡ true → ExitNames i x → Gives i
  exit_gives n i (Jump to) c h = absurd h
  exit_gives n i (Cond t taken next) c h = val_gives n i t c h
  exit_gives n i (Way v) c h = val_gives n i v c h
  exit_gives n i (Island len) c h = absurd h

  outs_give : (n i : ℕ) (vs : List Val) (v : ℕ) → vals_checked ls n vs ≡ true → NamesIt i (get_or vs v (Num 0)) → Gives i
  outs_give n i [] v c h = absurd h
  outs_give n i (x ∷ vs) zero c h = val_gives n i x (and_inv (val_checked ls n x) (vals_checked ls n vs) c).0 h
  outs_give n i (x ∷ vs) (suc v) c h = outs_give n i vs v (and_inv (val_checked ls n x) (vals_checked ls n vs) c).1 h

  each_checked : (n : ℕ) (rest : List Line) → lines_checked ls n rest ≡ true → (q : Step) → In (numbered n rest) q → line_checked ls q.0 q.1 ≡ true
  each_checked n [] c q i = absurd i
  each_checked n (l ∷ rest) c q (inl is) = subst (λ (p : Step). line_checked ls p.0 p.1 ≡ true) (sym is) (and_inv (line_checked ls n l) (lines_checked ls (suc n) rest) c).0
  each_checked n (l ∷ rest) c q (inr i) = each_checked (suc n) rest (and_inv (line_checked ls n l) (lines_checked ls (suc n) rest) c).1 q i

-- ---- lists

in_behind : (xs : List Step) (p : Step) (ys : List Step) → In (xs ++ p ∷ ys) p
in_behind [] p ys = inl refl
in_behind (x ∷ xs) p ys = inr (in_behind xs p ys)

in_rest : (xs ys : List Step) (q : Step) → In ys q → In (xs ++ ys) q
in_rest [] ys q i = i
in_rest (x ∷ xs) ys q i = inr (in_rest xs ys q i)

in_either : (xs ys : List Step) (q : Step) → In (xs ++ ys) q → In xs q ⊎ In ys q
in_either [] ys q i = inr i
in_either (x ∷ xs) ys q (inl is) = inl (inl is)
in_either (x ∷ xs) ys q (inr i) = ⊎_elim (λ j. inl (inr j)) (λ j. inr j) (in_either xs ys q i)

kept_is : (set : List Bool) (ps : List Step) → kept (is_in set) ps ≡ filter (λ (p : Step). is_in set p.0) ps
kept_is set [] = refl
kept_is set (p ∷ ps) = ap (λ qs. if is_in set p.0 then p ∷ qs else qs) (kept_is set ps)

result_of : (l : Line) → HasResult l → has_result l ≡ true
result_of (Bin op a b) h = refl
result_of (One op a) h = refl
result_of (Select c a b) h = refl
result_of (Load w at) h = refl
result_of (Store w at a) h = absurd h
result_of Gone h = absurd h

-- ---- places

-- the place of a line, by its entry
by_entry : (places : List (Option Place)) (j : ℕ) → place_at places j ≡ place_or (Some (get_or places j None))
by_entry [] j = refl
by_entry (x ∷ places) zero = refl
by_entry (x ∷ places) (suc j) = by_entry places j

same_refl : (p : Place) → same_place p p ≡ true
same_refl (Reg r) = eq-eqb r r refl
same_refl (Slot k) = eq-eqb k k refl

same_turned : (p q : Place) → same_place p q ≡ false → same_place q p ≡ false
same_turned p q h = ⊎_elim (λ (e : same_place q p ≡ true). absurd (both_ways (same_place p q) h (turned p q e))) (λ (e : same_place q p ≡ false). e) (cases_Bool (same_place q p))
  where
    turned : (p q : Place) → same_place q p ≡ true → same_place p q ≡ true
    turned (Reg a) (Reg b) e = eq-eqb a b (sym (Rattle.std.proofs.lemmas.Bool.eqb-true b a e))
    turned (Slot a) (Slot b) e = eq-eqb a b (sym (Rattle.std.proofs.lemmas.Bool.eqb-true b a e))
    turned (Reg a) (Slot b) e = absurd (true≢false (sym e))
    turned (Slot a) (Reg b) e = absurd (true≢false (sym e))

module _ (lie : PlacesLie) (homes : HomesLie) where
  register_of : (r : ℕ) (p : Place) → p ≡ Reg r → IsNoScratch p → InRange p → (1 < r) × (r < 8)
  register_of zero p e k l = absurd (both_ways (same_place (Reg 0) (Reg 0)) (subst (λ x. same_place x (Reg 0) ≡ false) e k.not_eax) refl)
  register_of (suc zero) p e k l = absurd (both_ways (same_place (Reg 1) (Reg 1)) (subst (λ x. same_place x (Reg 1) ≡ false) e k.not_ecx) refl)
  register_of (suc (suc r)) p e k l = let m : suc (suc r) < 8 = subst InRange e l in (omega arith, m)

  is_place : (k : ℕ) → k < 2048 → IsPlace home_of (place_of k)
  is_place k l = record {
    free = λ v m e. both_ways (same_place (place_of k) (place_of k)) (subst (λ x. same_place x (place_of k) ≡ false) e (homes.places v k m)) (same_refl (place_of k));
    register = λ r e. register_of r (place_of k) e (lie.kept k) (lie.fit k l);
    slot = λ n e. subst InRange e (lie.fit k l);
  }

  clear_at : (n : ℕ) → n < 17 → (o : Option Place) → ((o ≡ None) ⊎ ((k : ℕ) × (o ≡ Some (place_of k)))) → same_place (Slot n) (place_or (Some o)) ≡ false
  clear_at n l o (inl e) = subst (λ x. same_place (Slot n) (place_or (Some x)) ≡ false) (sym e) (same_turned (place_of 2) (Slot n) (lie.low 2 n l))
  clear_at n l o (inr e) = subst (λ x. same_place (Slot n) (place_or (Some x)) ≡ false) (sym e.1) (same_turned (place_of e.0) (Slot n) (lie.low e.0 n l))

  module _ (b : Block) (s : Split) (ok : checked b ≡ true) (few : length b.lines ≤ 2048) (placed_so : ArePlaced b s) (given : NoneGiven b s) (each : EachPlaced b s) where
    abbrev place : ℕ → Place
    place = place_at (placed b s)

    -- every line that has a place
    known : (j k : ℕ) → entry_at b s j ≡ Some (place_of k) → place j ≡ place_of k
    known j k e = by_entry (placed b s) j ∙ ap (λ o. place_or (Some o)) e

    abbrev is_given : ℕ → Bool
    is_given j = (is_in s.body j || is_in s.sunk j) && has_result (get_or b.lines j Gone)

    place_is : (j : ℕ) → (k : ℕ) × (k < 2048) × (place j ≡ place_of k)
    place_is j = ⊎_elim
        (λ (e : is_given j ≡ true). let h = each.some j e in let l = h.1 in (h.0, omega (arith, l, few), known j h.0 h.2))
        (λ (e : is_given j ≡ false). (2, omega arith, by_entry (placed b s) j ∙ ap (λ o. place_or (Some o)) (each.none j e)))
        (cases_Bool (is_given j))

    places : (j : ℕ) → IsPlace home_of (place j)
    places j = let h = place_is j in subst (IsPlace home_of) (sym h.2) (is_place h.0 h.1)

    -- ---- the order

    checks : (lines_checked b.lines 0 b.lines ≡ true) × (vals_checked b.lines (length b.lines) b.outs ≡ true) × (exit_checked b.lines (length b.lines) b.exit ≡ true)
    checks =
        let p = and_inv (nat_eq (length b.outs) REGISTERS) (lines_checked b.lines 0 b.lines && (vals_checked b.lines (length b.lines) b.outs && exit_checked b.lines (length b.lines) b.exit)) ok in
        let q = and_inv (lines_checked b.lines 0 b.lines) (vals_checked b.lines (length b.lines) b.outs && exit_checked b.lines (length b.lines) b.exit) p.1 in
        let r = and_inv (vals_checked b.lines (length b.lines) b.outs) (exit_checked b.lines (length b.lines) b.exit) q.1 in
        (q.0, r.0, r.1)

    of_set : (set : List Bool) (q : Step) → In (lines_in set b) q → (line_checked b.lines q.0 q.1 ≡ true) × (is_in set q.0 ≡ true)
    of_set set q i =
        let f = filter_in (λ (p : Step). is_in set p.0) (rows b) q i in
        (each_checked b.lines 0 b.lines checks.0 q f.0, f.1)

    of_order : (q : Step) → In (order b s) q → (line_checked b.lines q.0 q.1 ≡ true) × ((is_in s.body q.0 || is_in s.sunk q.0) ≡ true)
    of_order q i = ⊎_elim
        (λ (j : In (lines_in s.body b) q). let h = of_set s.body q j in (h.0, or_left (is_in s.body q.0) (is_in s.sunk q.0) h.1))
        (λ (j : In (lines_in s.sunk b) q). let h = of_set s.sunk q j in (h.0, or_right (is_in s.body q.0) (is_in s.sunk q.0) h.1))
        (in_either (lines_in s.body b) (lines_in s.sunk b) q i)

    later_gives : (i : ℕ) (qs : List Step) → ((q : Step) → In qs q → line_checked b.lines q.0 q.1 ≡ true) → NamedLater b i qs → Gives b.lines i
    later_gives i [] c (inl h) = exit_gives b.lines (length b.lines) i b.exit checks.2 h
    later_gives i [] c (inr h) = outs_give b.lines (length b.lines) i b.outs h.0 checks.1 h.2
    later_gives i (q ∷ qs) c (inl h) = line_gives b.lines q.0 i q.1 (c q (inl refl)) h
    later_gives i (q ∷ qs) c (inr h) = later_gives i qs (λ p j. c p (inr j)) h

    -- the place of p is kept over what is behind it
    kept_behind : (front between rest : List Step) (p : Step) → order b s ≡ front ++ p ∷ (between ++ rest) → IsKept b place p.0 rest
    kept_behind front between [] p e = tt
    kept_behind front between (q ∷ qs) p e = (
      (λ r same later.
          let checked_there = λ (x : Step) (j : In qs x). (of_order x (subst (λ l. In l x) (sym e) (in_rest front (p ∷ (between ++ q ∷ qs)) x (inr (in_rest between (q ∷ qs) x (inr j)))))).0 in
          let in_set = (of_order p (subst (λ l. In l p) (sym e) (in_behind front p (between ++ q ∷ qs)))).1 in
          let first = each.some p.0 (and_from (is_in s.body p.0 || is_in s.sunk p.0) (has_result (get_or b.lines p.0 Gone)) in_set (later_gives p.0 qs checked_there later)) in
          let result = result_of q.1 r in
          let second = placed_so (front ++ p ∷ between) qs q (e ∙ sym (append_assoc front (p ∷ between) (q ∷ qs))) result in
          let z : place_of second.0 ≡ place_of first.0 = sym (known q.0 second.0 second.1) ∙ same ∙ known p.0 first.0 first.2 in
          both_ways (is_used (at_end b) qs p.0) (given front between qs p q (place_of first.0) e result first.2 (second.1 ∙ ap Some z)) (later_used b p.0 qs later)),
      kept_behind front (between ++ q ∷ []) qs p (e ∙ ap (λ l. front ++ p ∷ l) (sym (append_assoc between (q ∷ []) qs))),
    )

    none_behind : (front rest : List Step) → order b s ≡ front ++ rest → NoneLost b place rest
    none_behind front [] e = tt
    none_behind front (p ∷ ps) e = (kept_behind front [] ps p e, none_behind (front ++ p ∷ []) ps (e ∙ sym (append_assoc front (p ∷ []) ps)))

    order_is : order b s ≡ kept (is_in s.body) (rows b) ++ kept (is_in s.sunk) (rows b)
    order_is = ap (λ l. l ++ lines_in s.sunk b) (sym (kept_is s.body (rows b))) ∙ ap (λ l. kept (is_in s.body) (rows b) ++ l) (sym (kept_is s.sunk (rows b)))

    serving : AreServing b s
    serving = record { places = places; lasting = none_behind [] (kept (is_in s.body) (rows b) ++ kept (is_in s.sunk) (rows b)) order_is }

pub places_serve : OfSplits ArePlaced → OfSplits NoneGiven → OfSplits EachPlaced → ((b : Block) (s : Split) → AreEntries b s) → PlacesLie → HomesLie → PlacesServe
places_serve first given each entries lie homes = record {
  serve = λ b s ok few split. serving lie homes b s ok few (first b s split few) (given b s split few) (each b s split few);
  clear = λ b s j n l. subst (λ x. same_place (Slot n) x ≡ false) (sym (by_entry (placed b s) j)) (clear_at lie homes n l (entry_at b s j) (entries b s j));
}
