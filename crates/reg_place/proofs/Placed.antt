-- Each line takes the first place that is free.
use Rattle.std.proofs.Common.{◌≡◌, ℕ, zero, suc, ◌<◌, ◌≤◌, ◌⊎◌, Bool, true, false, List, [], ◌∷◌, ◌++◌, length, get_or, set, Option, Some, None, refl, inl, inr, sym, ap, ◌∙◌, subst, arith, ⊎_elim, append_assoc}
use Rattle.std.specs.Prelude.{Contains, replicate, if◌then◌else◌, ◌||◌}
use Rattle.std.proofs.lemmas.Bool.{both_ways, cases_eq, cases_lt, or_right, and_parts, and_cases, false_from_ne_true, true≢false}
use Rattle.std.proofs.lemmas.Option.{same_Some, none-some}
use Rattle.std.proofs.lemmas.List.{append-nil, length-set, length-append, length_push, length-replicate, get_or-replicate, get_or-set_same, get_or-set_other, get_or_past, get_or_at}
use Rattle.std.proofs.lemmas.List.Elements.{Contains-append_left, Contains-push, Contains-push_cases}
use Rattle.ssa_form.specs.declared.form.Line.TheVariants.{Gone}
use Rattle.ssa_form.specs.declared.form.Block.{Block}
use Rattle.ssa_form.specs.declared.form.Split.{Split}
use Rattle.ssa_form.specs.Checked.{has_result}
use Rattle.pass_dead.specs.Names.{vals_of, vals_name}
use Rattle.par_moves.specs.declared.locations.Place.{Place}
use Rattle.par_moves.proofs.Membership.{In}
use Rattle.reg_place.specs.Places.{IsSplit, is_in, order, at_end, is_used, place_of, first_free, put_at, placing, placed}
use Rattle.reg_place.specs.Laws.{place_at, IsFirstFree, ArePlaced, NoneLost, EachPlaced, AreEntries}
use Rattle.reg_place.proofs.Order.{Step, Fresh, Distinct, in_parts, order_of, in_order, order_distinct, order_few}
use Rattle.reg_place.proofs.First.{first_within, first_at, first_before, put_length, put_same, put_other, places_same}

abbrev Places : Type 0
Places = List (Option Place)

-- a line that is not placed any more keeps what it has
placing_keeps : (ends : ℕ → Bool) (i : ℕ) (ps : List Step) (takers : List ℕ) (places : Places) → ((q : Step) → In ps q → q.0 ≡ i → has_result q.1 ≡ false) → get_or (placing ends takers ps places) i None ≡ get_or places i None
placing_keeps ends i [] takers places out = refl
placing_keeps ends i (p ∷ ps) takers places out = go (has_result p.1) refl (λ t pl. placing_keeps ends i ps t pl (λ q j. out q (inr j)))
  where
    go : (b : Bool) → has_result p.1 ≡ b → ((t : List ℕ) (pl : Places) → get_or (placing ends t ps pl) i None ≡ get_or pl i None) →
        get_or (if b then placing ends (put_at takers (first_free (is_used ends ps) takers) p.0) ps (set places p.0 (Some (place_of (first_free (is_used ends ps) takers)))) else placing ends takers ps places) i None ≡ get_or places i None
    go true e h = h _ _ ∙ get_or-set_other places p.0 i (Some (place_of (first_free (is_used ends ps) takers))) None (λ q. both_ways (has_result p.1) (out p (inl refl) (sym q)) e)
    go false e h = h takers places

placing_length : (ends : ℕ → Bool) (ps : List Step) (takers : List ℕ) (places : Places) → length (placing ends takers ps places) ≡ length places
placing_length ends [] takers places = refl
placing_length ends (p ∷ ps) takers places = go (has_result p.1) (λ t pl. placing_length ends ps t pl)
  where
    go : (b : Bool) → ((t : List ℕ) (pl : Places) → length (placing ends t ps pl) ≡ length pl) →
        length (if b then placing ends (put_at takers (first_free (is_used ends ps) takers) p.0) ps (set places p.0 (Some (place_of (first_free (is_used ends ps) takers)))) else placing ends takers ps places) ≡ length places
    go true h = h _ _ ∙ length-set places p.0 (Some (place_of (first_free (is_used ends ps) takers)))
    go false h = h takers places

abbrev Entry : Option Place → Type 0
Entry o = (o ≡ None) ⊎ ((k : ℕ) × (o ≡ Some (place_of k)))

placing_entry : (ends : ℕ → Bool) (i : ℕ) (ps : List Step) (takers : List ℕ) (places : Places) → Entry (get_or places i None) → Entry (get_or (placing ends takers ps places) i None)
placing_entry ends i [] takers places h = h
placing_entry ends i (p ∷ ps) takers places h = go (has_result p.1) (λ t pl. placing_entry ends i ps t pl)
  where
    put : Entry (get_or (set places p.0 (Some (place_of (first_free (is_used ends ps) takers)))) i None)
    put =
        let x = Some (place_of (first_free (is_used ends ps) takers)) in
        ⊎_elim
        (λ (e : i ≡ p.0). ⊎_elim
        (λ (l : p.0 < length places). inr (first_free (is_used ends ps) takers, ap (λ j. get_or (set places p.0 x) j None) e ∙ get_or-set_same places p.0 x None l))
        (λ (l : length places ≤ p.0). inl (get_or_past (set places p.0 x) i None (let q = length-set places p.0 x in omega (arith, e, l, q))))
        (cases_lt p.0 (length places)))
        (λ (d : i ≡ p.0 → ⊥). subst Entry (sym (get_or-set_other places p.0 i x None d)) h)
        (cases_eq i p.0)

    go : (b : Bool) → ((t : List ℕ) (pl : Places) → Entry (get_or pl i None) → Entry (get_or (placing ends t ps pl) i None)) →
        Entry (get_or (if b then placing ends (put_at takers (first_free (is_used ends ps) takers) p.0) ps (set places p.0 (Some (place_of (first_free (is_used ends ps) takers)))) else placing ends takers ps places) i None)
    go true more = more _ _ put
    go false more = more takers places h

none_from : (n i : ℕ) → ◌≡◌ {A = Option Place} (get_or (replicate n None) i None) None
none_from zero i = refl
none_from (suc n) zero = refl
none_from (suc n) (suc i) = none_from n i

pub are_entries : (b : Block) (s : Split) → AreEntries b s
are_entries b s i = placing_entry (at_end b) i (order b s) [] (replicate (length b.lines) None) (inl (none_from (length b.lines) i))

module _ (b : Block) (s : Split) (split : IsSplit b s) where
  abbrev ends : ℕ → Bool
  ends = at_end b

  abbrev n : ℕ
  n = length b.lines

  -- what holds before the lines that are left
  record State (before rest : List Step) (takers : List ℕ) (places : Places) : Type 0 where
    now : placing ends takers rest places ≡ placed b s
    len : length places ≡ n
    low : (q : Step) → In rest q → q.0 < n
    distinct : Distinct rest
    fresh : (h : Step) → Contains before h → Fresh h.0 rest
    few : length takers ≤ length before
    empty : (q : Step) → In rest q → get_or places q.0 None ≡ None
    holder : (k : ℕ) → k < length takers → (h : Step) × Contains before h × (h.0 ≡ get_or takers k 0) × (get_or places h.0 None ≡ Some (place_of k))
    latest : (h : Step) (k : ℕ) → Contains before h → get_or places h.0 None ≡ Some (place_of k) → is_used ends rest h.0 ≡ true → (k < length takers) × (get_or takers k 0 ≡ h.0)

  module _ (before ps : List Step) (p : Step) (takers : List ℕ) (places : Places) (st : State before (p ∷ ps) takers places) where
    -- the line has no result
    skip : has_result p.1 ≡ false → State (before ++ p ∷ []) ps takers places
    skip e = record {
      now = ap (λ x. if x then placing ends (put_at takers (first_free (is_used ends ps) takers) p.0) ps (set places p.0 (Some (place_of (first_free (is_used ends ps) takers)))) else placing ends takers ps places) (sym e) ∙ st.now;
      len = st.len;
      low = λ q i. st.low q (inr i);
      distinct = st.distinct.1;
      fresh = λ h c. ⊎_elim (λ (d : Contains before h). (λ q i. st.fresh h d q (inr i))) (λ (d : p ≡ h). subst (λ (x : Step). Fresh x.0 ps) d st.distinct.0) (Contains-push_cases before p h c);
      few = let f = st.few in let l = length_push before p in omega (arith, f, l);
      empty = λ q i. st.empty q (inr i);
      holder = λ k l. let h = st.holder k l in (h.0, Contains-append_left before (p ∷ []) h.0 h.1, h.2, h.3);
      latest = λ h k c is used. ⊎_elim
          (λ (d : Contains before h). st.latest h k d is (or_right (vals_name (vals_of p.1) h.0) (is_used ends ps h.0) used))
          (λ (d : p ≡ h). absurd (none-some (place_of k) (sym (st.empty p (inl refl)) ∙ ap (λ (x : Step). get_or places x.0 None) d ∙ is)))
          (Contains-push_cases before p h c);
    }

    abbrev k : ℕ
    k = first_free (is_used ends ps) takers

    abbrev places' : Places
    places' = set places p.0 (Some (place_of k))

    within : k ≤ length takers
    within = first_within (is_used ends ps) takers

    here : get_or places' p.0 None ≡ Some (place_of k)
    here = let l = st.low p (inl refl) in let z = st.len in get_or-set_same places p.0 (Some (place_of k)) None (omega (arith, l, z))

    elsewhere : (h : Step) → Contains before h → get_or places' h.0 None ≡ get_or places h.0 None
    elsewhere h c = get_or-set_other places p.0 h.0 (Some (place_of k)) None (λ e. st.fresh h c p (inl refl) (sym e))

    -- a taker that is used no more
    not_free : k < length takers → (j : ℕ) → get_or takers k 0 ≡ j → is_used ends ps j ≡ true → ⊥
    not_free l j e u = both_ways (is_used ends ps j) (ap (is_used ends ps) (sym e) ∙ first_at (is_used ends ps) takers l) u

    -- the line takes place k
    take : has_result p.1 ≡ true → State (before ++ p ∷ []) ps (put_at takers k p.0) places'
    take e = record {
      now = ap (λ x. if x then placing ends (put_at takers k p.0) ps places' else placing ends takers ps places) (sym e) ∙ st.now;
      len = length-set places p.0 (Some (place_of k)) ∙ st.len;
      low = λ q i. st.low q (inr i);
      distinct = st.distinct.1;
      fresh = λ h c. ⊎_elim (λ (d : Contains before h). (λ q i. st.fresh h d q (inr i))) (λ (d : p ≡ h). subst (λ (x : Step). Fresh x.0 ps) d st.distinct.0) (Contains-push_cases before p h c);
      few = let f = st.few in let l = length_push before p in let m = (put_length takers k p.0 within).2 in omega (arith, f, l, m);
      empty = λ q i. get_or-set_other places p.0 q.0 (Some (place_of k)) None (st.distinct.0 q i) ∙ st.empty q (inr i);
      holder = λ j l. ⊎_elim
          (λ (d : j ≡ k). (p, Contains-push before p, sym (ap (λ i. get_or (put_at takers k p.0) i 0) d ∙ put_same takers k p.0 within), here ∙ ap (λ i. Some (place_of i)) (sym d)))
          (λ (d : j ≡ k → ⊥).
          let o = put_other takers k p.0 within j d l in
          let h = st.holder j o.0 in
          (h.0, Contains-append_left before (p ∷ []) h.0 h.1, h.2 ∙ sym o.1, elsewhere h.0 h.1 ∙ h.3))
          (cases_eq j k);
      latest = λ h j c is used. ⊎_elim
          (λ (d : Contains before h).
          let o = st.latest h j d (sym (elsewhere h d) ∙ is) (or_right (vals_name (vals_of p.1) h.0) (is_used ends ps h.0) used) in
          let ne : (j ≡ k → ⊥) = λ (z : j ≡ k). not_free (subst (λ i. i < length takers) z o.0) h.0 (ap (λ i. get_or takers i 0) (sym z) ∙ o.1) used in
          let m = (put_length takers k p.0 within).0 in
          let low' : j < length (put_at takers k p.0) = omega (arith, o.0, m) in
          (low', (put_other takers k p.0 within j ne low').1 ∙ o.1))
          (λ (d : p ≡ h).
          let z : k ≡ j = places_same k j (same_Some (place_of k) (place_of j) (sym here ∙ ap (λ (x : Step). get_or places' x.0 None) d ∙ is)) in
          (subst (λ i. i < length (put_at takers k p.0)) z (put_length takers k p.0 within).1, ap (λ i. get_or (put_at takers k p.0) i 0) (sym z) ∙ put_same takers k p.0 within ∙ ap (λ (x : Step). x.0) d))
          (Contains-push_cases before p h c);
    }

    -- lines that were placed keep their places
    settled : (h : Step) → Contains before h → place_at b s h.0 ≡ get_or places h.0 None
    settled h c = ap (λ (xs : Places). get_or xs h.0 None) (sym st.now) ∙ placing_keeps ends h.0 (p ∷ ps) takers places (λ q i e. absurd (st.fresh h c q i e))

    placed_here : has_result p.1 ≡ true → place_at b s p.0 ≡ Some (place_of k)
    placed_here e = ap (λ (xs : Places). get_or xs p.0 None) (sym (take e).now) ∙ placing_keeps ends p.0 ps (put_at takers k p.0) places' (λ q i z. absurd (st.distinct.0 q i z)) ∙ here

    first : IsFirstFree b s before ps k
    first = record {
      free = λ t.
          let o = st.latest t.holder k t.earlier (sym (settled t.holder t.earlier) ∙ t.holds) (or_right (vals_name (vals_of p.1) t.holder.0) (is_used ends ps t.holder.0) t.used) in
          not_free o.0 t.holder.0 o.1 t.used;
      first = λ j l.
          let f = first_before (is_used ends ps) takers j l in
          let h = st.holder j f.0 in
          record { holder = h.0; earlier = h.1; holds = settled h.0 h.1 ∙ h.3; used = ap (is_used ends ps) h.2 ∙ f.1 };
    }

  -- what is found of a line between these
  abbrev Found : List Step → List Step → Step → Type 0
  Found before behind p = (k : ℕ) × (k ≤ length before) × (place_at b s p.0 ≡ Some (place_of k)) × IsFirstFree b s before behind k

  run : (front before behind : List Step) (p : Step) (takers : List ℕ) (places : Places) → State before (front ++ p ∷ behind) takers places → has_result p.1 ≡ true → Found (before ++ front) behind p
  run [] before behind p takers places st e =
      subst (λ l. Found l behind p) (sym (append-nil before))
      (let f = st.few in let w = within before behind p takers places st in (k before behind p takers places st, omega (arith, f, w), placed_here before behind p takers places st e, first before behind p takers places st))
  run (x ∷ front) before behind p takers places st e =
      subst (λ l. Found l behind p) (append_assoc before (x ∷ []) front) (go (has_result x.1) refl (λ t pl h. run front (before ++ x ∷ []) behind p t pl h e))
    where
      go : (r : Bool) → has_result x.1 ≡ r → ((t : List ℕ) (pl : Places) → State (before ++ x ∷ []) (front ++ p ∷ behind) t pl → Found ((before ++ x ∷ []) ++ front) behind p) → Found ((before ++ x ∷ []) ++ front) behind p
      go true h more = more _ _ (take before (front ++ p ∷ behind) x takers places st h)
      go false h more = more _ _ (skip before (front ++ p ∷ behind) x takers places st h)

  start : State [] (order b s) [] (replicate n None)
  start = record {
    now = refl;
    len = length-replicate n None;
    low = λ q i. (order_of b s split q i).0;
    distinct = order_distinct b s split;
    fresh = λ h c. absurd (let l = c.1 in omega (arith, l));
    few = omega arith;
    empty = λ q i. get_or-replicate n q.0 None None (order_of b s split q i).0;
    holder = λ j l. absurd (omega (arith, l));
    latest = λ h j c is used. absurd (let l = c.1 in omega (arith, l));
  }

  find : (before behind : List Step) (p : Step) → order b s ≡ before ++ p ∷ behind → has_result p.1 ≡ true → Found before behind p
  find before behind p e r = run before [] behind p [] (replicate n None) (subst (λ (l : List Step). State [] l [] (replicate n None)) e start) r

  pub are_placed : ArePlaced b s
  are_placed before behind p e r = let f = find before behind p e r in (f.0, f.2, f.3)

  pub none_lost : NoneLost b s
  none_lost before between behind p q x e r hp hq = false_from_ne_true (is_used ends behind p.0) (λ used.
      let f = find (before ++ p ∷ between) behind q (e ∙ sym (append_assoc before (p ∷ between) (q ∷ behind))) r in
      let z = length-append before (p ∷ between) in
      f.3.free (record {
        holder = p;
        earlier = (length before, omega (arith, z), get_or_at before p between p (length before) refl);
        holds = hp ∙ sym hq ∙ f.2;
        used = used;
      }))

  -- a line that has a result is there
  gives_low : (i : ℕ) → has_result (get_or b.lines i Gone) ≡ true → i < n
  gives_low i h = ⊎_elim (λ (l : i < n). l) (λ (l : n ≤ i). absurd (true≢false (sym h ∙ ap has_result (get_or_past b.lines i Gone l)))) (cases_lt i n)

  pub each_placed : EachPlaced b s
  each_placed = record {
    count = placing_length ends (order b s) [] (replicate n None) ∙ length-replicate n None;
    some = λ i h.
        let a = and_parts (is_in s.body i || is_in s.sunk i) (has_result (get_or b.lines i Gone)) h in
        let t = in_parts (order b s) (i, get_or b.lines i Gone) (in_order b s split i (gives_low i a.1) a.0) in
        let f = find t.0 t.1 (i, get_or b.lines i Gone) t.2 a.1 in
        let few = order_few b s split in
        let z = ap length t.2 in
        let y = length-append t.0 ((i, get_or b.lines i Gone) ∷ t.1) in
        let w = f.1 in
        (f.0, omega (arith, few, z, y, w), f.2);
    none = λ i h. placing_keeps ends i (order b s) [] (replicate n None) (λ q j e.
        let o = order_of b s split q j in
        ap has_result o.1 ∙ ap (λ m. has_result (get_or b.lines m Gone)) e ∙ ⊎_elim (λ (d : (is_in s.body i || is_in s.sunk i) ≡ false). absurd (true≢false (sym (ap (λ m. is_in s.body m || is_in s.sunk m) (sym e) ∙ o.2) ∙ d)))
        (λ (d : has_result (get_or b.lines i Gone) ≡ false). d) (and_cases (is_in s.body i || is_in s.sunk i) (has_result (get_or b.lines i Gone)) h)) ∙ none_from n i;
  }
