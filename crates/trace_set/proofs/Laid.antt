-- What is kept of rows of edges, through each change.
use Rattle.std.proofs.Common.{◌≡◌, ℕ, zero, suc, ◌+◌, ◌<◌, ◌≤◌, ◌⊎◌, Bool, true, false, cond, eqb, List, [], ◌∷◌, ◌++◌, length, get_or, set, None, Some, inl, inr, refl, ap, sym, ◌∙◌, subst, arith}
use Rattle.std.proofs.lemmas.Bool.{cases_Bool, eqb-true, eqb-false, eq-eqb, ne_eqb}
use Rattle.std.proofs.lemmas.List.{length-set, get_or-set_same}
use Rattle.std.proofs.lemmas.Option.{none-some}
use Rattle.std.specs.Ordering.{is_eq}
use Rattle.std.specs.BTreeMap.{BTreeMap, Updates, btree_map_len}
use Rattle.link_table.specs.Circles.{times}
use Rattle.link_table.specs.Table.{Table, put_entry, all_others, valued, valued_in, IsCrossed}
use Rattle.trace_file.specs.Edges.{Edge}
use Rattle.trace_set.specs.Rows.{edge_at, edge_cmp, column_of, behead, IsLaid}
use Rattle.trace_set.proofs.Tables.{Entry, none_of, column_length, in_range, length-put, valued-put, own-put, length-behead, valued-behead, length-others, own-others}
use Rattle.trace_set.proofs.Names.{one_key, is_key, elsewhere, some_is}
use Rattle.trace_set.proofs.Shows.{edge_at-other, edge_at-more}

-- the table with a node put last in a row and in a column
abbrev pub putted : Table → ℕ → ℕ → ℕ → Table
putted t r c n = record t { rows = put_entry t.rows r (n, c); columns = put_entry t.columns c (n, c) }

-- the table without the node that is first in a row
abbrev pub taken : Table → ℕ → ℕ → Table
taken t r n = record t { rows = behead t.rows r; columns = all_others n t.columns }

-- ---- lists of columns

pub times-append : (x : ℕ) (xs : List ℕ) (c : ℕ) → times x (xs ++ c ∷ []) ≡ times x xs + cond (eqb c x) 1 0
times-append x [] c = omega arith
times-append x (y ∷ xs) c = let r : times x (xs ++ c ∷ []) ≡ times x xs + cond (eqb c x) 1 0 = times-append x xs c in omega (arith, r)

pub times-last : (xs : List ℕ) (c : ℕ) → times c (xs ++ c ∷ []) ≡ times c xs + 1
times-last xs c = times-append c xs c ∙ ap (λ (b : Bool). times c xs + cond b 1 0) (eq-eqb c c refl)

length-push : (xs : List ℕ) (c : ℕ) → length (xs ++ c ∷ []) ≡ length xs + 1
length-push [] c = refl
length-push (x ∷ xs) c = let r : length (xs ++ c ∷ []) ≡ length xs + 1 = length-push xs c in omega (arith, r)

-- ---- rows

valued-append_row : (d : ℕ) (rows : List (List Entry)) → valued_in d (rows ++ [] ∷ []) ≡ valued_in d rows
valued-append_row d [] = refl
valued-append_row d (es ∷ rows) = let r : valued_in d (rows ++ [] ∷ []) ≡ valued_in d rows = valued-append_row d rows in omega (arith, r)

all_true : (bs : List Bool) (i : ℕ) → ((j : ℕ) → j < length bs → get_or bs j false ≡ true) → i < length bs + 1 → get_or (bs ++ true ∷ []) i false ≡ true
all_true [] zero h l = refl
all_true [] (suc i) h l = absurd (omega (arith, l))
all_true (b ∷ bs) zero h l = h 0 (omega arith)
all_true (b ∷ bs) (suc i) h l = all_true bs i (λ j m. h (suc j) (omega (arith, m))) (omega (arith, l))

length-push_row : (rows : List (List Entry)) → length (rows ++ [] ∷ []) ≡ length rows + 1
length-push_row [] = refl
length-push_row (x ∷ xs) = let r : length (xs ++ [] ∷ []) ≡ length xs + 1 = length-push_row xs in omega (arith, r)

length-push_edge : (E : List Edge) (e : Edge) → length (E ++ e ∷ []) ≡ length E + 1
length-push_edge [] e = refl
length-push_edge (x ∷ xs) e = let r : length (xs ++ e ∷ []) ≡ length xs + 1 = length-push_edge xs e in omega (arith, r)

-- a new column at the end is empty
own-new : (cols : List (List Entry)) → ((c v : ℕ) → 0 < valued v (get_or cols c []) → v ≡ c) → (c v : ℕ) → 0 < valued v (get_or (cols ++ [] ∷ []) c []) → v ≡ c
own-new cols own c v h = own c v (let e : valued v (get_or (cols ++ [] ∷ []) c []) ≡ valued v (get_or cols c []) = ap (valued v) (get-new cols c) in omega (arith, e, h))
  where
    get-new : (cols : List (List Entry)) (c : ℕ) → get_or (cols ++ [] ∷ []) c [] ≡ get_or cols c []
    get-new [] zero = refl
    get-new [] (suc c) = refl
    get-new (x ∷ cols) zero = refl
    get-new (x ∷ cols) (suc c) = get-new cols c

module _ (t : Table) (E : List Edge) (names : BTreeMap Edge ℕ) (spare : List ℕ) (room : ℕ) (k : IsLaid t E names spare room) where
  -- a column that has a node, and one that has none
  pub unlike : (c d : ℕ) → 0 < valued_in c t.rows → valued_in d t.rows ≡ 0 → c ≡ d → ⊥
  unlike c d p z e = let q : valued_in c t.rows ≡ valued_in d t.rows = ap (λ (x : ℕ). valued_in x t.rows) e in omega (arith, p, z, q)

  -- ---- one more row

  pub laid_row : length t.alive ≡ length t.rows → IsLaid (record t { alive = t.alive ++ true ∷ []; rows = t.rows ++ [] ∷ [] }) E names spare room
  laid_row w = record {
    own = k.own;
    alive = λ i h. all_true t.alive i (λ j m. k.alive j (omega (arith, m, w))) (let e : length (t.rows ++ [] ∷ []) ≡ length t.rows + 1 = length-push_row t.rows in omega (arith, h, e, w));
    named = k.named;
    keyed = λ c p. k.keyed c (let v : valued_in c (t.rows ++ [] ∷ []) ≡ valued_in c t.rows = valued-append_row c t.rows in omega (arith, v, p));
    found = λ e c h. (let g = k.found e c h in let g1 : 0 < valued_in c t.rows = g.1 in (g.0, (let v : valued_in c (t.rows ++ [] ∷ []) ≡ valued_in c t.rows = valued-append_row c t.rows in omega (arith, v, g1))));
    empty = λ c h. (let g = k.empty c h in (g.0, valued-append_row c t.rows ∙ g.1));
    once = k.once;
    sized = k.sized;
    fits = k.fits;
  }

  -- a column that has a node is there
  pub placed : (c : ℕ) → IsCrossed t → 0 < valued_in c t.rows → c < length E
  placed c x p =
      let l : length (get_or t.columns c []) ≡ valued_in c t.rows = column_length t c k.own x in
      let r : c < length t.columns = in_range t.columns c (omega (arith, l, p)) in
      let n : length E ≡ length t.columns = k.named in
      omega (arith, r, n)

  pub in_columns : (c : ℕ) → IsCrossed t → 0 < valued_in c t.rows → c < length t.columns
  in_columns c x p =
      let l : c < length E = placed c x p in
      let n : length E ≡ length t.columns = k.named in
      omega (arith, l, n)

  -- ---- one more column, which is spare

  pub laid_column : (more room2 : ℕ) → IsCrossed t → spare ≡ [] → more ≡ length E → length E + 1 ≤ room2 → IsLaid (record t { columns = t.columns ++ [] ∷ [] }) (E ++ (0, 0) ∷ []) names (spare ++ more ∷ []) room2
  laid_column more room2 x none is fit = record {
    own = own-new t.columns k.own;
    alive = k.alive;
    named = longer ∙ (let n : length E ≡ length t.columns = k.named in let e : length (t.columns ++ [] ∷ []) ≡ length t.columns + 1 = length-push_row t.columns in omega (arith, n, e));
    keyed = λ c p. ap (column_of names) (edge_at-more E c) ∙ k.keyed c p;
    found = λ e c h. (let g = k.found e c h in (edge_at-more E c ∙ g.0, g.1));
    empty = λ c h. at_end c (let e : times c (spare ++ more ∷ []) ≡ times c (more ∷ []) = single c in omega (arith, e, h)) (cases_Bool (eqb more c));
    once = λ c. (let e : times c (spare ++ more ∷ []) ≡ times c (more ∷ []) = single c in let b : times c (more ∷ []) ≤ 1 = at_most c (cases_Bool (eqb more c)) in omega (arith, e, b));
    sized = (let s : btree_map_len names + length spare ≡ length E = k.sized in let a : length (spare ++ more ∷ []) ≡ length spare + 1 = length-push spare more in let b : length (E ++ (0, 0) ∷ []) ≡ length E + 1 = longer in omega (arith, s, a, b));
    fits = (let b : length (E ++ (0, 0) ∷ []) ≡ length E + 1 = longer in omega (arith, b, fit));
  }
    where
      longer : length (E ++ (0, 0) ∷ []) ≡ length E + 1
      longer = length-push_edge E (0, 0)

      single : (c : ℕ) → times c (spare ++ more ∷ []) ≡ times c (more ∷ [])
      single c = ap (λ (s : List ℕ). times c (s ++ more ∷ [])) none

      at_most : (c : ℕ) → (eqb more c ≡ true) ⊎ (eqb more c ≡ false) → times c (more ∷ []) ≤ 1
      at_most c (inl y) = rw y (omega arith)
      at_most c (inr f) = rw f (omega arith)

      unused : (c : ℕ) → more ≡ c → valued_in c t.rows ≡ 0
      unused c q = none_of (valued_in c t.rows) (λ p. (let l : c < length E = placed c x p in omega (arith, l, q, is)))

      at_end : (c : ℕ) → 0 < times c (more ∷ []) → (eqb more c ≡ true) ⊎ (eqb more c ≡ false) → (c < length (E ++ (0, 0) ∷ [])) × (valued_in c t.rows ≡ 0)
      at_end c h (inl y) = ((let b : length (E ++ (0, 0) ∷ []) ≡ length E + 1 = longer in let q : more ≡ c = eqb-true more c y in omega (arith, b, is, q)), unused c (eqb-true more c y))
      at_end c h (inr f) = absurd (let z : 0 < 0 + 0 = rw f at h in omega (arith, z))

  -- ---- a node put last in a row

  module _ (r c n : ℕ) (l : r < length t.rows) where
    put_is : (d : ℕ) → valued_in d (put_entry t.rows r (n, c)) ≡ valued_in d t.rows + cond (eqb c d) 1 0
    put_is d = valued-put d t.rows r n c l

    put_grows : (d : ℕ) → 0 < valued_in d t.rows → 0 < valued_in d (put_entry t.rows r (n, c))
    put_grows d g = let p : valued_in d (put_entry t.rows r (n, c)) ≡ valued_in d t.rows + cond (eqb c d) 1 0 = put_is d in omega (arith, p, g)

    put_here : 0 < valued_in c (put_entry t.rows r (n, c))
    put_here = let p : valued_in c (put_entry t.rows r (n, c)) ≡ valued_in c t.rows + 1 = put_is c ∙ ap (λ (b : Bool). valued_in c t.rows + cond b 1 0) (eq-eqb c c refl) in omega (arith, p)

    put_other : (d : ℕ) → (c ≡ d → ⊥) → valued_in d (put_entry t.rows r (n, c)) ≡ valued_in d t.rows
    put_other d x = let p : valued_in d (put_entry t.rows r (n, c)) ≡ valued_in d t.rows + 0 = put_is d ∙ ap (λ (b : Bool). valued_in d t.rows + cond b 1 0) (ne_eqb c d x) in omega (arith, p)

    still_alive : (i : ℕ) → i < length (put_entry t.rows r (n, c)) → get_or t.alive i false ≡ true
    still_alive i h = k.alive i (let e : length (put_entry t.rows r (n, c)) ≡ length t.rows = length-put t.rows r (n, c) in omega (arith, h, e))

    -- of an edge that some row has
    pub laid_again : column_of names (edge_at E c) ≡ Some c → IsLaid (putted t r c n) E names spare room
    laid_again q = record {
      own = own-put t.columns n c k.own;
      alive = still_alive;
      named = k.named ∙ sym (length-put t.columns c (n, c));
      keyed = λ d p. keyed d p (cases_Bool (eqb c d));
      found = λ e d h. (let g = k.found e d h in (g.0, put_grows d g.1));
      empty = λ d h. (let g = k.empty d h in (g.0, put_other d (unlike c d (k.found (edge_at E c) c q).1 g.1) ∙ g.1));
      once = k.once;
      sized = k.sized;
      fits = k.fits;
    }
      where
        keyed : (d : ℕ) → 0 < valued_in d (put_entry t.rows r (n, c)) → (eqb c d ≡ true) ⊎ (eqb c d ≡ false) → column_of names (edge_at E d) ≡ Some d
        keyed d p (inl y) = subst (λ (x : ℕ). column_of names (edge_at E x) ≡ Some x) (eqb-true c d y) q
        keyed d p (inr f) = k.keyed d (let s : valued_in d (put_entry t.rows r (n, c)) ≡ valued_in d t.rows = put_other d (eqb-false c d f) in omega (arith, s, p))

    -- of an edge that no row has, in the last spare column
    pub laid_first : (e : Edge) (names2 : BTreeMap Edge ℕ) (spare2 : List ℕ) → column_of names e ≡ None → spare ≡ spare2 ++ c ∷ [] → Updates edge_cmp names names2 e (Some c) → btree_map_len names2 ≡ btree_map_len names + 1 → IsLaid (putted t r c n) (set E c e) names2 spare2 room
    laid_first e names2 spare2 absent split up more = record {
      own = own-put t.columns n c k.own;
      alive = still_alive;
      named = length-set E c e ∙ k.named ∙ sym (length-put t.columns c (n, c));
      keyed = λ d p. keyed d p (cases_Bool (eqb c d));
      found = λ x d h. found x d h (cases_Bool (is_eq (edge_cmp e x)));
      empty = λ d h. empty d h;
      once = λ d. (let o : times d spare ≤ 1 = k.once d in let s : times d spare ≡ times d spare2 + cond (eqb c d) 1 0 = split_times d in omega (arith, o, s));
      sized = (let s : btree_map_len names + length spare ≡ length E = k.sized in let a : length spare ≡ length spare2 + 1 = ap length split ∙ length-push spare2 c in let b : length (set E c e) ≡ length E = length-set E c e in omega (arith, s, a, b, more));
      fits = (let b : length (set E c e) ≡ length E = length-set E c e in let f : length E ≤ room = k.fits in omega (arith, b, f));
    }
      where
        split_times : (d : ℕ) → times d spare ≡ times d spare2 + cond (eqb c d) 1 0
        split_times d = ap (times d) split ∙ times-append d spare2 c

        last_times : times c spare ≡ times c spare2 + 1
        last_times = ap (times c) split ∙ times-last spare2 c

        free : (c < length E) × (valued_in c t.rows ≡ 0)
        free = k.empty c (omega (arith, last_times))

        free_edge : edge_at (set E c e) c ≡ e
        free_edge = get_or-set_same E c e (0, 0) free.0

        keyed : (d : ℕ) → 0 < valued_in d (put_entry t.rows r (n, c)) → (eqb c d ≡ true) ⊎ (eqb c d ≡ false) → column_of names2 (edge_at (set E c e) d) ≡ Some d
        keyed d p (inl y) = subst (λ (x : ℕ). column_of names2 (edge_at (set E c e) x) ≡ Some x) (eqb-true c d y) (ap (column_of names2) free_edge ∙ up.1)
        keyed d p (inr f) =
            let s : valued_in d (put_entry t.rows r (n, c)) ≡ valued_in d t.rows = put_other d (eqb-false c d f) in
            let g : column_of names (edge_at E d) ≡ Some d = k.keyed d (omega (arith, s, p)) in
            ap (column_of names2) (edge_at-other E c d e (λ z. eqb-false c d f (sym z)))
            ∙ elsewhere names names2 e (Some c) up (edge_at E d) (λ z. none-some d (sym absent ∙ ap (column_of names) z ∙ g)) ∙ g

        found : (x : Edge) (d : ℕ) → column_of names2 x ≡ Some d → (is_eq (edge_cmp e x) ≡ true) ⊎ (is_eq (edge_cmp e x) ≡ false) → (edge_at (set E c e) d ≡ x) × (0 < valued_in d (put_entry t.rows r (n, c)))
        found x d h (inl y) =
            let q : e ≡ x = one_key e x y in
            let w : c ≡ d = some_is c d (sym up.1 ∙ ap (column_of names2) q ∙ h) in
            (ap (edge_at (set E c e)) (sym w) ∙ free_edge ∙ q, subst (λ (z : ℕ). 0 < valued_in z (put_entry t.rows r (n, c))) w put_here)
        found x d h (inr f) =
            let g = k.found x d (sym (up.2 x f) ∙ h) in
            (edge_at-other E c d e (unlike d c g.1 free.1) ∙ g.0, put_grows d g.1)

        empty : (d : ℕ) → 0 < times d spare2 → (d < length (set E c e)) × (valued_in d (put_entry t.rows r (n, c)) ≡ 0)
        empty d h =
            let s : times d spare ≡ times d spare2 + cond (eqb c d) 1 0 = split_times d in
            let g = k.empty d (omega (arith, s, h)) in
            let g0 : d < length E = g.0 in
            let b : length (set E c e) ≡ length E = length-set E c e in
            let o : times c spare ≤ 1 = k.once c in
            (omega (arith, g0, b), put_other d (λ z. (let q : times c spare2 ≡ times d spare2 = ap (λ (x : ℕ). times x spare2) z in let m : times c spare ≡ times c spare2 + 1 = last_times in omega (arith, q, o, m, h))) ∙ g.1)

  -- ---- an edge given to a spare column that then is not used

  pub laid_back : (c : ℕ) (e : Edge) (names2 : BTreeMap Edge ℕ) → valued_in c t.rows ≡ 0 → ((q : Edge) → column_of names2 q ≡ column_of names q) → btree_map_len names2 ≡ btree_map_len names → IsLaid t (set E c e) names2 spare room
  laid_back c e names2 free back len = record {
    own = k.own;
    alive = k.alive;
    named = length-set E c e ∙ k.named;
    keyed = λ d p. ap (column_of names2) (edge_at-other E c d e (unlike d c p free)) ∙ back (edge_at E d) ∙ k.keyed d p;
    found = λ x d h. (let g = k.found x d (sym (back x) ∙ h) in (edge_at-other E c d e (unlike d c g.1 free) ∙ g.0, g.1));
    empty = λ d h. (let g = k.empty d h in let g0 : d < length E = g.0 in let b : length (set E c e) ≡ length E = length-set E c e in (omega (arith, g0, b), g.1));
    once = k.once;
    sized = (let s : btree_map_len names + length spare ≡ length E = k.sized in let b : length (set E c e) ≡ length E = length-set E c e in omega (arith, s, b, len));
    fits = (let b : length (set E c e) ≡ length E = length-set E c e in let f : length E ≤ room = k.fits in omega (arith, b, f));
  }

  -- ---- the first node of a row taken out

  module _ (r n c : ℕ) (es : List Entry) (first : get_or t.rows r [] ≡ (n, c) ∷ es) where
    out_is : (d : ℕ) → valued_in d (behead t.rows r) + cond (eqb c d) 1 0 ≡ valued_in d t.rows
    out_is d = valued-behead d t.rows r n c es first

    pub out_here : valued_in c (behead t.rows r) + 1 ≡ valued_in c t.rows
    out_here = ap (λ (b : Bool). valued_in c (behead t.rows r) + cond b 1 0) (sym (eq-eqb c c refl)) ∙ out_is c

    out_less : (d : ℕ) → 0 < valued_in d (behead t.rows r) → 0 < valued_in d t.rows
    out_less d p = let o : valued_in d (behead t.rows r) + cond (eqb c d) 1 0 ≡ valued_in d t.rows = out_is d in omega (arith, o, p)

    out_none : (d : ℕ) → valued_in d t.rows ≡ 0 → valued_in d (behead t.rows r) ≡ 0
    out_none d p = let o : valued_in d (behead t.rows r) + cond (eqb c d) 1 0 ≡ valued_in d t.rows = out_is d in omega (arith, o, p)

    out_other : (d : ℕ) → (c ≡ d → ⊥) → valued_in d (behead t.rows r) ≡ valued_in d t.rows
    out_other d x = let o : valued_in d (behead t.rows r) + 0 ≡ valued_in d t.rows = ap (λ (b : Bool). valued_in d (behead t.rows r) + cond b 1 0) (sym (ne_eqb c d x)) ∙ out_is d in omega (arith, o)

    out_alive : (i : ℕ) → i < length (behead t.rows r) → get_or t.alive i false ≡ true
    out_alive i h = k.alive i (let e : length (behead t.rows r) ≡ length t.rows = length-behead t.rows r in omega (arith, h, e))

    -- its edge stays in another row
    pub laid_fewer : 0 < valued_in c (behead t.rows r) → IsLaid (taken t r n) E names spare room
    laid_fewer left = record {
      own = own-others n t.columns k.own;
      alive = out_alive;
      named = k.named ∙ sym (length-others n t.columns);
      keyed = λ d p. k.keyed d (out_less d p);
      found = λ x d h. (let g = k.found x d h in (g.0, still d g.1 (cases_Bool (eqb c d))));
      empty = λ d h. (let g = k.empty d h in (g.0, out_none d g.1));
      once = k.once;
      sized = k.sized;
      fits = k.fits;
    }
      where
        still : (d : ℕ) → 0 < valued_in d t.rows → (eqb c d ≡ true) ⊎ (eqb c d ≡ false) → 0 < valued_in d (behead t.rows r)
        still d g (inl y) = subst (λ (x : ℕ). 0 < valued_in x (behead t.rows r)) (eqb-true c d y) left
        still d g (inr f) = let o : valued_in d (behead t.rows r) ≡ valued_in d t.rows = out_other d (eqb-false c d f) in omega (arith, o, g)

    -- its edge is in no row any more
    pub laid_gone : (names2 : BTreeMap Edge ℕ) → IsCrossed t → valued_in c (behead t.rows r) ≡ 0 → Updates edge_cmp names names2 (edge_at E c) None → btree_map_len names2 + 1 ≡ btree_map_len names → IsLaid (taken t r n) E names2 (spare ++ c ∷ []) room
    laid_gone names2 x left up fewer = record {
      own = own-others n t.columns k.own;
      alive = out_alive;
      named = k.named ∙ sym (length-others n t.columns);
      keyed = keyed;
      found = λ q d h. found q d h (cases_Bool (is_eq (edge_cmp (edge_at E c) q)));
      empty = λ d h. empty d h (cases_Bool (eqb c d));
      once = λ d. once d (cases_Bool (eqb c d));
      sized = (let s : btree_map_len names + length spare ≡ length E = k.sized in let a : length (spare ++ c ∷ []) ≡ length spare + 1 = length-push spare c in omega (arith, s, a, fewer));
      fits = k.fits;
    }
      where
        had : 0 < valued_in c t.rows
        had = omega (arith, out_here)

        its : column_of names (edge_at E c) ≡ Some c
        its = k.keyed c had

        not_spare : times c spare ≡ 0
        not_spare = none_of (times c spare) (λ p. (let z : valued_in c t.rows ≡ 0 = (k.empty c p).1 in omega (arith, z, had)))

        keyed : (d : ℕ) → 0 < valued_in d (behead t.rows r) → column_of names2 (edge_at E d) ≡ Some d
        keyed d p =
            let g : column_of names (edge_at E d) ≡ Some d = k.keyed d (out_less d p) in
            elsewhere names names2 (edge_at E c) None up (edge_at E d)
            (λ z. (let w : c ≡ d = some_is c d (sym its ∙ ap (column_of names) z ∙ g) in
            let q : valued_in c (behead t.rows r) ≡ valued_in d (behead t.rows r) = ap (λ (y : ℕ). valued_in y (behead t.rows r)) w in omega (arith, q, left, p)))
            ∙ g

        found : (q : Edge) (d : ℕ) → column_of names2 q ≡ Some d → (is_eq (edge_cmp (edge_at E c) q) ≡ true) ⊎ (is_eq (edge_cmp (edge_at E c) q) ≡ false) → (edge_at E d ≡ q) × (0 < valued_in d (behead t.rows r))
        found q d h (inl y) = absurd (none-some d (sym up.1 ∙ ap (column_of names2) (one_key (edge_at E c) q y) ∙ h))
        found q d h (inr f) =
            let g = k.found q d (sym (up.2 q f) ∙ h) in
            let g1 : 0 < valued_in d t.rows = g.1 in
            let o : valued_in d (behead t.rows r) ≡ valued_in d t.rows = out_other d (λ z. (let t2 : true ≡ false = sym (is_key (edge_at E c) q (ap (edge_at E) z ∙ g.0)) ∙ f in cc)) in
            (g.0, omega (arith, o, g1))

        empty : (d : ℕ) → 0 < times d (spare ++ c ∷ []) → (eqb c d ≡ true) ⊎ (eqb c d ≡ false) → (d < length E) × (valued_in d (behead t.rows r) ≡ 0)
        empty d h (inl y) = subst (λ (z : ℕ). (z < length E) × (valued_in z (behead t.rows r) ≡ 0)) (eqb-true c d y) (placed c x had, left)
        empty d h (inr f) =
            let s : times d (spare ++ c ∷ []) ≡ times d spare + 0 = times-append d spare c ∙ ap (λ (b : Bool). times d spare + cond b 1 0) f in
            let g = k.empty d (omega (arith, s, h)) in
            (g.0, out_none d g.1)

        once : (d : ℕ) → (eqb c d ≡ true) ⊎ (eqb c d ≡ false) → times d (spare ++ c ∷ []) ≤ 1
        once d (inl y) = subst (λ (z : ℕ). times z (spare ++ c ∷ []) ≤ 1) (eqb-true c d y) (let s : times c (spare ++ c ∷ []) ≡ times c spare + 1 = times-last spare c in let z : times c spare ≡ 0 = not_spare in omega (arith, s, z))
        once d (inr f) =
            let s : times d (spare ++ c ∷ []) ≡ times d spare + 0 = times-append d spare c ∙ ap (λ (b : Bool). times d spare + cond b 1 0) f in
            let o : times d spare ≤ 1 = k.once d in
            omega (arith, s, o)
