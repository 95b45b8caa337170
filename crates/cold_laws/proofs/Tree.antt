-- The dispatcher's tree of comparisons finds a number among those of a list, or that it is none of them.
use Rattle.std.proofs.Common.{◌≡◌, ℕ, zero, suc, ◌+◌, ◌-◌, ◌*◌, ◌/◌, ◌^◌, ◌<◌, ◌≤◌, Bool, true, false, List, [], ◌∷◌, length, take, drop, get_or, nat_lt, nat_eq, None, Some, if◌then◌else◌, All, refl, sym, ap, ◌∙◌, subst, arith, ⊎_elim, ◌⊎◌, inl, inr}
use Rattle.std.specs.Prelude.{◌==◌, ◌||◌}
use Rattle.std.specs.List.Sorted.{IsStrictlyIncreasing}
use Rattle.std.proofs.lemmas.List.Kept.{AllPairs-from_increasing}
use Rattle.block_cut.specs.Transfers.{is_among}
use Rattle.std.proofs.lemmas.Bool.{eq-eqb, ne_eqb, cases_lt, ltb-true, ltb-false, eqb-true, eqb-false}
use Rattle.std.proofs.lemmas.List.{get_or-take, get_or-drop, length-take-le, length-drop}
use Rattle.std.proofs.lemmas.List.Elements.{All-get_or, All-from_get_or}
use Rattle.br_word.specs.State.{State}
use Rattle.ia_inst.specs.declared.inst.Inst.{Inst}
use Rattle.ia_inst.specs.declared.inst.Inst.TheVariants as inst
use Rattle.ia_inst.specs.Canonical.{canonical}
use Rattle.ia_inst.specs.Step.{step}
use Rattle.ia_encode.specs.declared.item.Dest.{Dest}
use Rattle.ia_encode.specs.declared.item.Dest.TheVariants as dests
use Rattle.ia_encode.specs.declared.item.Item.TheVariants as item
use Rattle.ia_encode.specs.Items.{Stands, Reads, distance, size_of_items}
use Rattle.run_model.specs.Run.{first_choice}
use Rattle.par_moves.specs.declared.locations.Place.TheVariants.{Reg}
use Rattle.par_moves.specs.declared.locations.MoveSource.TheVariants.{Num}
use Rattle.code_laws.specs.Seen.{IsCode, Cells}
use Rattle.code_laws.proofs.Ops.{OCmp, act, inst as op_inst}
use Rattle.code_laws.proofs.Keeps.{stands_parts}
use Rattle.sim_runs.specs.Relation.{Plan}
use Rattle.sim_runs.specs.Laws.{Leads}
use Rattle.cold_code.specs.Dispatcher.{tree, compare_with}
use Rattle.cold_laws.proofs.Steps.{At, then_leads, op_step}
use Rattle.cold_laws.proofs.Leaving.{wider}
use Rattle.cold_laws.proofs.Search.{below_leads, jcc_step, jmp_step, compare_same}

-- how many members a tree of this depth has at most, and how many steps lead through it
abbrev pub members : ℕ → ℕ
members zero = 1
members (suc d) = 2 * members d

abbrev pub through : ℕ → ℕ → ℕ
through zero high = suc (suc (suc high))
through (suc d) high = suc (suc (through d high))

through_leaf : (d high : ℕ) → suc (suc (suc high)) ≤ through d high
through_leaf zero high = omega arith
through_leaf (suc d) high = let e = through_leaf d high in omega arith

-- a part of the list, from index i on, in which x stands if it stands anywhere
pub record Part (whole : List ℕ) (x : ℕ) (l : List ℕ) (i : ℕ) : Type 0 where
  pub each : (j : ℕ) → j < length l → get_or l j 0 ≡ get_or whole (i + j) 0
  pub fits : i + length l ≤ length whole
  pub only : (j : ℕ) → j < length whole → get_or whole j 0 ≡ x → (i ≤ j) × (j < i + length l)

abbrev pub Rises : List ℕ → Type 0
Rises whole = (j k : ℕ) → j < k → k < length whole → get_or whole j 0 < get_or whole k 0

pub whole_part : (l : List ℕ) (x : ℕ) → Part l x l 0
whole_part l x = record { each = λ j b. (let z : j ≡ 0 + j = omega arith in ap (λ j. get_or l j 0) z); fits = omega arith; only = λ j b e. (omega arith, omega arith) }

pub rises : (l : List ℕ) → IsStrictlyIncreasing l → Rises l
rises l h j k b c = AllPairs-from_increasing l h j k 0 b c

-- a member, and a number that is no member
pub is_member : (l : List ℕ) (x j : ℕ) → j < length l → get_or l j 0 ≡ x → is_among l x ≡ true
is_member [] x j b e = absurd (omega arith)
is_member (y ∷ ys) x zero b e = rw (eq-eqb x y (sym e)) refl
is_member (y ∷ ys) x (suc j) b e = let h = is_member ys x j (omega arith) e in by (x == y) h
  where
    by : (b : Bool) → is_among ys x ≡ true → (b || is_among ys x) ≡ true
    by true h = refl
    by false h = h

pub no_member : (l : List ℕ) (x : ℕ) → ((j : ℕ) → j < length l → get_or l j 0 ≡ x → ⊥) → is_among l x ≡ false
no_member [] x none = refl
no_member (y ∷ ys) x none = rw (ne_eqb x y (λ e. none 0 (omega arith) (sym e))) (no_member ys x (λ j b e. none (suc j) (omega arith) e))

low_part : (whole : List ℕ) (x : ℕ) (l : List ℕ) (i half : ℕ) → Rises whole → Part whole x l i → half < length l → x < get_or l half 0 → Part whole x (take half l) i
low_part whole x l i half up p h less =
    let n = length-take-le half l (omega arith) in
    let f = p.fits in
    record {
      each = λ j b. (let c : j < half = omega (arith, n) in get_or-take half l j 0 c ∙ p.each j (omega arith));
      fits = omega (arith, n);
      only = λ j b e. (let o = p.only j b e in (
        o.0,
        ⊎_elim
            (λ (c : j < i + half). omega (arith, n))
            (λ (c : i + half ≤ j). absurd (above j b e c (cases_lt (i + half) j)))
            (cases_lt j (i + half)),
      ));
    }
  where
    above : (j : ℕ) → j < length whole → get_or whole j 0 ≡ x → i + half ≤ j → (i + half < j) ⊎ (j ≤ i + half) → ⊥
    above j b e c (inl m) = let u = up (i + half) j m b in let q = p.each half h in omega (arith, u, q, e, less)
    above j b e c (inr m) = let q = p.each half h in let z : j ≡ i + half = omega arith in let r = ap (λ j. get_or whole j 0) z in omega (arith, q, r, e, less)

high_part : (whole : List ℕ) (x : ℕ) (l : List ℕ) (i half : ℕ) → Rises whole → Part whole x l i → half < length l → get_or l half 0 ≤ x → Part whole x (drop half l) (i + half)
high_part whole x l i half up p h more =
    let n = length-drop half l in
    let f = p.fits in
    record {
      each = λ j b. (let z : i + (half + j) ≡ i + half + j = omega arith in get_or-drop half l j 0 ∙ p.each (half + j) (omega (arith, n)) ∙ ap (λ k. get_or whole k 0) z);
      fits = omega (arith, n);
      only = λ j b e. (let o = p.only j b e in (
        ⊎_elim
            (λ (c : j < i + half). absurd (below j e c))
            (λ (c : i + half ≤ j). c)
            (cases_lt j (i + half)),
        omega (arith, n, o.1),
      ));
    }
  where
    below : (j : ℕ) → get_or whole j 0 ≡ x → j < i + half → ⊥
    below j e c = let f = p.fits in let u = up j (i + half) c (omega arith) in let q = p.each half h in omega (arith, u, q, e, more)

module _ (plan : Plan) (code : IsCode plan.code) (dest : Dest → ℕ) where
  reads_low : (at n : ℕ) (i : Inst) → Reads plan.code at i n → at < 2 ^ 32
  reads_low at n i r = let a = r.starts in let b = code.below in omega arith

  -- a tree begins in the code
  tree_low : (n : ℕ) (l : List ℕ) (i miss fresh at to : ℕ) → length l ≤ n → 0 < length l → Stands dest plan.code at (tree n l i miss fresh) to → at < 2 ^ 32
  unfolding tree
  tree_low zero l i miss fresh at to fuel some st = absurd (omega arith)
  tree_low (suc n) [] i miss fresh at to fuel some st = absurd (omega arith)
  tree_low (suc n) (v ∷ []) i miss fresh at to fuel some st = reads_low at _ _ st.0
  tree_low (suc n) (v ∷ w ∷ vs) i miss fresh at to fuel some st = reads_low at _ _ st.0

  module _ (P : State → Type 0) (K : Cells → Type 0) (whole : List ℕ) (x miss high : ℕ)
      (up : Rises whole)
      (keep : (b : Cells) (v c : ℕ) → K b → K (act (OCmp (Num v)) b c))
      (eax : (b : Cells) → K b → b.cell (Reg 0) ≡ x)
      (small : x < 2 ^ 32)
      (hit_low : (j : ℕ) → j < length whole → dest (dests.Label (1 + j)) < 2 ^ 32)
      (miss_low : dest (dests.Label miss) < 2 ^ 32)
      (hit : (j : ℕ) → j < length whole → get_or whole j 0 ≡ x → (w : State) (b : Cells) (ds : List ℕ) → K b → At plan b (dest (dests.Label (1 + j))) w → Leads P high w ds)
      (missed : ((j : ℕ) → j < length whole → get_or whole j 0 ≡ x → ⊥) → (w : State) (b : Cells) (ds : List ℕ) → K b → At plan b (dest (dests.Label miss)) w → Leads P high w ds) where
    -- one member: a jump where it is met, and one to the miss
    leaf_leads : (v i : ℕ) (u : State) (a : Cells) (at to : ℕ) (cs : List ℕ) → v < 2 ^ 32 → Part whole x (v ∷ []) i → K a → At plan a at u
        → Stands dest plan.code at (compare_with v ∷ item.Jump (Some 4) (dests.Label (1 + i)) ∷ item.Jump None (dests.Label miss) ∷ []) to → Leads P (suc (suc (suc high))) u cs
    leaf_leads v i u a at to cs fit p k h st =
        let n = length (canonical (op_inst (OCmp (Num v)))) in
        let b = act (OCmp (Num v)) a (first_choice cs) in
        let u1 = step u (first_choice cs) in
        let kb = keep a v (first_choice cs) k in
        let e = eax a k in
        let h1 : At plan b (at + n) u1 = op_step plan code (OCmp (Num v)) u a at (first_choice cs) h fit st.0 in
        let z = compare_same a v (first_choice cs) (omega (arith, e, small)) fit in
        let f = p.fits in
        let l = hit_low i (omega arith) in
        let x2 = first_choice (drop 1 cs) in
        let h2 = jcc_step plan code u1 b (at + n) (dest (dests.Label (1 + i))) 4 x2 (nat_eq (a.cell (Reg 0)) v) h1 st.1.0 l z in
        then_leads plan code P (suc (suc high)) u a b at (at + n) n (op_inst (OCmp (Num v))) cs h st.0 h1 refl
        (then_leads plan code P (suc high) u1 b b (at + n) (if nat_eq (a.cell (Reg 0)) v then dest (dests.Label (1 + i)) else at + n + 6) 6 (inst.Jcc 4 (distance (at + n + 6) (dest (dests.Label (1 + i))))) (drop 1 cs) h1 st.1.0 h2 refl
        (by (nat_eq (a.cell (Reg 0)) v) refl (step u1 x2) b (at + n + 6) (drop 1 (drop 1 cs)) kb e h2 st.1.1.0))
      where
        by : (m : Bool) → nat_eq (a.cell (Reg 0)) v ≡ m → (w : State) (b : Cells) (e : ℕ) (ds : List ℕ) → K b → a.cell (Reg 0) ≡ x → At plan b (if m then dest (dests.Label (1 + i)) else e) w
            → Reads plan.code e (inst.Jmp (distance (e + 5) (dest (dests.Label miss)))) 5 → Leads P (suc high) w ds
        by true q w b e ds kb ex h r =
            let f = p.fits in
            let g = p.each 0 (omega arith) in
            let y = eqb-true (a.cell (Reg 0)) v q in
            let z : i + 0 ≡ i = omega arith in
            wider P high (suc high) w ds (omega arith) (hit i (omega arith) (sym (g ∙ ap (λ k. get_or whole k 0) z) ∙ sym y ∙ ex) w b ds kb h)
        by false q w b e ds kb ex h r =
            let none : (j : ℕ) → j < length whole → get_or whole j 0 ≡ x → ⊥ = λ j l m.
            (let o = p.only j l m in
            let from = o.0 in
            let up_to = o.1 in
            let z : j ≡ i + 0 = omega (arith, from, up_to) in
            let g : v ≡ get_or whole (i + 0) 0 = p.each 0 (omega arith) in
            eqb-false (a.cell (Reg 0)) v q (ex ∙ sym m ∙ ap (λ k. get_or whole k 0) z ∙ sym g)) in
            then_leads plan code P high w b b e (dest (dests.Label miss)) 5 (inst.Jmp (distance (e + 5) (dest (dests.Label miss)))) ds h r (jmp_step plan code w b e (dest (dests.Label miss)) (first_choice ds) h r miss_low) refl
            (missed none (step w (first_choice ds)) b (drop 1 ds) kb (jmp_step plan code w b e (dest (dests.Label miss)) (first_choice ds) h r miss_low))

    -- the tree of a part leads on, wherever it stands
    abbrev On : ℕ → ℕ → ℕ → ℕ → List ℕ → State → List ℕ → Type 0
    On n d i fresh l z ds = (at to : ℕ) (b : Cells) → (length l ≤ n) × (0 < length l) × (length l ≤ members d) → All (λ v. v < 2 ^ 32) l → Part whole x l i → K b → At plan b at z
        → Stands dest plan.code at (tree n l i miss fresh) to → Leads P (through d high) z ds

    pub tree_leads : (n d i fresh : ℕ) (l : List ℕ) (u : State) (a : Cells) (at to : ℕ) (cs : List ℕ) → length l ≤ n → 0 < length l → length l ≤ members d → All (λ v. v < 2 ^ 32) l → Part whole x l i → K a → At plan a at u
        → Stands dest plan.code at (tree n l i miss fresh) to → Leads P (through d high) u cs
    unfolding tree
    tree_leads zero d i fresh l u a at to cs fuel some few fit p k h st = absurd (omega arith)
    tree_leads (suc n) d i fresh [] u a at to cs fuel some few fit p k h st = absurd (omega arith)
    tree_leads (suc n) d i fresh (v ∷ []) u a at to cs fuel some few fit p k h st =
        wider P (suc (suc (suc high))) (through d high) u cs (through_leaf d high)
        (leaf_leads v i u a at to cs (All-get_or (λ v. v < 2 ^ 32) (v ∷ []) 0 0 (omega arith) fit) p k h st)
    tree_leads (suc n) zero i fresh (v ∷ w ∷ vs) u a at to cs fuel some few fit p k h st = absurd (omega arith)
    tree_leads (suc n) (suc d) i fresh (v ∷ w ∷ vs) u a at to cs fuel some few fit p k h st =
        below_leads plan code P (through d high) u a at (dest (dests.Label fresh)) m cs fits h st.0 st.1.0 label_low
        (λ z ds g. by z ds
        (λ at to b bounds f p k h st. tree_leads n d i (suc fresh) (take half l) z b at to ds bounds.0 bounds.1 bounds.2 f p k h st)
        (λ at to b bounds f p k h st. tree_leads n d (i + half) (fresh + half) (drop half l) z b at to ds bounds.0 bounds.1 bounds.2 f p k h st)
        (nat_lt (a.cell (Reg 0)) m) refl (keep a m (first_choice cs) k) g)
      where
        l : List ℕ
        l = v ∷ w ∷ vs

        half : ℕ
        half = length l / 2

        m : ℕ
        m = get_or l half 0

        inside : half < length l
        inside = omega arith

        fits : m < 2 ^ 32
        fits = All-get_or (λ v. v < 2 ^ 32) l half 0 inside fit

        e : ℕ
        e = at + length (canonical (op_inst (OCmp (Num m)))) + 6

        mid : ℕ
        mid = e + size_of_items (tree n (drop half l) (i + half) miss (fresh + half))

        parts : Stands dest plan.code e (tree n (drop half l) (i + half) miss (fresh + half)) mid × Stands dest plan.code mid (item.Label fresh ∷ tree n (take half l) i miss (suc fresh)) to
        parts = stands_parts dest plan.code e (tree n (drop half l) (i + half) miss (fresh + half)) (item.Label fresh ∷ tree n (take half l) i miss (suc fresh)) to st.1.1

        taken : length (take half l) ≡ half
        taken = length-take-le half l (omega arith)

        dropped : length (drop half l) ≡ length l - half
        dropped = length-drop half l

        label_low : dest (dests.Label fresh) < 2 ^ 32
        label_low = let b = tree_low n (take half l) i miss (suc fresh) mid to (omega (arith, taken)) (omega (arith, taken)) parts.1.1 in subst (λ p. p < 2 ^ 32) parts.1.0 b

        fit_part : (l' : List ℕ) → ((j : ℕ) → j < length l' → (g : ℕ) × (g < length l) × (get_or l' j 0 ≡ get_or l g 0)) → All (λ v. v < 2 ^ 32) l'
        fit_part l' f = All-from_get_or (λ v. v < 2 ^ 32) l' 0 (λ j b. (let q = f j b in subst (λ v. v < 2 ^ 32) (sym q.2) (All-get_or (λ v. v < 2 ^ 32) l q.0 0 q.1 fit)))

        by : (z : State) (ds : List ℕ) → On n d i (suc fresh) (take half l) z ds → On n d (i + half) (fresh + half) (drop half l) z ds → (c : Bool) → nat_lt (a.cell (Reg 0)) m ≡ c → K (act (OCmp (Num m)) a (first_choice cs)) → At plan (act (OCmp (Num m)) a (first_choice cs)) (if c then dest (dests.Label fresh) else e) z → Leads P (through d high) z ds
        by z ds lower upper true q kb g =
            let less : x < m = subst (λ y. y < m) (eax a k) (ltb-true (a.cell (Reg 0)) m q) in
            lower (dest (dests.Label fresh)) to (act (OCmp (Num m)) a (first_choice cs)) (omega (arith, taken), omega (arith, taken), omega (arith, taken, few))
            (fit_part (take half l) (λ j b. let c : j < half = omega (arith, taken) in (j, omega arith, get_or-take half l j 0 c)))
            (low_part whole x l i half up p inside less) kb g
            (subst (λ p. Stands dest plan.code p (tree n (take half l) i miss (suc fresh)) to) parts.1.0 parts.1.1)
        by z ds lower upper false q kb g =
            let more : m ≤ x = subst (λ y. m ≤ y) (eax a k) (ltb-false (a.cell (Reg 0)) m q) in
            upper e mid (act (OCmp (Num m)) a (first_choice cs)) (omega (arith, dropped), omega (arith, dropped), omega (arith, dropped, few))
            (fit_part (drop half l) (λ j b. (half + j, omega (arith, dropped), get_or-drop half l j 0)))
            (high_part whole x l i half up p inside more) kb g parts.0
