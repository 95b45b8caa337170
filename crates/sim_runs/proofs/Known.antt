-- Starts and known exits as tests, and what is in the lists of the graph.
use Rattle.std.proofs.Common.{◌≡◌, ℕ, zero, suc, Bool, true, false, cond, ◌&&◌, ◌||◌, List, [], ◌∷◌, ◌++◌, map, Option, Some, None, Contains, refl, sym, ap, ◌∙◌, subst, arith, ⊎_elim, ◌⊎◌, inl, inr}
use Rattle.std.specs.Prelude.{filter, ◌==◌, option_to_list}
use Rattle.std.proofs.lemmas.Bool.{eq-eqb, eqb-true, true≢false}
use Rattle.elf_read.specs.declared.exe.Exe.{Exe}
use Rattle.elf_read.specs.Elf.{IsGuest, is_exec}
use Rattle.block_cut.specs.declared.ends.End.{End}
use Rattle.block_cut.specs.declared.ends.End.TheVariants.{Transfer, Island, BeforeIsland, Unreadable, Full}
use Rattle.block_cut.specs.Transfers.{is_among, leads_to}
use Rattle.block_cut.specs.Blocks.{last_of, block_of, follow_of}
use Rattle.block_cut.specs.CountedEdges.{is_beginning, counts, counting}
use Rattle.run_model.specs.Edges.{Edge}
use Rattle.flow_graph.specs.Graph.{targets_from, known_by, known_of, IsStart, starts_in}
use Rattle.flow_graph.specs.GraphOf.{graph_of, OneGraph}
use Rattle.sim_runs.specs.Recovered.{is_start_of, knows_of}

-- a block that ends with its transfer
abbrev pub is_transfer_end : End → Bool
is_transfer_end Transfer = true
is_transfer_end _ = false

-- ---- lists

here : {X : Type 0} (x : X) (xs : List X) → Contains (x ∷ xs) x
here x xs = (0, omega arith, refl)

there : {X : Type 0} (y x : X) (xs : List X) → Contains xs x → Contains (y ∷ xs) x
there y x xs h = (suc h.0, let l = h.1 in omega (arith, l), h.2)

pub none : {X : Type 0} (x : X) → Contains [] x → ⊥
none x h = let l = h.1 in absurd (omega (arith, l))

first_or_later : {X : Type 0} (y x : X) (xs : List X) → Contains (y ∷ xs) x → (y ≡ x) ⊎ Contains xs x
first_or_later y x xs (zero, l, i) = inl i
first_or_later y x xs (suc k, l, i) = inr (k, omega (arith, l), i)

and_both : (a b : Bool) → a ≡ true → b ≡ true → (a && b) ≡ true
and_both true true h k = refl
and_both true false h k = k
and_both false b h k = h

pub and_inv : (a b : Bool) → (a && b) ≡ true → (a ≡ true) × (b ≡ true)
and_inv true true h = (refl, refl)
and_inv true false h = cc
and_inv false b h = cc

pub to_among : (xs : List ℕ) (x : ℕ) → Contains xs x → is_among xs x ≡ true
to_among [] x h = absurd (none x h)
to_among (y ∷ ys) x h = ⊎_elim
    (λ (e : y ≡ x). ap (λ b. b || is_among ys x) (eq-eqb x y (sym e)))
    (λ (c : Contains ys x). either (x == y) (is_among ys x) (to_among ys x c))
    (first_or_later y x ys h)
  where
    either : (a b : Bool) → b ≡ true → (a || b) ≡ true
    either true b e = refl
    either false b e = e

pub of_among : (xs : List ℕ) (x : ℕ) → is_among xs x ≡ true → Contains xs x
of_among [] x h = cc
of_among (y ∷ ys) x h = go (x == y) refl (of_among ys x) h
  where
    go : (b : Bool) → (x == y) ≡ b → (is_among ys x ≡ true → Contains ys x) → (b || is_among ys x) ≡ true → Contains (y ∷ ys) x
    go true e rest h = let P : ℕ → Type 0 = λ z. Contains (y ∷ ys) z in subst P (sym (eqb-true x y e)) (here y ys)
    go false e rest h = there y x ys (rest h)

in_filter : (p : Edge → Bool) (es : List Edge) (e : Edge) → Contains es e → p e ≡ true → Contains (filter p es) e
in_filter p [] e h t = absurd (none e h)
in_filter p (a ∷ es) e h t = go (p a) refl (λ c. in_filter p es e c t)
  where
    go : (b : Bool) → p a ≡ b → (Contains es e → Contains (filter p es) e) → Contains (cond b (a ∷ filter p es) (filter p es)) e
    go true q rest = ⊎_elim
        (λ (same : a ≡ e). let P : Edge → Type 0 = λ z. Contains (a ∷ filter p es) z in subst P same (here a (filter p es)))
        (λ (c : Contains es e). there a e (filter p es) (rest c))
        (first_or_later a e es h)
    go false q rest = ⊎_elim
        (λ (same : a ≡ e). absurd (true≢false (sym t ∙ sym (ap p same) ∙ q)))
        (λ (c : Contains es e). rest c)
        (first_or_later a e es h)

of_filter : (p : Edge → Bool) (es : List Edge) (e : Edge) → Contains (filter p es) e → Contains es e × (p e ≡ true)
of_filter p [] e h = absurd (none e h)
of_filter p (a ∷ es) e h = go (p a) refl (of_filter p es e) h
  where
    go : (b : Bool) → p a ≡ b → (Contains (filter p es) e → Contains es e × (p e ≡ true)) → Contains (cond b (a ∷ filter p es) (filter p es)) e → Contains (a ∷ es) e × (p e ≡ true)
    go true q rest c = ⊎_elim
        (λ (same : a ≡ e). let P : Edge → Type 0 = λ z. Contains (a ∷ es) z in (subst P same (here a es), ap p (sym same) ∙ q))
        (λ (d : Contains (filter p es) e). let r = rest d in (there a e es r.0, r.1))
        (first_or_later a e (filter p es) c)
    go false q rest c = let r = rest c in (there a e es r.0, r.1)

of_targets : (es : List Edge) (t : ℕ) → Contains (map (λ (e : Edge). e.1) es) t → (e : Edge) × Contains es e × (e.1 ≡ t)
of_targets [] t h = absurd (none t h)
of_targets (a ∷ es) t h = ⊎_elim
    (λ (same : a.1 ≡ t). (a, here a es, same))
    (λ (c : Contains (map (λ (e : Edge). e.1) es) t). let r = of_targets es t c in (r.0, there a r.0 es r.1, r.2))
    (first_or_later a.1 t (map (λ (e : Edge). e.1) es) h)

in_targets : (es : List Edge) (e : Edge) → Contains es e → Contains (map (λ (e : Edge). e.1) es) e.1
in_targets [] e h = absurd (none e h)
in_targets (a ∷ es) e h = ⊎_elim
    (λ (same : a ≡ e). subst (λ (z : Edge). Contains (z.1 ∷ map (λ (e : Edge). e.1) es) e.1) (sym same) (here e.1 (map (λ (e : Edge). e.1) es)))
    (λ (c : Contains es e). there a.1 e.1 (map (λ (e : Edge). e.1) es) (in_targets es e c))
    (first_or_later a e es h)

in_option : (o : Option ℕ) (y : ℕ) → Contains (option_to_list o) y → o ≡ Some y
in_option None y h = absurd (none y h)
in_option (Some x) y h = ⊎_elim (λ (e : x ≡ y). ap some e) (λ (c : Contains [] y). absurd (none y c)) (first_or_later x y [] h)
  where
    some : ℕ → Option ℕ
    some x = Some x

-- in the first of two lists or in the second
pub in_either : {X : Type 0} (xs ys : List X) (x : X) → Contains (xs ++ ys) x → Contains xs x ⊎ Contains ys x
in_either [] ys x h = inr h
in_either (z ∷ xs) ys x h = ⊎_elim
    (λ (e : z ≡ x). inl (subst (λ z. Contains (z ∷ xs) x) (sym e) (here x xs)))
    (λ (c : Contains (xs ++ ys) x). ⊎_elim (λ (d : Contains xs x). inl (there z x xs d)) (λ (d : Contains ys x). inr d) (in_either xs ys x c))
    (first_or_later z x (xs ++ ys) h)

-- ---- the graph

module _ (exe : Exe) (edges : List Edge) where
  abbrev counts_of : List Edge
  counts_of = counting exe edges

  -- the end of a block decides its known exits
  known_at : (x : ℕ) (e : End) → (block_of exe x).end ≡ e → known_of exe counts_of x ≡ known_by e (targets_from (last_of x (block_of exe x).insts) counts_of) (option_to_list (follow_of exe x))
  unfolding known_of
  known_at x e h = ap (λ e. known_by e (targets_from (last_of x (block_of exe x).insts) counts_of) (option_to_list (follow_of exe x))) h

  other_by : (e : End) (targets next : List ℕ) → is_transfer_end e ≡ false → known_by e targets next ≡ next
  other_by Transfer targets next h = cc
  other_by Island targets next h = refl
  other_by BeforeIsland targets next h = refl
  other_by Unreadable targets next h = refl
  other_by Full targets next h = refl

  pub known_other : (x : ℕ) → is_transfer_end (block_of exe x).end ≡ false → known_of exe counts_of x ≡ option_to_list (follow_of exe x)
  known_other x h = known_at x (block_of exe x).end refl ∙ other_by (block_of exe x).end (targets_from (last_of x (block_of exe x).insts) counts_of) (option_to_list (follow_of exe x)) h

-- an exit that is known with more edges is known with the first of them, or the others lead from the block there
pub known_or : (exe : Exe) (edges more : List Edge) (x y : ℕ) → Contains (known_of exe (counting exe (edges ++ more)) x) y
    → Contains (known_of exe (counting exe edges) x) y ⊎ (((block_of exe x).end ≡ Transfer) × Contains more (last_of x (block_of exe x).insts, y))
known_or exe edges more x y h = go (is_transfer_end (block_of exe x).end) refl
  where
    transfer : (e : End) → is_transfer_end e ≡ true → e ≡ Transfer
    transfer Transfer h = refl
    transfer Island h = cc
    transfer BeforeIsland h = cc
    transfer Unreadable h = cc
    transfer Full h = cc

    moved : (es : List Edge) (e : Edge) → e.0 ≡ (last_of x (block_of exe x).insts) → e.1 ≡ y → Contains es e → Contains es (last_of x (block_of exe x).insts, y)
    moved es e a b c = subst (λ z. Contains es (last_of x (block_of exe x).insts, z)) b (subst (λ z. Contains es (z, e.1)) a c)

    kept : (block_of exe x).end ≡ Transfer → counts exe (last_of x (block_of exe x).insts, y) ≡ true → Contains edges (last_of x (block_of exe x).insts, y) → Contains (known_of exe (counting exe edges) x) y
    kept t n c =
        let f = in_filter (counts exe) edges (last_of x (block_of exe x).insts, y) c n in
        let g = in_filter (λ (a : Edge). a.0 == (last_of x (block_of exe x).insts)) (counting exe edges) (last_of x (block_of exe x).insts, y) f (eq-eqb (last_of x (block_of exe x).insts) (last_of x (block_of exe x).insts) refl) in
        let P : List ℕ → Type 0 = λ ks. Contains ks y in
        subst P (sym (known_at exe edges x Transfer t)) (in_targets (filter (λ (a : Edge). a.0 == (last_of x (block_of exe x).insts)) (counting exe edges)) (last_of x (block_of exe x).insts, y) g)

    go : (b : Bool) → is_transfer_end (block_of exe x).end ≡ b → Contains (known_of exe (counting exe edges) x) y ⊎ (((block_of exe x).end ≡ Transfer) × Contains more (last_of x (block_of exe x).insts, y))
    go false f = let P : List ℕ → Type 0 = λ ks. Contains ks y in inl (subst P (known_other exe (edges ++ more) x f ∙ sym (known_other exe edges x f)) h)
    go true f =
        let t = transfer (block_of exe x).end f in
        let P : List ℕ → Type 0 = λ ks. Contains ks y in
        let r = of_targets (filter (λ (a : Edge). a.0 == (last_of x (block_of exe x).insts)) (counting exe (edges ++ more))) y (subst P (known_at exe (edges ++ more) x Transfer t) h) in
        let c = of_filter (λ (a : Edge). a.0 == (last_of x (block_of exe x).insts)) (counting exe (edges ++ more)) r.0 r.1 in
        let d = of_filter (counts exe) (edges ++ more) r.0 c.0 in
        let m = moved (edges ++ more) r.0 (eqb-true r.0.0 (last_of x (block_of exe x).insts) c.1) r.2 d.0 in
        let n : counts exe (last_of x (block_of exe x).insts, y) ≡ true = subst (λ z. counts exe (last_of x (block_of exe x).insts, z) ≡ true) r.2 (subst (λ z. counts exe (z, r.0.1) ≡ true) (eqb-true r.0.0 (last_of x (block_of exe x).insts) c.1) d.1) in
        ⊎_elim
        (λ (k : Contains edges (last_of x (block_of exe x).insts, y)). inl (kept t n k))
        (λ (k : Contains more (last_of x (block_of exe x).insts, y)). inr (t, k))
        (in_either edges more (last_of x (block_of exe x).insts, y) m)

module _ (one : OneGraph) (exe : Exe) (guest : IsGuest exe) (edges : List Edge) where
  abbrev counted : List Edge
  counted = counting exe edges

  start_is : (x : ℕ) → is_start_of exe edges x ≡ true → IsStart exe counted x
  start_is x h = ((one.starts exe edges guest).each x).0 (of_among (starts_in (graph_of exe edges)) x h)

  is_a_start : (x : ℕ) → IsStart exe counted x → is_start_of exe edges x ≡ true
  is_a_start x h = to_among (starts_in (graph_of exe edges)) x (((one.starts exe edges guest).each x).1 h)

  -- the target of an edge that counts is a start, and a known exit of a block that ends with its transfer
  counted_has : (e : Edge) → Contains edges e → counts exe e ≡ true → Contains counted e
  counted_has e h t = in_filter (counts exe) edges e h t

  pub counted_starts : (e : Edge) → Contains edges e → counts exe e ≡ true → is_start_of exe edges e.1 ≡ true
  counted_starts e h t = is_a_start e.1 (record { edge = e; traced = counted_has e h t; reached = (0, refl) })

  -- the entry, where a run began
  pub entry_starts : Contains edges (0, exe.entry) → is_exec exe.entry exe.segments ≡ true → is_start_of exe edges exe.entry ≡ true
  unfolding counts
  entry_starts h x =
      let b : is_beginning exe (0, exe.entry) ≡ true = and_both (0 == 0) (exe.entry == exe.entry) refl (eq-eqb exe.entry exe.entry refl) in
      let c : counts exe (0, exe.entry) ≡ true = and_both (is_exec exe.entry exe.segments) (is_beginning exe (0, exe.entry) || leads_to exe 0 exe.entry) x (ap (λ b. b || leads_to exe 0 exe.entry) b) in
      is_a_start exe.entry (record { edge = (0, exe.entry); traced = counted_has (0, exe.entry) h c; reached = (0, refl) })

  -- a known exit is a start
  pub known_starts : (x y : ℕ) → is_start_of exe edges x ≡ true → knows_of exe edges x y ≡ true → is_start_of exe edges y ≡ true
  known_starts x y s k = go (is_transfer_end (block_of exe x).end) refl
    where
      has : Contains (known_of exe counted x) y
      has = of_among (known_of exe counted x) y k

      transfer : (e : End) → is_transfer_end e ≡ true → e ≡ Transfer
      transfer Transfer h = refl
      transfer Island h = cc
      transfer BeforeIsland h = cc
      transfer Unreadable h = cc
      transfer Full h = cc

      by_target : (block_of exe x).end ≡ Transfer → is_start_of exe edges y ≡ true
      by_target e =
          let P : List ℕ → Type 0 = λ ks. Contains ks y in
          let t = of_targets (filter (λ (a : Edge). a.0 == last_of x (block_of exe x).insts) counted) y (subst P (known_at exe edges x Transfer e) has) in
          let c = of_filter (λ (a : Edge). a.0 == last_of x (block_of exe x).insts) counted t.0 t.1 in
          is_a_start y (record { edge = t.0; traced = c.0; reached = (0, t.2) })

      by_follow : is_transfer_end (block_of exe x).end ≡ false → is_start_of exe edges y ≡ true
      by_follow h =
          let P : List ℕ → Type 0 = λ ks. Contains ks y in
          let f = in_option (follow_of exe x) y (subst P (known_other exe edges x h) has) in
          let r = start_is x s in
          is_a_start y (record { edge = r.edge; traced = r.traced; reached = (suc r.reached.0, (x, r.reached.1, f)) })

      go : (b : Bool) → is_transfer_end (block_of exe x).end ≡ b → is_start_of exe edges y ≡ true
      go true h = by_target (transfer (block_of exe x).end h)
      go false h = by_follow h
