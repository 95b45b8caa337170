-- the moves of `sequenced`, done one after another, act at once
use Rattle.std.proofs.Common.{◌≡◌, ℕ, zero, suc, ◌+◌, ◌<◌, ◌≤◌, Bool, true, false, cond, not, List, [], ◌∷◌, ◌++◌, length, Option, Some, None, map, get_or, refl, inl, inr, sym, subst, ap, ◌∙◌, ◌-◌, append_assoc, arith}
use Rattle.std.proofs.lemmas.List.{length-map}
use Rattle.std.specs.Prelude.{filter, find, ◌||◌, All}
use Rattle.std.proofs.lemmas.Bool.{both_ways, eqb-true, eq-eqb, cases_Bool, or_cases, or_parts, not-true, not-false}
use Rattle.par_moves.specs.declared.locations.Place.{Place}
use Rattle.par_moves.specs.declared.locations.Place.TheVariants.{Reg, Slot}
use Rattle.par_moves.specs.declared.locations.MoveSource.{MoveSource}
use Rattle.par_moves.specs.declared.locations.MoveSource.TheVariants.{Place as Of, Num}
use Rattle.par_moves.specs.declared.locations.PlaceMove.{PlaceMove}
use Rattle.par_moves.specs.Locations.{same_place, spare, is_from, held}
use Rattle.par_moves.specs.Moves.{is_ready, others, redirect, turn_of, sequenced, Cells, put, done, ActAtOnce, AreApart}
use Rattle.par_moves.proofs.Membership.{In, found, not_found, in_filter, filter_in, shorter, in_map, map_in, all_pass, some_fails, at_index, index_of}

-- ---- places
same_refl : (p : Place) → same_place p p ≡ true
same_refl (Reg a) = eq-eqb a a refl
same_refl (Slot a) = eq-eqb a a refl

same_true : (p q : Place) → same_place p q ≡ true → p ≡ q
same_true (Reg a) (Reg b) e = ap Reg (eqb-true a b e)
same_true (Slot a) (Slot b) e = ap Slot (eqb-true a b e)
same_true (Reg a) (Slot b) e = cc
same_true (Slot a) (Reg b) e = cc

pub differ_sym : (p q : Place) → same_place p q ≡ false → same_place q p ≡ false
differ_sym p q e = elim (cases_Bool (same_place q p)) as (λ _. same_place q p ≡ false) [
  | inl t ↦ absurd (both_ways (same_place p q) e (ap (same_place p) (same_true q p t) ∙ same_refl p))
  | inr f ↦ f
]

-- ---- distinct places
abbrev AllApart : List Place → Type 0
AllApart [] = Unit {0}
AllApart (p ∷ ps) = ((q : Place) → In ps q → same_place p q ≡ false) × AllApart ps

-- a move has one source
one_source : (f : MoveSource) (p q : Place) → same_place p q ≡ false → is_from f q ≡ true → is_from f p ≡ false
one_source (Num n) p q d e = refl
one_source (Of x) p q d e = differ_sym p x (subst (λ y. same_place p y ≡ false) (sym (same_true x q e)) d)

-- where each of some distinct places is read, there are as many readers
served : (ps : List Place) (rs : List PlaceMove) → AllApart ps → ((p : Place) → In ps p → (r : PlaceMove) × In rs r × (is_from r.from p ≡ true)) → length ps ≤ length rs
served [] rs a h = omega arith
served (p ∷ ps) rs a h =
    let first = h p (inl refl) in
    let left = filter (λ (r : PlaceMove). not (is_from r.from p)) rs in
    let fewer : length left < length rs = shorter (λ (r : PlaceMove). not (is_from r.from p)) rs first.0 (ap not first.2) first.1 in
    let rest : length ps ≤ length left = served ps left a.1 (λ q i. let r = h q (inr i) in (r.0, in_filter (λ (r : PlaceMove). not (is_from r.from p)) rs r.0 (ap not (one_source r.0.from p q (a.0 q i) r.2)) r.1, r.2)) in
    omega arith

abbrev to_of : PlaceMove → Place
to_of m = m.to

abbrev Apart : List PlaceMove → Type 0
Apart ms = AllApart (map to_of ms)

-- two moves to one place are one
apart_same : (ms : List PlaceMove) (a b : PlaceMove) → Apart ms → In ms a → In ms b → same_place a.to b.to ≡ true → a ≡ b
apart_same [] a b h i j e = absurd i
apart_same (m ∷ ms) a b h (inl i) (inl j) e = i ∙ sym j
apart_same (m ∷ ms) a b h (inl i) (inr j) e = absurd (both_ways (same_place m.to b.to) (h.0 b.to (in_map to_of ms b j)) (ap (λ (x : PlaceMove). same_place x.to b.to) (sym i) ∙ e))
apart_same (m ∷ ms) a b h (inr i) (inl j) e = absurd (both_ways (same_place a.to b.to) (differ_sym b.to a.to (ap (λ (x : PlaceMove). same_place x.to a.to) j ∙ h.0 a.to (in_map to_of ms a i))) e)
apart_same (m ∷ ms) a b h (inr i) (inr j) e = apart_same ms a b h.1 i j e

apart_filter_at : (p : PlaceMove → Bool) (y : PlaceMove) (ys : List PlaceMove) (b : Bool) → Apart (y ∷ ys) → Apart (filter p ys) → Apart (cond b (y ∷ filter p ys) (filter p ys))
apart_filter_at p y ys true h g = ((λ q i. let t = map_in to_of (filter p ys) q i in h.0 q (subst (λ x. In (map to_of ys) x) (sym t.2) (in_map to_of ys t.0 (filter_in p ys t.0 t.1).0))), g)
apart_filter_at p y ys false h g = g

apart_filter : (p : PlaceMove → Bool) (ms : List PlaceMove) → Apart ms → Apart (filter p ms)
apart_filter p [] h = tt
apart_filter p (y ∷ ys) h = apart_filter_at p y ys (p y) h (apart_filter p ys h.1)

redirect_to : (d : Place) (ms : List PlaceMove) → map to_of (map (redirect d) ms) ≡ map to_of ms
redirect_to d [] = refl
redirect_to d (m ∷ ms) = ap (λ ps. m.to ∷ ps) (redirect_to d ms)

-- ---- states
put_other : (s : Cells) (p q : Place) (v : ℕ) → same_place p q ≡ false → put s p v q ≡ s q
put_other s p q v e = ap (λ b. cond b v (s q)) e

put_same : (s : Cells) (p q : Place) (v : ℕ) → same_place p q ≡ true → put s p v q ≡ v
put_same s p q v e = ap (λ b. cond b v (s q)) e

value_put : (s : Cells) (p : Place) (v : ℕ) (f : MoveSource) → is_from f p ≡ false → held (put s p v) f ≡ held s f
value_put s p v (Num n) e = refl
value_put s p v (Of x) e = put_other s p x v (differ_sym x p e)

saved_at : (s : Cells) (d x : Place) (b : Bool) → same_place x d ≡ b → same_place x spare ≡ false → held (put s spare (s d)) (cond b (Of spare) (Of x)) ≡ s x
saved_at s d x true e free = put_same s spare spare (s d) refl ∙ ap s (sym (same_true x d e))
saved_at s d x false e free = put_other s spare x (s d) (differ_sym x spare free)

-- after a save, a redirected source has the old source's value
saved_value : (s : Cells) (d : Place) (f : MoveSource) → is_from f spare ≡ false → held (put s spare (s d)) (cond (is_from f d) (Of spare) f) ≡ held s f
saved_value s d (Num n) free = refl
saved_value s d (Of x) free = saved_at s d x (same_place x d) refl free

free_at : (d x : Place) (b : Bool) → same_place x d ≡ b → same_place spare d ≡ false → is_from (cond b (Of spare) (Of x)) d ≡ false
free_at d x true e h = h
free_at d x false e h = e

redirected_free : (d : Place) (f : MoveSource) → same_place spare d ≡ false → is_from (cond (is_from f d) (Of spare) f) d ≡ false
redirected_free d (Num n) h = refl
redirected_free d (Of x) h = free_at d x (same_place x d) refl h

-- ---- the moves act at once
abbrev NoSpare : List PlaceMove → Type 0
NoSpare ms = (m : PlaceMove) → In ms m → same_place m.to spare ≡ false

record Acts (ms list : List PlaceMove) : Type 0 where
  moved : (s : Cells) (m : PlaceMove) → In ms m → done list s m.to ≡ held s m.from
  kept : (s : Cells) (q : Place) → ((m : PlaceMove) → In ms m → same_place m.to q ≡ false) → same_place spare q ≡ false → done list s q ≡ s q

-- where no move is ready, none reads the spare
reader : (all : List PlaceMove) (x : PlaceMove) → ((r : PlaceMove) → In all r → is_ready all r ≡ false) → In all x → is_from x.from spare ≡ true → (p : Place) → In (spare ∷ map to_of all) p → (r : PlaceMove) × In all r × (is_from r.from p ≡ true)
reader all x stuck i t p (inl is) = (x, i, subst (λ y. is_from x.from y ≡ true) (sym is) t)
reader all x stuck i t p (inr j) =
    let z = map_in to_of all p j in
    let y = some_fails (λ (w : PlaceMove). same_place w.to z.0.to || not (is_from w.from z.0.to)) all (stuck z.0 z.1) in
    let e = or_parts (same_place y.0.to z.0.to) (not (is_from y.0.from z.0.to)) y.2 in
    (y.0, y.1, subst (λ w. is_from y.0.from w ≡ true) (sym z.2) (not-false (is_from y.0.from z.0.to) e.1))

none_reads : (all : List PlaceMove) → Apart all → NoSpare all → ((r : PlaceMove) → In all r → is_ready all r ≡ false) → (x : PlaceMove) → In all x → is_from x.from spare ≡ false
none_reads all apart free stuck x i = elim (cases_Bool (is_from x.from spare)) as (λ _. is_from x.from spare ≡ false) [
  | inr f ↦ f
  | inl t ↦
      let spare_apart : (q : Place) → In (map to_of all) q → same_place spare q ≡ false = λ q j. let z = map_in to_of all q j in differ_sym q spare (subst (λ y. same_place y spare ≡ false) (sym z.2) (free z.0 z.1)) in
      let few = served (spare ∷ map to_of all) all (spare_apart, apart) (reader all x stuck i t) in
      absurd (omega (arith, length-map all to_of))
]

not_read : (f : MoveSource) (p : Place) (b : Bool) → b ≡ false → (b || not (is_from f p)) ≡ true → is_from f p ≡ false
not_read f p b e h = elim (or_cases b (not (is_from f p)) h) as (λ _. is_from f p ≡ false) [ inl t ↦ absurd (both_ways b e t) | inr n ↦ not-true (is_from f p) n ]

took_one : (all list : List PlaceMove) (r m : PlaceMove) (s : Cells) (b : Bool) → Apart all → NoSpare all → In all r → is_ready all r ≡ true → Acts (others r all) list → In all m → same_place m.to r.to ≡ b → done list (put s r.to (held s r.from)) m.to ≡ held s m.from
took_one all list r m s true apart free at ready h i e =
    let same = apart_same all m r apart i at e in
    h.kept (put s r.to (held s r.from)) m.to (λ x j. let t = filter_in (λ (x : PlaceMove). not (same_place x.to r.to)) all x j in subst (λ q. same_place x.to q ≡ false) (sym (same_true m.to r.to e)) (not-true (same_place x.to r.to) t.1)) (differ_sym m.to spare (free m i))
    ∙ put_same s r.to m.to (held s r.from) (ap (λ (x : PlaceMove). same_place r.to x.to) same ∙ same_refl r.to)
    ∙ ap (λ (x : PlaceMove). held s x.from) (sym same)
took_one all list r m s false apart free at ready h i e =
    h.moved (put s r.to (held s r.from)) m (in_filter (λ (x : PlaceMove). not (same_place x.to r.to)) all m (ap not e) i)
    ∙ value_put s r.to (held s r.from) m.from (not_read m.from r.to (same_place m.to r.to) e (all_pass (λ (x : PlaceMove). same_place x.to r.to || not (is_from x.from r.to)) all m ready i))

took : (all list : List PlaceMove) (r : PlaceMove) → Apart all → NoSpare all → In all r → is_ready all r ≡ true → Acts (others r all) list → Acts all (r ∷ list)
unfolding done
took all list r apart free at ready h = record {
  moved = λ s m i. took_one all list r m s (same_place m.to r.to) apart free at ready h i refl;
  kept = λ s q apart_q ns. h.kept (put s r.to (held s r.from)) q (λ x j. apart_q x (filter_in (λ (x : PlaceMove). not (same_place x.to r.to)) all x j).0) ns ∙ put_other s r.to q (held s r.from) (apart_q r at);
}

stuck_first : (m : PlaceMove) (ms list : List PlaceMove) (s : Cells) (x : PlaceMove) → Apart (m ∷ ms) → NoSpare (m ∷ ms) → ((y : PlaceMove) → In (m ∷ ms) y → is_from y.from spare ≡ false) → Acts (map (redirect m.to) ms) list → In (m ∷ ms) x → let s1 = put s spare (s m.to) in done list (put s1 m.to (held s1 (redirect m.to m).from)) x.to ≡ held s x.from
stuck_first m ms list s x apart free none h (inl is) =
    let s1 = put s spare (s m.to) in
    let v = held s1 (redirect m.to m).from in
    h.kept (put s1 m.to v) x.to (λ y j. let z = map_in (redirect m.to) ms y j in
    ap (λ (w : PlaceMove). same_place w.to x.to) z.2 ∙ ap (λ (w : PlaceMove). same_place z.0.to w.to) is ∙ differ_sym m.to z.0.to (apart.0 z.0.to (in_map to_of ms z.0 z.1)))
    (differ_sym x.to spare (free x (inl is)))
    ∙ put_same s1 m.to x.to v (ap (λ (w : PlaceMove). same_place m.to w.to) is ∙ same_refl m.to)
    ∙ saved_value s m.to m.from (none m (inl refl))
    ∙ ap (λ (w : PlaceMove). held s w.from) (sym is)
stuck_first m ms list s x apart free none h (inr i) =
    let s1 = put s spare (s m.to) in
    let v = held s1 (redirect m.to m).from in
    h.moved (put s1 m.to v) (redirect m.to x) (in_map (redirect m.to) ms x i)
    ∙ value_put s1 m.to v (redirect m.to x).from (redirected_free m.to x.from (differ_sym m.to spare (free m (inl refl))))
    ∙ saved_value s m.to x.from (none x (inr i))

saved : (m : PlaceMove) (ms list : List PlaceMove) → Apart (m ∷ ms) → NoSpare (m ∷ ms) → ((y : PlaceMove) → In (m ∷ ms) y → is_from y.from spare ≡ false) → Acts (map (redirect m.to) ms) list → Acts (m ∷ ms) (record { to = spare; from = Of m.to } ∷ redirect m.to m ∷ list)
unfolding done
saved m ms list apart free none h = record {
  moved = λ s x i. stuck_first m ms list s x apart free none h i;
  kept = λ s q apart_q ns. let s1 = put s spare (s m.to) in let v = held s1 (redirect m.to m).from in
      h.kept (put s1 m.to v) q (λ y j. let z = map_in (redirect m.to) ms y j in ap (λ (w : PlaceMove). same_place w.to q) z.2 ∙ apart_q z.0 (inr z.1)) ns
      ∙ put_other s1 m.to q v (apart_q m (inl refl)) ∙ put_other s spare q (s m.to) ns;
}

-- one turn
turned : (n : ℕ) (m : PlaceMove) (ms : List PlaceMove) (o : Option PlaceMove) → find (is_ready (m ∷ ms)) (m ∷ ms) ≡ o → length (m ∷ ms) ≤ suc n → Apart (m ∷ ms) → NoSpare (m ∷ ms) → ((rest : List PlaceMove) → length rest ≤ n → Apart rest → NoSpare rest → Acts rest (sequenced n rest)) → Acts (m ∷ ms) ((turn_of m ms o).done ++ sequenced n (turn_of m ms o).left)
turned n m ms (Some r) e l apart free h =
    let f = found (is_ready (m ∷ ms)) (m ∷ ms) r e in
    let p : PlaceMove → Bool = λ x. not (same_place x.to r.to) in
    let fewer : length (filter p (m ∷ ms)) < length (m ∷ ms) = shorter p (m ∷ ms) r (ap not (same_refl r.to)) f.0 in
    took (m ∷ ms) (sequenced n (others r (m ∷ ms))) r apart free f.0 f.1 (h (others r (m ∷ ms)) (omega arith) (apart_filter p (m ∷ ms) apart) (λ x i. free x (filter_in p (m ∷ ms) x i).0))
turned n m ms None e l apart free h =
    saved m ms (sequenced n (map (redirect m.to) ms)) apart free (none_reads (m ∷ ms) apart free (not_found (is_ready (m ∷ ms)) (m ∷ ms) e))
    (h (map (redirect m.to) ms) (omega (arith, length-map ms (redirect m.to))) (subst AllApart (sym (redirect_to m.to ms)) apart.1) (λ x i. let z = map_in (redirect m.to) ms x i in ap (λ (w : PlaceMove). same_place w.to spare) z.2 ∙ free z.0 (inr z.1)))

acts : (n : ℕ) (ms : List PlaceMove) → length ms ≤ n → Apart ms → NoSpare ms → Acts ms (sequenced n ms)
unfolding sequenced done
acts zero [] l apart free = record { moved = λ s m i. absurd i; kept = λ s q a ns. refl }
acts zero (m ∷ ms) l apart free = absurd (omega arith)
acts (suc n) [] l apart free = record { moved = λ s m i. absurd i; kept = λ s q a ns. refl }
acts (suc n) (m ∷ ms) l apart free = turned n m ms (find (is_ready (m ∷ ms)) (m ∷ ms)) refl l apart free (λ rest. acts n rest)

-- ---- from the contract's words
apart_from : (ms : List PlaceMove) → AreApart ms → Apart ms
apart_from [] a = tt
apart_from (m ∷ ms) a = (
  (λ q i. let z = map_in to_of ms q i in let k = index_of ms z.0 z.1 in subst (λ y. same_place m.to y ≡ false) (ap to_of (k.2 m) ∙ sym z.2) (a 0 (suc k.0) m m (omega arith) (omega (arith, k.1)))),
  apart_from ms (λ i j d e lt l. a (suc i) (suc j) d e (omega arith) (omega arith)),
)

pub act_at_once : (moves : List PlaceMove) → AreApart moves → All (λ m. same_place m.to spare ≡ false) moves → ActAtOnce moves (sequenced (length moves) moves)
act_at_once moves apart free =
    let h = acts (length moves) moves (omega arith) (apart_from moves apart) (λ m i. let k = index_of moves m i in subst (λ (x : PlaceMove). same_place x.to spare ≡ false) (k.2 m) (free k.0 m k.1)) in
    record {
      moved = λ s k d l. h.moved s (get_or moves k d) (at_index moves k d l);
      kept = λ s q a ns. h.kept s q (λ m i. let k = index_of moves m i in subst (λ (x : PlaceMove). same_place x.to q ≡ false) (k.2 m) (a k.0 m k.1)) ns;
    }

-- ---- the loop of turns
pub turn_more : (all out out' pending left : List PlaceMove) (n i : ℕ) → i < n → sequenced n all ≡ out ++ sequenced (n - i) pending → 0 < length pending → ((m : PlaceMove) (ms : List PlaceMove) → pending ≡ m ∷ ms → (left ≡ (turn_of m ms (find (is_ready pending) pending)).left) × (out' ≡ out ++ (turn_of m ms (find (is_ready pending) pending)).done)) → sequenced n all ≡ out' ++ sequenced (n - (i + 1)) left
unfolding sequenced
turn_more all out out' [] left n i l e some h = absurd (omega arith)
turn_more all out out' (m ∷ ms) left n i l e some h =
    let t = turn_of m ms (find (is_ready (m ∷ ms)) (m ∷ ms)) in
    let g = h m ms refl in
    let k = n - (i + 1) in
    let is : n - i ≡ suc k = omega arith in
    e ∙ ap (λ j. out ++ sequenced j (m ∷ ms)) is ∙ sym (append_assoc out t.done (sequenced k t.left)) ∙ ap (λ x. x ++ sequenced k t.left) (sym g.1) ∙ ap (λ x. out' ++ sequenced k x) (sym g.0)

pub no_more : (n : ℕ) (ms : List PlaceMove) → length ms ≡ 0 → sequenced n ms ≡ []
unfolding sequenced
no_more zero ms e = refl
no_more (suc n) [] e = refl
no_more (suc n) (m ∷ ms) e = absurd (omega arith)

pub no_turns : (ms : List PlaceMove) → sequenced 0 ms ≡ []
unfolding sequenced
no_turns ms = refl
