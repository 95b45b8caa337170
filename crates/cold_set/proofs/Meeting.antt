-- The search for cold starts: what is found, and what is still to be met.
use Rattle.std.proofs.Common.{◌≡◌, ℕ, ◌+◌, ◌<◌, ◌⊎◌, Bool, true, false, not, cond, List, [], ◌∷◌, ◌++◌, length, get_or, take, drop, Ordering, Less, Equal, Greater, Result, Ok, Err, refl, sym, subst, ap, ◌∙◌, inl, inr, arith, append_assoc}
use Rattle.std.specs.Prelude.{Contains, ◌↔◌, Option, Some, None, option_to_list, OnOk, if◌then◌else◌}
use Rattle.std.specs.Bool.{OnFalse}
use Rattle.std.specs.Ordering.{nat_cmp, is_eq}
use Rattle.std.specs.BTreeMap.{is_at}
use Rattle.std.specs.BTreeSet.{BTreeSet, contains, IsOrdered, Updates}
use Rattle.std.proofs.lemmas.Cmp.{nat_cmp_total}
use Rattle.std.proofs.lemmas.Map.Lookups.{exact_unsigned}
use Rattle.std.proofs.lemmas.Map.Views.{btree_set_contains_iff}
use Rattle.std.proofs.lemmas.Map.Keys.{IsStrictlyIncreasing-from_sorted}
use Rattle.std.proofs.lemmas.List.{append-nil, length_push, length-append, take_more, take-append-drop}
use Rattle.std.proofs.lemmas.List.Elements.{Contains-append_left, Contains-append_right, Contains-append_cases, Contains-push, Contains-push_cases}
use Rattle.elf_read.specs.declared.exe.Exe.{Exe}
use Rattle.elf_read.specs.Elf.{IsGuest}
use Rattle.block_cut.specs.Transfers.{is_among}
use Rattle.trace_file.proofs.Union.{there, first_or_later}
use Rattle.trace_file.proofs.Unique.{none}
use Rattle.flow_graph.proofs.Ascending.{to_up, same_list, no_longer, at_first}
use Rattle.cold_set.specs.ColdStarts.{ways, leaves, is_free, each_gives, roots, IsColdClosed, cold_list, AreColdLeast}
use Rattle.cold_set.specs.Meets.{Meets, IsMany, IsFound}
use Rattle.cold_set.proofs.ColdRounds.{is_least}
use Rattle.cold_set.proofs.Members.{of_among, to_among}

-- what follows where it went well
pub goes_on : {A E P Q : Type 0} (r : Result A E) → OnOk r P → (P → Q) → OnOk r Q
goes_on (Ok x) p f = f p
goes_on (Err e) p f = tt

-- ---- one insertion into a set

equal_from : (o : Ordering) → is_eq o ≡ true → o ≡ Equal
equal_from Less e = cc
equal_from Equal e = refl
equal_from Greater e = cc

members : (s : BTreeSet ℕ) (k : ℕ) → (contains nat_cmp s k ≡ true) ↔ Contains s.keys k
members s k = btree_set_contains_iff nat_cmp_total exact_unsigned s k

pub known : (s : BTreeSet ℕ) (k : ℕ) → false ≡ not (contains nat_cmp s k) → Contains s.keys k
known s k h = (members s k).0 (go (contains nat_cmp s k) h)
  where
    go : (b : Bool) → false ≡ not b → b ≡ true
    go true h = refl
    go false h = cc

module _ (s n : BTreeSet ℕ) (k : ℕ) (u : Updates nat_cmp s n k true) where
  keeps_at : (b c : Bool) → c ≡ true → cond b true c ≡ true
  keeps_at true c h = refl
  keeps_at false c h = h

  pub set_keeps : (x : ℕ) → Contains s.keys x → Contains n.keys x
  set_keeps x c = (members n x).0 (u.0 x ∙ keeps_at (is_at (nat_cmp k) x) (contains nat_cmp s x) ((members s x).1 c))

  pub set_has : Contains n.keys k
  set_has = (members n k).0 u.1

  only_at : (x : ℕ) (b : Bool) → is_at (nat_cmp k) x ≡ b → cond b true (contains nat_cmp s x) ≡ true → Contains s.keys x ⊎ (k ≡ x)
  only_at x true e h = inr (exact_unsigned k x (equal_from (nat_cmp k x) e))
  only_at x false e h = inl ((members s x).0 h)

  pub set_only : (x : ℕ) → Contains n.keys x → Contains s.keys x ⊎ (k ≡ x)
  set_only x c = only_at x (is_at (nat_cmp k) x) refl (sym (u.0 x) ∙ (members n x).1 c)

-- ---- what is met

module _ (exe : Exe) (starts : List ℕ) where
  pub nothing_met : (found todo : List ℕ) → Meets exe starts [] found todo found todo
  nothing_met found todo = record {
    keeps = λ x c. c;
    stays = λ x c. c;
    has = λ x c f. absurd (none x c);
    only = λ x c. inl c;
    from = λ x c. inl c;
    listed = λ x c. inl c;
    grows = omega arith;
    few = omega arith;
    both = omega arith;
  }

  pub not_free : (x : ℕ) (found todo : List ℕ) → is_free exe starts x ≡ false → Meets exe starts (x ∷ []) found todo found todo
  not_free x found todo taken = record {
    keeps = λ y c. c;
    stays = λ y c. c;
    has = λ y c f. elim (first_or_later x y [] c) [ inl s ↦ (let bad : false ≡ true = sym taken ∙ (ap (is_free exe starts) s ∙ f) in cc) | inr d ↦ absurd (none y d) ];
    only = λ y c. inl c;
    from = λ y c. inl c;
    listed = λ y c. inl c;
    grows = omega arith;
    few = omega arith;
    both = omega arith;
  }

  pub found_before : (x : ℕ) (found todo : List ℕ) → Contains found x → Meets exe starts (x ∷ []) found todo found todo
  found_before x found todo is = record {
    keeps = λ y c. c;
    stays = λ y c. c;
    has = λ y c f. elim (first_or_later x y [] c) [ inl s ↦ (let P : ℕ → Type 0 = λ z. Contains found z in subst P s is) | inr d ↦ absurd (none y d) ];
    only = λ y c. inl c;
    from = λ y c. inl c;
    listed = λ y c. inl c;
    grows = omega arith;
    few = omega arith;
    both = omega arith;
  }

  new_one : (x y : ℕ) → is_free exe starts x ≡ true → x ≡ y → Contains (x ∷ []) y × (is_free exe starts y ≡ true)
  new_one x y f s = (at_first x y [] s, ap (is_free exe starts) (sym s) ∙ f)

  pub newly : (x : ℕ) (found todo found' : List ℕ) → is_free exe starts x ≡ true → ((y : ℕ) → Contains found y → Contains found' y) → Contains found' x → ((y : ℕ) → Contains found' y → Contains found y ⊎ (x ≡ y)) → length found' ≡ length found + 1 → Meets exe starts (x ∷ []) found todo found' (todo ++ x ∷ [])
  newly x found todo found' f keep new only len = record {
    keeps = keep;
    stays = λ y c. Contains-append_left todo (x ∷ []) y c;
    has = λ y c g. elim (first_or_later x y [] c) [ inl s ↦ (let P : ℕ → Type 0 = λ z. Contains found' z in subst P s new) | inr d ↦ absurd (none y d) ];
    only = λ y c. elim (only y c) as (λ _. Contains found y ⊎ (Contains (x ∷ []) y × (is_free exe starts y ≡ true))) [ inl d ↦ inl d | inr s ↦ inr (new_one x y f s) ];
    from = λ y c. elim (Contains-push_cases todo x y c) as (λ _. Contains todo y ⊎ (Contains (x ∷ []) y × (is_free exe starts y ≡ true))) [ inl d ↦ inl d | inr s ↦ inr (new_one x y f s) ];
    listed = λ y c. elim (only y c) as (λ _. Contains found y ⊎ Contains (todo ++ x ∷ []) y) [ inl d ↦ inl d | inr s ↦ inr (let P : ℕ → Type 0 = λ z. Contains (todo ++ x ∷ []) z in subst P s (Contains-push todo x)) ];
    grows = omega (arith, len);
    few = omega (arith, len);
    both = omega (arith, len, length_push todo x);
  }

  pub then_met : (a b found todo found' todo' found'' todo'' : List ℕ) → Meets exe starts a found todo found' todo' → Meets exe starts b found' todo' found'' todo'' → Meets exe starts (a ++ b) found todo found'' todo''
  then_met a b found todo found' todo' found'' todo'' m n = record {
    keeps = λ x c. n.keeps x (m.keeps x c);
    stays = λ x c. n.stays x (m.stays x c);
    has = λ x c f. elim (Contains-append_cases a b x c) [ inl d ↦ n.keeps x (m.has x d f) | inr d ↦ n.has x d f ];
    only = λ x c. elim (n.only x c) as (λ _. Contains found x ⊎ (Contains (a ++ b) x × (is_free exe starts x ≡ true))) [
      | inl d ↦ elim (m.only x d) as (λ _. Contains found x ⊎ (Contains (a ++ b) x × (is_free exe starts x ≡ true))) [ inl e ↦ inl e | inr e ↦ inr (Contains-append_left a b x e.0, e.1) ]
      | inr d ↦ inr (Contains-append_right a b x d.0, d.1)
    ];
    from = λ x c. elim (n.from x c) as (λ _. Contains todo x ⊎ (Contains (a ++ b) x × (is_free exe starts x ≡ true))) [
      | inl d ↦ elim (m.from x d) as (λ _. Contains todo x ⊎ (Contains (a ++ b) x × (is_free exe starts x ≡ true))) [ inl e ↦ inl e | inr e ↦ inr (Contains-append_left a b x e.0, e.1) ]
      | inr d ↦ inr (Contains-append_right a b x d.0, d.1)
    ];
    listed = λ x c. elim (n.listed x c) as (λ _. Contains found x ⊎ Contains todo'' x) [
      | inl d ↦ elim (m.listed x d) as (λ _. Contains found x ⊎ Contains todo'' x) [ inl e ↦ inl e | inr e ↦ inr (n.stays x e) ]
      | inr d ↦ inr d
    ];
    grows = omega (arith, m.grows, n.grows);
    few = omega (arith, m.few, n.few, length-append a b);
    both = omega (arith, m.both, n.both);
  }

  -- ---- the roots

  abbrev pub first_roots : ℕ → List ℕ
  first_roots i = exe.entry ∷ each_gives (leaves exe) (take i starts)

  each_push : (f : ℕ → List ℕ) (xs : List ℕ) (x : ℕ) → each_gives f (xs ++ x ∷ []) ≡ each_gives f xs ++ f x
  each_push f [] x = append-nil (f x)
  each_push f (y ∷ ys) x = ap (λ zs. f y ++ zs) (each_push f ys x) ∙ sym (append_assoc (f y) (each_gives f ys) (f x))

  pub more_roots : (i : ℕ) → i < length starts → first_roots i ++ leaves exe (get_or starts i 0) ≡ first_roots (i + 1)
  more_roots i l =
      ap (λ zs. exe.entry ∷ zs) (sym (each_push (leaves exe) (take i starts) (get_or starts i 0)) ∙ ap (each_gives (leaves exe)) (sym (take_more starts i 0 l)))

  each_front : (f : ℕ → List ℕ) (xs ys : List ℕ) (x : ℕ) → Contains (each_gives f xs) x → Contains (each_gives f (xs ++ ys)) x
  each_front f [] ys x c = absurd (none x c)
  each_front f (z ∷ zs) ys x c = elim (Contains-append_cases (f z) (each_gives f zs) x c) [
    | inl d ↦ Contains-append_left (f z) (each_gives f (zs ++ ys)) x d
    | inr d ↦ Contains-append_right (f z) (each_gives f (zs ++ ys)) x (each_front f zs ys x d)
  ]

  roots_within : (i x : ℕ) → Contains (first_roots i) x → Contains (roots exe starts) x
  roots_within i x c = elim (first_or_later exe.entry x (each_gives (leaves exe) (take i starts)) c) [
    | inl s ↦ at_first exe.entry x (each_gives (leaves exe) starts) s
    | inr d ↦ there exe.entry x (each_gives (leaves exe) starts) (let P : List ℕ → Type 0 = λ zs. Contains (each_gives (leaves exe) zs) x in subst P (take-append-drop i starts) (each_front (leaves exe) (take i starts) (drop i starts) x d))
  ]

  pub first_met : (found todo found' todo' : List ℕ) → found ≡ [] → todo ≡ [] → Meets exe starts (exe.entry ∷ []) found todo found' todo' → Meets exe starts (first_roots 0) [] [] found' todo'
  first_met found todo found' todo' e f m =
      let P : List ℕ → Type 0 = λ zs. Meets exe starts (exe.entry ∷ []) zs todo found' todo' in
      let Q : List ℕ → Type 0 = λ zs. Meets exe starts (exe.entry ∷ []) [] zs found' todo' in
      subst Q f (subst P e m)

  pub next_met : (i : ℕ) (ws found todo found' todo' : List ℕ) → i < length starts → ws ≡ leaves exe (get_or starts i 0) → Meets exe starts (first_roots i) [] [] found todo → Meets exe starts ws found todo found' todo' → Meets exe starts (first_roots (i + 1)) [] [] found' todo'
  next_met i ws found todo found' todo' l e m n =
      let P : List ℕ → Type 0 = λ zs. Meets exe starts zs [] [] found' todo' in
      subst P (ap (λ zs. first_roots i ++ zs) e ∙ more_roots i l) (then_met (first_roots i) ws [] [] found todo found' todo' m n)

  -- ---- what is found is cold

  pub sound_roots : (met found todo : List ℕ) → IsGuest exe → ((x : ℕ) → Contains met x → Contains (roots exe starts) x) → Meets exe starts met [] [] found todo → (x : ℕ) → Contains found x → Contains (cold_list exe starts) x
  sound_roots met found todo g within m x c = elim (m.only x c) [
    | inl d ↦ absurd (none x d)
    | inr d ↦ (is_least exe starts g).closed.begins x (within x d.0) d.1
  ]

  -- it is still to be met, or its ways are found
  abbrev pub IsPast : List ℕ → List ℕ → ℕ → Type 0
  IsPast found todo x = Contains todo x ⊎ ((y : ℕ) → Contains (ways exe x) y → is_free exe starts y ≡ true → Contains found y)

  pub many_roots : (i : ℕ) (found : BTreeSet ℕ) (todo : List ℕ) → IsGuest exe → IsOrdered nat_cmp found → 65536 < length found.keys → Meets exe starts (first_roots i) [] [] found.keys todo → IsMany exe starts found
  many_roots i found todo g o l m = record { ordered = o; many = l; sound = sound_roots (first_roots i) found.keys todo g (roots_within i) m }

  -- what is found and to be met: each that is found is to be met, or its ways are found
  pub record Pending (found todo : List ℕ) : Type 0 where
    pub sound : (x : ℕ) → Contains found x → Contains (cold_list exe starts) x
    pub listed : (x : ℕ) → Contains todo x → Contains (cold_list exe starts) x
    pub begins : (x : ℕ) → Contains (roots exe starts) x → is_free exe starts x ≡ true → Contains found x
    pub ways_met : (x : ℕ) → Contains found x → IsPast found todo x

  pub begun : (found todo : List ℕ) → IsGuest exe → Meets exe starts (roots exe starts) [] [] found todo → Pending found todo
  begun found todo g m = record {
    sound = sound_roots (roots exe starts) found todo g (λ x c. c) m;
    listed = λ x c. elim (m.from x c) [ inl d ↦ absurd (none x d) | inr d ↦ (is_least exe starts g).closed.begins x d.0 d.1 ];
    begins = m.has;
    ways_met = λ x c. elim (m.listed x c) as (λ _. IsPast found todo x) [ inl d ↦ absurd (none x d) | inr d ↦ inl d ];
  }

  pub onward : (x : ℕ) (found rest found' todo' : List ℕ) → IsGuest exe → Pending found (rest ++ x ∷ []) → Meets exe starts (ways exe x) found rest found' todo' → Pending found' todo'
  onward x found rest found' todo' g p m = record {
    sound = λ y c. elim (m.only y c) [ inl d ↦ p.sound y d | inr d ↦ l.closed.goes_on x y here_cold d.0 d.1 ];
    listed = λ y c. elim (m.from y c) [ inl d ↦ p.listed y (Contains-append_left rest (x ∷ []) y d) | inr d ↦ l.closed.goes_on x y here_cold d.0 d.1 ];
    begins = λ y c f. m.keeps y (p.begins y c f);
    ways_met = λ y c. elim (m.listed y c) as (λ _. IsPast found' todo' y) [
      | inl d ↦ elim (p.ways_met y d) as (λ _. IsPast found' todo' y) [
        | inl e ↦ elim (Contains-push_cases rest x y e) as (λ _. IsPast found' todo' y) [
          | inl r ↦ inl (m.stays y r)
          | inr s ↦ inr (let P : ℕ → Type 0 = λ y. (z : ℕ) → Contains (ways exe y) z → is_free exe starts z ≡ true → Contains found' z in subst P s m.has)
        ]
        | inr all ↦ inr (λ z w f. m.keeps z (all z w f))
      ]
      | inr d ↦ inl d
    ];
  }
    where
      l : AreColdLeast exe starts
      l = is_least exe starts g

      here_cold : Contains (cold_list exe starts) x
      here_cold = p.listed x (Contains-push rest x)

  -- by what is popped
  pub onward_as : (x : ℕ) (ws found todo rest found' todo' : List ℕ) → IsGuest exe → todo ≡ rest ++ x ∷ [] → ws ≡ ways exe x → Pending found todo → Meets exe starts ws found rest found' todo' → Pending found' todo'
  onward_as x ws found todo rest found' todo' g t w p m =
      let P : List ℕ → Type 0 = λ zs. Pending found zs in
      let Q : List ℕ → Type 0 = λ zs. Meets exe starts zs found rest found' todo' in
      onward x found rest found' todo' g (subst P t p) (subst Q w m)

  pub ended : (found todo : List ℕ) → IsGuest exe → todo ≡ [] → Pending found todo → (x : ℕ) → Contains found x ↔ Contains (cold_list exe starts) x
  ended found todo g e p x = (p.sound x, λ c. of_among found x ((is_least exe starts g).least (is_among found) closed x c))
    where
      nothing : (x : ℕ) → Contains todo x → ⊥
      nothing x c = let P : List ℕ → Type 0 = λ zs. Contains zs x in none x (subst P e c)

      closed : IsColdClosed exe starts (λ x. is_among found x ≡ true)
      closed = record {
        begins = λ x c f. to_among found x (p.begins x c f);
        goes_on = λ x y h w f. elim (p.ways_met x (of_among found x h)) [
          | inl d ↦ absurd (nothing x d)
          | inr all ↦ to_among found y (all y w f)
        ];
      }

  -- ---- the list

  pub is_list : (found : BTreeSet ℕ) → IsGuest exe → IsOrdered nat_cmp found → IsFound exe starts found → found.keys ≡ cold_list exe starts
  is_list found g o f = same_list found.keys (cold_list exe starts) (to_up found.keys (IsStrictlyIncreasing-from_sorted found.keys o)) (to_up (cold_list exe starts) (is_least exe starts g).ascend) (λ x c. (f x).0 c) (λ x c. (f x).1 c)

  pub is_many : (found : BTreeSet ℕ) → IsGuest exe → IsMany exe starts found → 65536 < length (cold_list exe starts)
  is_many found g m = omega (arith, m.many, no_longer (cold_list exe starts) found.keys (to_up found.keys (IsStrictlyIncreasing-from_sorted found.keys m.ordered)) (to_up (cold_list exe starts) (is_least exe starts g).ascend) m.sound)

  -- ---- one way

  meets_as : (way : Option ℕ) (x : ℕ) (found todo found' todo' : List ℕ) → way ≡ Some x → Meets exe starts (x ∷ []) found todo found' todo' → Meets exe starts (option_to_list way) found todo found' todo'
  meets_as way x found todo found' todo' e m = let P : Option ℕ → Type 0 = λ w. Meets exe starts (option_to_list w) found todo found' todo' in subst P (sym e) m

  pub meets_new : (way : Option ℕ) (x : ℕ) (s n : BTreeSet ℕ) (todo todo' : List ℕ) (added : Bool) → way ≡ Some x → is_free exe starts x ≡ true → Updates nat_cmp s n x true → length n.keys ≡ length s.keys + (if added then 1 else 0) → added ≡ true → todo' ≡ todo ++ x ∷ [] → Meets exe starts (option_to_list way) s.keys todo n.keys todo'
  meets_new way x s n todo todo' added w f u len a t =
      let P : List ℕ → Type 0 = λ zs. Meets exe starts (x ∷ []) s.keys todo n.keys zs in
      let one : length n.keys ≡ length s.keys + 1 = len ∙ ap (λ b. length s.keys + (if b then 1 else 0)) a in
      meets_as way x s.keys todo n.keys todo' w (subst P (sym t) (newly x s.keys todo n.keys f (set_keeps s n x u) (set_has s n x u) (set_only s n x u) one))

  pub meets_old : (way : Option ℕ) (x : ℕ) (s n m : BTreeSet ℕ) (todo : List ℕ) (added : Bool) → way ≡ Some x → added ≡ not (contains nat_cmp s x) → added ≡ false → OnFalse added (n.keys ≡ s.keys) → m ≡ n → Meets exe starts (option_to_list way) s.keys todo m.keys todo
  meets_old way x s n m todo added w e a same is =
      let Q : Bool → Type 0 = λ b. OnFalse b (n.keys ≡ s.keys) in
      let k : m.keys ≡ s.keys = ap (λ (b : BTreeSet ℕ). b.keys) is ∙ subst Q a same in
      let P : List ℕ → Type 0 = λ zs. Meets exe starts (x ∷ []) s.keys todo zs todo in
      meets_as way x s.keys todo m.keys todo w (subst P (sym k) (found_before x s.keys todo (known s x (sym a ∙ e))))

  pub meets_taken : (way : Option ℕ) (x : ℕ) (s m : BTreeSet ℕ) (todo : List ℕ) → way ≡ Some x → is_free exe starts x ≡ false → m ≡ s → Meets exe starts (option_to_list way) s.keys todo m.keys todo
  meets_taken way x s m todo w f is =
      let P : BTreeSet ℕ → Type 0 = λ b. Meets exe starts (x ∷ []) s.keys todo b.keys todo in
      meets_as way x s.keys todo m.keys todo w (subst P (sym is) (not_free x s.keys todo f))

  pub meets_nothing : (way : Option ℕ) (found todo : List ℕ) → way ≡ None → Meets exe starts (option_to_list way) found todo found todo
  meets_nothing way found todo w = let P : Option ℕ → Type 0 = λ w. Meets exe starts (option_to_list w) found todo found todo in subst P (sym w) (nothing_met found todo)
