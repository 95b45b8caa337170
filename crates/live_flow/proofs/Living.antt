-- Live sets are those of walks, and closed after as many rounds as there are rows.
use Rattle.std.proofs.Common.{◌≡◌, ℕ, zero, suc, ◌+◌, ◌<◌, ◌≤◌, Bool, true, false, List, [], ◌∷◌, length, get_or, ◌⊎◌, inl, inr, sym, ap, ◌∙◌, refl, arith, ⊎_elim}
use Rattle.std.specs.Prelude.{◌&&◌, ◌||◌, ◌↔◌, if◌then◌else◌}
use Rattle.std.proofs.lemmas.Bool.{cases_lt, cases_eq}
use Rattle.pass_dead.specs.Names.{has}
use Rattle.pass_dead.proofs.Bools.{and_left, and_right, either_one, or_left, or_right, both}
use Rattle.live_flow.specs.declared.row.LiveRow.{LiveRow}
use Rattle.live_flow.specs.Live.{no_row, row_at, hands, ways, needed_at, any_live, live_after, is_live, IsAmong, Walk, Here, There, AreLive}
use Rattle.stub_sink.proofs.Sets.{has_none}

-- ---- counting
abbrev tick : Bool → ℕ
tick b = if b then 1 else 0

abbrev count : (ℕ → Bool) → ℕ → ℕ
count s zero = 0
count s (suc k) = tick (s k) + count s k

tick_most : (a : Bool) → tick a ≤ 1
tick_most true = omega arith
tick_most false = omega arith

tick_more : (a b : Bool) → (a ≡ true → b ≡ true) → tick a ≤ tick b
tick_more true true h = omega arith
tick_more false true h = omega arith
tick_more false false h = omega arith
tick_more true false h = absurd (let e : false ≡ true = h refl in cc)

count_most : (s : ℕ → Bool) (k : ℕ) → count s k ≤ k
count_most s zero = omega arith
count_most s (suc k) = let a = tick_most (s k) in let b = count_most s k in omega arith

count_more : (s t : ℕ → Bool) (k : ℕ) → ((i : ℕ) → s i ≡ true → t i ≡ true) → count s k ≤ count t k
count_more s t zero h = omega arith
count_more s t (suc k) h = let a = tick_more (s k) (t k) (h k) in let b = count_more s t k h in omega arith

abbrev NoneNew : (s t : ℕ → Bool) → ℕ → Type 0
NoneNew s t k = (i : ℕ) → i < k → t i ≡ true → s i ≡ true

-- nothing is new below k, or there are more
more_or_same : (s t : ℕ → Bool) (k : ℕ) → ((i : ℕ) → s i ≡ true → t i ≡ true) → NoneNew s t k ⊎ (count s k < count t k)
more_or_same s t zero h = inl (λ i l. absurd (omega arith))
more_or_same s t (suc k) h = ⊎_elim
    (λ same. at (s k) (t k) refl refl same)
    (λ more. let a = tick_more (s k) (t k) (h k) in inr (omega arith))
    (more_or_same s t k h)
  where
    last : NoneNew s t k → (t k ≡ true → s k ≡ true) → NoneNew s t (suc k)
    last same g i l e = ⊎_elim
        (λ is. ap s is ∙ g (ap t (sym is) ∙ e))
        (λ ne. same i (omega arith) e)
        (cases_eq i k)

    at : (a b : Bool) → s k ≡ a → t k ≡ b → NoneNew s t k → NoneNew s t (suc k) ⊎ (count s (suc k) < count t (suc k))
    at true b p q same = inl (last same (λ e. p))
    at false false p q same = inl (last same (λ e. absurd (let z : true ≡ false = sym e ∙ q in cc)))
    at false true p q same =
        let c = count_more s t k h in
        let x : tick (s k) ≡ 0 = ap tick p in
        let y : tick (t k) ≡ 1 = ap tick q in
        inr (omega arith)

-- ---- among the next rows
any_among : (sets : ℕ → ℕ → Bool) (v : ℕ) (js : List ℕ) (j : ℕ) → IsAmong js j → sets j v ≡ true → any_live sets v js ≡ true
any_among sets v [] j h e = absurd h
any_among sets v (k ∷ ks) j h e = ⊎_elim
    (λ is. or_left _ _ (ap (λ i. sets i v) is ∙ e))
    (λ in'. or_right (sets k v) _ (any_among sets v ks j in' e))
    h

pub any_of : (sets : ℕ → ℕ → Bool) (v : ℕ) (js : List ℕ) → any_live sets v js ≡ true → (j : ℕ) × IsAmong js j × (sets j v ≡ true)
any_of sets v [] e = absurd (cc)
any_of sets v (k ∷ ks) e = ⊎_elim
    (λ l. (k, inl refl, l))
    (λ r. let w = any_of sets v ks r in (w.0, inr w.1, w.2))
    (either_one (sets k v) _ e)

module _ (rows : List LiveRow) where
  -- ---- walks
  longer : (v n i : ℕ) → Walk rows v n i → Walk rows v (suc n) i
  longer v n i (Here _ _ e) = Here (suc n) i e
  longer v (suc n) i (There _ _ j p m w) = There (suc n) i j p m (longer v n j w)

  pub walks : (n i v : ℕ) → live_after n rows i v ≡ true → Walk rows v n i
  walks zero i v e = Here zero i e
  walks (suc n) i v e = ⊎_elim
      (λ l. longer v n i (walks n i v l))
      (λ r. let w = any_of (live_after n rows) v _ (and_right (hands rows i v) _ r) in There n i w.0 (and_left _ _ r) w.1 (walks n w.0 v w.2))
      (either_one (live_after n rows i v) _ e)

  pub start_kept : (n i v : ℕ) → needed_at (row_at rows i) v ≡ true → live_after n rows i v ≡ true
  start_kept zero i v e = e
  start_kept (suc n) i v e = or_left _ _ (start_kept n i v e)

  pub walked : (v n i : ℕ) → Walk rows v n i → live_after n rows i v ≡ true
  walked v n i (Here _ _ e) = start_kept n i v e
  walked v (suc n) i (There _ _ j p m w) = or_right (live_after n rows i v) _ (both _ _ p (any_among (live_after n rows) v _ j m (walked v n j w)))

  -- ---- the sets stop growing
  abbrev IsStable : (v n : ℕ) → Type 0
  IsStable v n = (i : ℕ) → live_after (suc n) rows i v ≡ true → live_after n rows i v ≡ true

  pub none_past : (rs : List LiveRow) (i : ℕ) → length rs ≤ i → get_or rs i no_row ≡ no_row
  none_past [] i h = refl
  none_past (r ∷ rs) zero h = absurd (omega arith)
  none_past (r ∷ rs) (suc i) h = none_past rs i (omega arith)

  past : (v n i : ℕ) → length rows ≤ i → live_after (suc n) rows i v ≡ true → live_after n rows i v ≡ true
  past v n i h e = ⊎_elim
      (λ l. l)
      (λ r. let p = and_left _ _ r in let q = ap (λ (t : LiveRow). has t.passes v) (none_past rows i h) ∙ has_none v in absurd (let z : true ≡ false = sym p ∙ q in cc))
      (either_one (live_after n rows i v) _ e)

  stable_all : (v n : ℕ) → NoneNew (λ i. live_after n rows i v) (λ i. live_after (suc n) rows i v) (length rows) → IsStable v n
  stable_all v n h i e = ⊎_elim (λ l. h i l e) (λ g. past v n i g e) (cases_lt i (length rows))

  stable_next : (v n : ℕ) → IsStable v n → IsStable v (suc n)
  stable_next v n h i e = ⊎_elim
      (λ l. l)
      (λ r. let w = any_of (live_after (suc n) rows) v _ (and_right (hands rows i v) _ r) in
      or_right (live_after n rows i v) _ (both _ _ (and_left _ _ r) (any_among (live_after n rows) v _ w.0 w.1 (h w.0 w.2))))
      (either_one (live_after (suc n) rows i v) _ e)

  grows : (v n : ℕ) → NoneNew (λ i. live_after n rows i v) (λ i. live_after (suc n) rows i v) (length rows) ⊎ (count (λ i. live_after n rows i v) (length rows) < count (λ i. live_after (suc n) rows i v) (length rows))
  grows v n = more_or_same (λ i. live_after n rows i v) (λ i. live_after (suc n) rows i v) (length rows) (λ i e. or_left _ _ e)

  stable_or_many : (v n : ℕ) → IsStable v n ⊎ (n ≤ count (λ i. live_after n rows i v) (length rows))
  stable_or_many v zero = inr (omega arith)
  stable_or_many v (suc n) = ⊎_elim
      (λ s. inl (stable_next v n s))
      (λ m. ⊎_elim (λ same. inl (stable_next v n (stable_all v n same))) (λ more. inr (omega arith)) (grows v n))
      (stable_or_many v n)

  stable : (v : ℕ) → IsStable v (length rows)
  stable v = ⊎_elim
      (λ s. s)
      (λ m. ⊎_elim
      (λ same. stable_all v (length rows) same)
      (λ more. let c = count_most (λ i. live_after (suc (length rows)) rows i v) (length rows) in absurd (omega arith))
      (grows v (length rows)))
      (stable_or_many v (length rows))

pub are_live : (rows : List LiveRow) → AreLive rows (is_live rows)
are_live rows = record {
  uses = λ i v e. start_kept rows (length rows) i v (or_left _ _ e);
  fallback = λ i v p f. start_kept rows (length rows) i v (or_right (has (row_at rows i).uses v) _ (both _ _ p f));
  passes = λ i v j p m e. stable rows v i (or_right (is_live rows i v) _ (both _ _ p (any_among (is_live rows) v _ j m e)));
}

pub long_walks : (rows : List LiveRow) (v n i : ℕ) → Walk rows v n i → is_live rows i v ≡ true
long_walks rows v n i (Here _ _ e) = start_kept rows (length rows) i v e
long_walks rows v (suc n) i (There _ _ j p m w) = (are_live rows).passes i v j p m (long_walks rows v n j w)

pub walk_law : (rows : List LiveRow) (i v : ℕ) → (is_live rows i v ≡ true) ↔ Walk rows v (length rows) i
walk_law rows i v = ((λ e. walks rows (length rows) i v e), (λ w. walked rows v (length rows) i w))
