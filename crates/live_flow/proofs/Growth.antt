-- Sets that grow stay under the live sets, until nothing waits.
use Rattle.std.proofs.Common.{◌≡◌, ℕ, zero, suc, ◌+◌, ◌-◌, ◌*◌, ◌^◌, ◌<◌, ◌≤◌, ◌⊎◌, Bool, true, false, List, [], ◌∷◌, ◌++◌, length, get_or, set, sum, inl, inr, sym, ap, subst, ◌∙◌, refl, arith, ⊎_elim, length-set, length-append}
use Rattle.std.specs.Prelude.{◌&&◌, ◌||◌, bit_or, bit_and}
use Rattle.std.proofs.lemmas.Bool.{cases_eq, cases_lt}
use Rattle.std.proofs.lemmas.Nat.{le_or_l}
use Rattle.std.proofs.lemmas.List.{get_or-set_same, get_or-set_other, get_or_past}
use Rattle.std.proofs.lemmas.List.Sums.{sum_by-set, sum_by-le}
use Rattle.std.proofs.lemmas.List.Elements.{All-from_get_or}
use Rattle.pass_dead.specs.Names.{has}
use Rattle.pass_dead.proofs.Bools.{and_left, and_right, either_one, or_left, or_right, both}
use Rattle.stub_sink.proofs.Sets.{has_or, has_and, has_none}
use Rattle.live_flow.specs.declared.row.LiveRow.{LiveRow}
use Rattle.live_flow.specs.Live.{no_row, row_at, hands, ways, needed_at, any_live, live_after, is_live, live_in, NextAreStarts, IsAmong, AreLive}
use Rattle.live_flow.specs.Links.{AreLinks}
use Rattle.live_flow.specs.Growing.{In, Grows, IsUnder}
use Rattle.live_flow.proofs.Among.{among_left, among_last, among_split}
use Rattle.live_flow.proofs.Living.{any_of, are_live, start_kept, none_past}
use Rattle.live_flow.proofs.Numbers.{live_is}

-- ---- one row
module _ (rows : List LiveRow) (s : ℕ) where
  abbrev pub grown : List ℕ → ℕ → ℕ
  grown sets p = bit_or (get_or sets p 0) (bit_and (row_at rows p).passes s)

  grown_left : (sets : List ℕ) (p v : ℕ) → In sets p v → has (grown sets p) v ≡ true
  grown_left sets p v h = has_or (get_or sets p 0) (bit_and (row_at rows p).passes s) v ∙ or_left _ _ h

  grown_right : (sets : List ℕ) (p v : ℕ) → hands rows p v ≡ true → has s v ≡ true → has (grown sets p) v ≡ true
  grown_right sets p v h g = has_or (get_or sets p 0) (bit_and (row_at rows p).passes s) v ∙ or_right (has (get_or sets p 0) v) _ (has_and (row_at rows p).passes s v ∙ both _ _ h g)

  grown_of : (sets : List ℕ) (p v : ℕ) → has (grown sets p) v ≡ true → In sets p v ⊎ ((hands rows p v ≡ true) × (has s v ≡ true))
  grown_of sets p v e = ⊎_elim
      (λ l. inl l)
      (λ r. let q = sym (has_and (row_at rows p).passes s v) ∙ r in inr (and_left _ _ q, and_right (hands rows p v) _ q))
      (either_one (has (get_or sets p 0) v) _ (sym (has_or (get_or sets p 0) (bit_and (row_at rows p).passes s) v) ∙ e))

  pub grows_none : (sets queue : List ℕ) → Grows rows s [] sets sets queue queue
  grows_none sets queue = record { each = refl; keeps = λ k v h. h; comes = λ k v h. inl h; gives = λ k v h. absurd h; queued = λ k v h. inl h; stays = λ k h. h; within = λ k h. inl h; cost = omega arith }

  -- its set has it all
  pub left : (sets queue : List ℕ) (p : ℕ) → grown sets p ≡ get_or sets p 0 → Grows rows s (p ∷ []) sets sets queue queue
  left sets queue p e = record {
    each = refl;
    keeps = λ k v h. h;
    comes = λ k v h. inl h;
    gives = λ k v a h g. ⊎_elim (λ is. subst (λ j. In sets j v) is (ap (λ t. has t v) (sym e) ∙ grown_right sets p v (ap (λ j. hands rows j v) is ∙ h) g)) (λ n. absurd n) a;
    queued = λ k v h. inl h;
    stays = λ k h. h;
    within = λ k h. inl h;
    cost = omega arith;
  }

  -- its set grows
  pub taken : (sets queue : List ℕ) (p : ℕ) → p < length sets → (grown sets p ≡ get_or sets p 0 → ⊥) → Grows rows s (p ∷ []) sets (set sets p (grown sets p)) queue (queue ++ p ∷ [])
  taken sets queue p l ne =
      let new : List ℕ = set sets p (grown sets p) in
      let same : get_or new p 0 ≡ grown sets p = get_or-set_same sets p (grown sets p) 0 l in
      let other : (k : ℕ) → (k ≡ p → ⊥) → get_or new k 0 ≡ get_or sets k 0 = λ k d. get_or-set_other sets p k (grown sets p) 0 d in
      let at : (k v : ℕ) → k ≡ p → has (get_or new k 0) v ≡ has (grown sets p) v = λ k v e. ap (λ j. has (get_or new j 0) v) e ∙ ap (λ t. has t v) same in
      let past : (k v : ℕ) → (k ≡ p → ⊥) → has (get_or new k 0) v ≡ has (get_or sets k 0) v = λ k v d. ap (λ t. has t v) (other k d) in
      record {
        each = length-set sets p (grown sets p);
        keeps = λ k v h. ⊎_elim (λ e. at k v e ∙ grown_left sets p v (ap (λ j. has (get_or sets j 0) v) (sym e) ∙ h)) (λ d. past k v d ∙ h) (cases_eq k p);
        comes = λ k v h. ⊎_elim
            (λ e. ⊎_elim (λ was. inl (ap (λ j. has (get_or sets j 0) v) e ∙ was)) (λ z. inr (inl (sym e), ap (λ j. hands rows j v) e ∙ z.0, z.1)) (grown_of sets p v (sym (at k v e) ∙ h)))
            (λ d. inl (sym (past k v d) ∙ h))
            (cases_eq k p);
        gives = λ k v a h g. ⊎_elim (λ is. at k v (sym is) ∙ grown_right sets p v (ap (λ j. hands rows j v) is ∙ h) g) (λ n. absurd n) a;
        queued = λ k v h. ⊎_elim (λ e. inr (subst (λ j. IsAmong (queue ++ p ∷ []) j) (sym e) (among_last queue p))) (λ d. inl (sym (past k v d) ∙ h)) (cases_eq k p);
        stays = λ k h. among_left queue (p ∷ []) k h;
        within = λ k h. ⊎_elim (λ a. inl a) (λ e. inr (inl e)) (among_split queue p k h);
        cost = omega (arith, sum_by-set (λ x. x) sets p (grown sets p) 0 l, le_or_l (get_or sets p 0) (bit_and (row_at rows p).passes s), length-append queue (p ∷ []));
      }

  -- the same, with the row as it was read
  pub taken_as : (sets queue more : List ℕ) (p : ℕ) (r : LiveRow) → p < length sets → row_at rows p ≡ r → (bit_or (get_or sets p 0) (bit_and r.passes s) ≡ get_or sets p 0 → ⊥) → more ≡ queue ++ p ∷ [] → Grows rows s (p ∷ []) sets (set sets p (bit_or (get_or sets p 0) (bit_and r.passes s))) queue more
  taken_as sets queue more p r l e ne q =
      let as' : grown sets p ≡ bit_or (get_or sets p 0) (bit_and r.passes s) = ap (λ (t : LiveRow). bit_or (get_or sets p 0) (bit_and t.passes s)) e in
      let P : ℕ → Type 0 = λ t. Grows rows s (p ∷ []) sets (set sets p t) queue more in
      let Q : List ℕ → Type 0 = λ t. Grows rows s (p ∷ []) sets (set sets p (grown sets p)) queue t in
      subst P as' (subst Q (sym q) (taken sets queue p l (λ z. ne (sym as' ∙ z))))

  pub left_as : (sets queue : List ℕ) (p : ℕ) (r : LiveRow) → row_at rows p ≡ r → bit_or (get_or sets p 0) (bit_and r.passes s) ≡ get_or sets p 0 → Grows rows s (p ∷ []) sets sets queue queue
  left_as sets queue p r e q = left sets queue p (ap (λ (t : LiveRow). bit_or (get_or sets p 0) (bit_and t.passes s)) e ∙ q)

  -- one after another
  pub grows_more : (done a b c w q r : List ℕ) (p : ℕ) → Grows rows s done a b w q → Grows rows s (p ∷ []) b c q r → Grows rows s (done ++ p ∷ []) a c w r
  grows_more done a b c w q r p h g =
      let last : (k : ℕ) → IsAmong (p ∷ []) k → IsAmong (done ++ p ∷ []) k = λ k z. ⊎_elim (λ e. subst (λ j. IsAmong (done ++ p ∷ []) j) e (among_last done p)) (λ n. absurd n) z in
      record {
        each = g.each ∙ h.each;
        keeps = λ k v z. g.keeps k v (h.keeps k v z);
        comes = λ k v z. ⊎_elim (λ x. ⊎_elim (λ y. inl y) (λ y. inr (among_left done (p ∷ []) k y.0, y.1, y.2)) (h.comes k v x)) (λ x. inr (last k x.0, x.1, x.2)) (g.comes k v z);
        gives = λ k v z m t. ⊎_elim (λ x. g.keeps k v (h.gives k v x m t)) (λ e. g.gives k v (inl e) m t) (among_split done p k z);
        queued = λ k v z. ⊎_elim (λ x. ⊎_elim (λ y. inl y) (λ y. inr (g.stays k y)) (h.queued k v x)) (λ x. inr x) (g.queued k v z);
        stays = λ k z. g.stays k (h.stays k z);
        within = λ k z. ⊎_elim (λ x. ⊎_elim (λ y. inl y) (λ y. inr (among_left done (p ∷ []) k y)) (h.within k x)) (λ x. inr (last k x)) (g.within k z);
        cost = let x = h.cost in let y = g.cost in omega arith;
      }

-- ---- all rows
module _ (rows : List LiveRow) where
  nothing_past : (k v : ℕ) → length rows ≤ k → needed_at (row_at rows k) v ≡ true → ⊥
  nothing_past k v l e =
      let is = none_past rows rows k l in
      let z : needed_at (row_at rows k) v ≡ false = ap (λ (r : LiveRow). needed_at r v) is ∙ ap (λ b. b || (b && false)) (has_none v) in cc

  pub begin : (sets queue : List ℕ) → NextAreStarts rows → length sets ≡ length rows → ((k v : ℕ) → k < length rows → has (get_or sets k 0) v ≡ needed_at (row_at rows k) v) → ((k : ℕ) → IsAmong queue k → k < length rows) → ((k : ℕ) → k < length rows → IsAmong queue k) → IsUnder rows sets queue
  begin sets queue starts e h in' all = record {
    each = e;
    within = in';
    sound = λ k v z. ⊎_elim
        (λ l. start_kept rows (length rows) k v (sym (h k v l) ∙ z))
        (λ g. absurd (let y : has (get_or sets k 0) v ≡ false = ap (λ t. has t v) (get_or_past sets k 0 (omega arith)) ∙ has_none v in cc))
        (cases_lt k (length rows));
    needed = λ k v l z. h k v l ∙ z;
    handed = λ p j v l a m z. inl (all j (starts p j a));
  }

  pub go_on : (links : List (List ℕ)) (old new all waits queue : List ℕ) (i : ℕ) → AreLinks rows links → all ≡ waits ++ i ∷ [] → Grows rows (get_or old i 0) (get_or links i []) old new waits queue → IsUnder rows old all → IsUnder rows new queue
  go_on links old new all waits queue i links_are is g h =
      let live : AreLive rows (is_live rows) = are_live rows in
      let long = h.each in
      let in' : i < length rows = h.within i (subst (λ t. IsAmong t i) (sym is) (among_last waits i)) in
      record {
        each = g.each ∙ h.each;
        within = λ k z. ⊎_elim (λ w. h.within k (subst (λ t. IsAmong t k) (sym is) (among_left waits (i ∷ []) k w))) (λ d. (links_are.sound i k d).0) (g.within k z);
        sound = λ k v z. ⊎_elim (λ o. h.sound k v o) (λ x. live.passes k v i x.1 (links_are.sound i k x.0).1 (h.sound i v x.2)) (g.comes k v z);
        needed = λ k v l z. g.keeps k v (h.needed k v l z);
        handed = λ p j v l a m z. ⊎_elim
            (λ o. ⊎_elim
            (λ w. ⊎_elim
            (λ before. inl (g.stays j before))
            (λ e. inr (g.gives p v (links_are.complete i p in' l (subst (λ t. IsAmong (ways rows p) t) (sym e) a)) m (ap (λ t. has (get_or old t 0) v) e ∙ o)))
            (among_split waits i j (subst (λ t. IsAmong t j) is w)))
            (λ had. inr (g.keeps p v had))
            (h.handed p j v l a m o))
            (λ y. inl y)
            (g.queued j v z);
      }

  -- when nothing waits, the sets have each round
  has_rounds : (sets : List ℕ) → IsUnder rows sets [] → (n k v : ℕ) → live_after n rows k v ≡ true → In sets k v
  has_rounds sets h zero k v e = ⊎_elim (λ l. h.needed k v l e) (λ g. absurd (nothing_past k v g e)) (cases_lt k (length rows))
  has_rounds sets h (suc n) k v e = ⊎_elim
      (λ l. has_rounds sets h n k v l)
      (λ r. let m = and_left (hands rows k v) _ r in
      let w = any_of (live_after n rows) v (ways rows k) (and_right (hands rows k v) _ r) in
      ⊎_elim
      (λ l. ⊎_elim (λ x. absurd x) (λ y. y) (h.handed k w.0 v l w.1 m (has_rounds sets h n w.0 v w.2)))
      (λ g. absurd (let z : hands rows k v ≡ false = ap (λ (t : LiveRow). has t.passes v) (none_past rows rows k g) ∙ has_none v in cc))
      (cases_lt k (length rows)))
      (either_one (live_after n rows k v) _ e)

  same_truth : (a b : Bool) → (a ≡ true → b ≡ true) → (b ≡ true → a ≡ true) → a ≡ b
  same_truth true true h g = refl
  same_truth false false h g = refl
  same_truth true false h g = sym (h refl)
  same_truth false true h g = g refl

  pub finish : (sets : List ℕ) → ((k : ℕ) → get_or sets k 0 < 2 ^ 16) → IsUnder rows sets [] → sets ≡ live_in rows
  finish sets small h = live_is rows sets h.each small (λ i v l m. same_truth _ _ (h.sound i v) (has_rounds sets h (length rows) i v))

-- the same fact of the same places
pub grows_as : (rows : List LiveRow) (s : ℕ) (done done' old new waits queue : List ℕ) → done ≡ done' → Grows rows s done old new waits queue → Grows rows s done' old new waits queue
grows_as rows s done done' old new waits queue f g = let Q : List ℕ → Type 0 = λ t. Grows rows s t old new waits queue in subst Q f g

pub empty_of : (xs : List ℕ) → length xs ≡ 0 → xs ≡ []
empty_of [] e = refl
empty_of (x ∷ xs) e = absurd (omega arith)

-- ---- how much can still grow
pub smaller : (n m k w q a b : ℕ) → n ≡ m → a ≤ m * 65535 → b ≤ n * 65535 → k ≡ w + 1 → q + 2 * a ≤ w + 2 * b → 2 * (65536 * n - b) + q < 2 * (65536 * m - a) + k
smaller n m k w q a b e u l f c = omega arith

pub sum_most : (sets : List ℕ) → ((i : ℕ) → get_or sets i 0 < 65536) → sum sets ≤ length sets * 65535
sum_most sets fits = sum_by-le (λ s. s) 65535 sets (All-from_get_or (λ s. s ≤ 65535) sets 0 (λ i l. omega (arith, fits i)))

-- what a row needs, by the way that its fallback goes
pub needed_then : (x f : Bool) → f ≡ true → x ≡ (x && f)
needed_then true f e = sym e
needed_then false f e = refl

pub needed_else : (x f : Bool) → f ≡ false → false ≡ (x && f)
needed_else true f e = sym e
needed_else false f e = refl
