-- A coding that serves a checked block places its lines safely.
use Rattle.std.proofs.Common.{◌≡◌, ◌≢◌, ℕ, suc, ◌<◌, ◌≤◌, Bool, true, false, List, [], ◌∷◌, ◌++◌, length, get_or, refl, sym, ap, ◌∙◌, subst, arith, ◌⊎◌, inl, inr, ⊎_elim}
use Rattle.std.specs.Prelude.{nat_eq, if◌then◌else◌}
use Rattle.std.proofs.lemmas.Bool.{eqb-true, eq-eqb, true≢false}
use Rattle.par_moves.specs.declared.locations.Place.{Place}
use Rattle.par_moves.specs.declared.locations.Place.TheVariants.{Reg, Slot}
use Rattle.par_moves.specs.Locations.{same_place}
use Rattle.ssa_form.specs.declared.form.Line.{Line}
use Rattle.ssa_form.specs.declared.form.Line.TheVariants.{Bin, One, Select, Load, Store, Gone}
use Rattle.ssa_form.specs.declared.form.Block.{Block}
use Rattle.ssa_form.specs.Checked.{has_result}
use Rattle.code_laws.specs.Placed.{Names, Used, Later, IsSpare, Safe}
use Rattle.emit_ops.specs.Sequences.{kept}
use Rattle.sim_runs.specs.Coding.{HasResult, NamedLater, IsKept, NoneLost}
use Rattle.piece_laws.proofs.Checked.{Gives, gives_low, line_names, line_fits, RowsCheck}
use Rattle.piece_laws.proofs.Named.{used_named, later_of}

place_same : (p q : Place) → same_place p q ≡ true → p ≡ q
place_same (Reg a) (Reg b) h = ap (λ r. Reg r) (eqb-true a b h)
place_same (Slot a) (Slot b) h = ap (λ k. Slot k) (eqb-true a b h)
place_same (Reg a) (Slot b) h = absurd (true≢false (sym h))
place_same (Slot a) (Reg b) h = absurd (true≢false (sym h))

pub places_differ : (p q : Place) → (q ≡ p → ⊥) → same_place p q ≡ false
places_differ p q n = go (same_place p q) refl
  where
    go : (b : Bool) → same_place p q ≡ b → b ≡ false
    go true e = absurd (n (sym (place_same p q e)))
    go false e = refl

-- a line's own result is not what is used behind it
own_later : (l : Line) (i j : ℕ) (U : Type 0) → Later l i j U → has_result l ≡ true → j ≢ i
own_later (Bin op a b) i j U h r = h.0
own_later (One op a) i j U h r = h.0
own_later (Select c a b) i j U h r = h.0
own_later (Load w at) i j U h r = h.0
own_later (Store w at a) i j U h r = absurd (true≢false (sym r))
own_later Gone i j U h r = absurd (true≢false (sym r))

spare_by : (limit : ℕ) (place : ℕ → Place) (last : ℕ → Bool) (l : Line) (i : ℕ) (ps : List (ℕ × Line)) →
    (HasResult l → (j : ℕ) → j < limit → Used last ps j → j ≢ i → same_place (place j) (place i) ≡ false) → IsSpare limit place last l i ps
spare_by limit place last (Bin op a b) i ps h = h tt
spare_by limit place last (One op a) i ps h = h tt
spare_by limit place last (Select c a b) i ps h = h tt
spare_by limit place last (Load w at) i ps h = h tt
spare_by limit place last (Store w at a) i ps h = tt
spare_by limit place last Gone i ps h = tt

-- what a line of the set names is given, or in the set
abbrev pub Names_in : (ℕ → Bool) → (ℕ → Bool) → List (ℕ × Line) → Type 0
Names_in given set [] = Unit {0}
Names_in given set (p ∷ ps) = (set p.0 ≡ true → (j : ℕ) → Names p.1 j → (given j ≡ true) ⊎ (set j ≡ true)) × Names_in given set ps

pub lost_behind : (b : Block) (place : ℕ → Place) (ps qs : List (ℕ × Line)) → NoneLost b place (ps ++ qs) → NoneLost b place qs
lost_behind b place [] qs h = h
lost_behind b place (p ∷ ps) qs h = lost_behind b place ps qs h.1

kept_behind : (b : Block) (place : ℕ → Place) (i : ℕ) (ps qs : List (ℕ × Line)) → IsKept b place i (ps ++ qs) → IsKept b place i qs
kept_behind b place i [] qs h = h
kept_behind b place i (p ∷ ps) qs h = kept_behind b place i ps qs h.1

module _ (b : Block) (place : ℕ → Place) where
  -- a line of the set is kept through what stands behind the set
  pub kept_after : (set : ℕ → Bool) (tail : List (ℕ × Line)) (at : ℕ) (ps : List (ℕ × Line)) → RowsCheck b.lines at ps → NoneLost b place (kept set ps ++ tail) → (j : ℕ) → set j ≡ true → at ≤ j → j < length b.lines → IsKept b place j tail
  kept_after set tail at [] c n j s l m = let z = c in absurd (omega (arith, z))
  kept_after set tail at (p ∷ ps) c n j s l m = go (set p.0) refl n (λ r k. kept_after set tail (suc at) ps c.4 r j s k m)
    where
      at_it : (y : Bool) → nat_eq j at ≡ y → IsKept b place p.0 tail → (suc at ≤ j → IsKept b place j tail) → IsKept b place j tail
      at_it true q k rest = subst (λ i. IsKept b place i tail) (c.0 ∙ sym (eqb-true j at q)) k
      at_it false q k rest = rest (let d : j ≢ at = (λ f. true≢false (sym (eq-eqb j at f) ∙ q)) in omega (arith, l))

      go : (x : Bool) → set p.0 ≡ x → NoneLost b place ((if x then p ∷ kept set ps else kept set ps) ++ tail) → (NoneLost b place (kept set ps ++ tail) → suc at ≤ j → IsKept b place j tail) → IsKept b place j tail
      go true e n rest = at_it (nat_eq j at) refl (kept_behind b place p.0 (kept set ps) tail n.0) (rest n.1)
      go false e n rest = rest n (let d : j ≢ at = (λ f. true≢false (sym s ∙ ap set (f ∙ sym c.0) ∙ e)) in omega (arith, l))

  size_of_rows : (at : ℕ) (qs : List (ℕ × Line)) → RowsCheck b.lines at qs → at ≤ length b.lines
  size_of_rows at [] c = let z = c in omega (arith, z)
  size_of_rows at (q ∷ qs) c = let r = size_of_rows (suc at) qs c.4 in omega (arith, r)

  module _ (set given last : ℕ → Bool) (tail : List (ℕ × Line)) where
    -- given before, or a line of the set before this number
    abbrev pub In : ℕ → ℕ → Type 0
    In at j = (given j ≡ true) ⊎ ((set j ≡ true) × (j < at))

    earlier : (at j : ℕ) → j ≢ at → In (suc at) j → In at j
    earlier at j d (inl g) = inl g
    earlier at j d (inr s) = let l = s.1 in inr (s.0, omega arith)

    abbrev LastIn : Type 0
    LastIn = (j : ℕ) → last j ≡ true → Gives b.lines j × ((given j ≡ true) ⊎ (set j ≡ true))

    -- what is used has a result, and is there
    pub used_in : LastIn → (at : ℕ) (ps : List (ℕ × Line)) → RowsCheck b.lines at ps → Names_in given set ps → (j : ℕ) → Used last (kept set ps) j → Gives b.lines j × In at j
    used_in ends at [] c n j u =
        let q = ends j u in
        let l = gives_low b.lines j q.0 in
        let z = c in
        (q.0, ⊎_elim (λ (g : given j ≡ true). inl g) (λ (s : set j ≡ true). inr (s, omega (arith, z, l))) q.1)
    used_in ends at (p ∷ ps) c n j u = go (set p.0) refl u (λ v. used_in ends (suc at) ps c.4 n.1 j v)
      where
        go : (x : Bool) → set p.0 ≡ x → Used last (if x then p ∷ kept set ps else kept set ps) j → (Used last (kept set ps) j → Gives b.lines j × In (suc at) j) → Gives b.lines j × In at j
        go true e (inl h) behind =
            let q = line_names b.lines at p.1 j c.2 h in
            (q.1, ⊎_elim (λ (g : given j ≡ true). inl g) (λ (s : set j ≡ true). inr (s, q.0)) (n.0 e j h))
        go true e (inr h) behind =
            let q = behind (later_of p.1 p.0 j (Used last (kept set ps) j) h) in
            let d : j ≢ at = (λ f. own_later p.1 p.0 j (Used last (kept set ps) j) h (ap has_result (sym c.1) ∙ ap (λ k. has_result (get_or b.lines k Gone)) (sym f) ∙ q.0) (f ∙ sym c.0)) in
            (q.0, earlier at j d q.1)
        go false e v behind =
            let q = behind v in (
              q.0,
              ⊎_elim (λ (g : given j ≡ true). inl g) (λ (s : (set j ≡ true) × (j < suc at)).
                  let d : j ≢ at = (λ f. true≢false (sym s.0 ∙ ap set (f ∙ sym c.0) ∙ e)) in
                  let l = s.1 in
                  inr (s.0, omega arith)) q.1,
            )

    -- no line takes a place that is still used
    pub safe_in : LastIn → ((j : ℕ) → last j ≡ true → NamedLater b j tail) → (at : ℕ) (ps : List (ℕ × Line)) → at ≤ length b.lines → RowsCheck b.lines at ps → Names_in given set ps →
        ((j : ℕ) → Gives b.lines j → In at j → IsKept b place j (kept set ps ++ tail)) → NoneLost b place (kept set ps ++ tail) → Safe (length b.lines) place last (kept set ps)
    safe_in ends names at [] low c n k lost = tt
    safe_in ends names at (p ∷ ps) low c n k lost = go (set p.0) refl k lost (λ k lost. safe_in ends names (suc at) ps (size_of_rows (suc at) ps c.4) c.4 n.1 k lost)
      where
        not_it : set p.0 ≡ false → (j : ℕ) → set j ≡ true → j < suc at → In at j
        not_it e j s l = let d : j ≢ at = (λ f. true≢false (sym s ∙ ap set (f ∙ sym c.0) ∙ e)) in inr (s, omega arith)

        still : ((j : ℕ) → Gives b.lines j → In at j → IsKept b place j ((p ∷ kept set ps) ++ tail)) → NoneLost b place ((p ∷ kept set ps) ++ tail) → (j : ℕ) (y : Bool) → nat_eq j at ≡ y → Gives b.lines j → In (suc at) j → IsKept b place j (kept set ps ++ tail)
        still k lost j true q g i = subst (λ v. IsKept b place v (kept set ps ++ tail)) (c.0 ∙ sym (eqb-true j at q)) lost.0
        still k lost j false q g i = (k j g (earlier at j (λ f. true≢false (sym (eq-eqb j at f) ∙ q)) i)).1

        go : (x : Bool) → set p.0 ≡ x → ((j : ℕ) → Gives b.lines j → In at j → IsKept b place j ((if x then p ∷ kept set ps else kept set ps) ++ tail)) → NoneLost b place ((if x then p ∷ kept set ps else kept set ps) ++ tail) →
            (((j : ℕ) → Gives b.lines j → In (suc at) j → IsKept b place j (kept set ps ++ tail)) → NoneLost b place (kept set ps ++ tail) → Safe (length b.lines) place last (kept set ps)) →
            Safe (length b.lines) place last (if x then p ∷ kept set ps else kept set ps)
        go true e k lost rest = (
          (let z = c.0 in let l = size_of_rows (suc at) ps c.4 in omega (arith, z, l)),
          line_fits b.lines at (length b.lines) p.1 low c.2 c.3,
          spare_by (length b.lines) place last p.1 p.0 (kept set ps) (λ r j l u d.
              let q = used_in ends (suc at) ps c.4 n.1 j u in
              let i = earlier at j (λ f. d (f ∙ sym c.0)) q.1 in
              places_differ (place j) (place p.0) (λ f. (k j q.0 i).0 r f (used_named b last tail names (kept set ps) j u))),
          rest (λ j g i. still k lost j (nat_eq j at) refl g i) lost.1,
        )
        go false e k lost rest = rest (λ j g i. k j g (⊎_elim (λ (g : given j ≡ true). inl g) (λ (s : (set j ≡ true) × (j < suc at)). not_it e j s.0 s.1) i)) lost
