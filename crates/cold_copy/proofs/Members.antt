-- A set of addresses, one address more at a time.
use Rattle.std.proofs.Common.{◌≡◌, ℕ, Bool, true, false, ◌||◌, List, Ordering, Less, Equal, Greater, refl, sym, ap, ◌∙◌, subst, ⊎_elim}
use Rattle.std.specs.Prelude.{◌==◌, ◌≢◌, cond}
use Rattle.std.specs.Ordering.{nat_cmp, is_eq}
use Rattle.std.specs.BTreeMap.{is_at}
use Rattle.std.specs.BTreeSet.{BTreeSet, contains, Updates}
use Rattle.std.proofs.lemmas.Bool.Decides.{eqb_tells}
use Rattle.std.proofs.lemmas.Map.Lookups.{exact_unsigned}
use Rattle.block_cut.specs.Transfers.{is_among}

equal_from : (o : Ordering) → is_eq o ≡ true → o ≡ Equal
equal_from Less e = cc
equal_from Equal e = refl
equal_from Greater e = cc

or_true : (b r : Bool) → (b || (true || r)) ≡ true
or_true true r = refl
or_true false r = refl

pub or_false : (b : Bool) → (b || false) ≡ b
or_false true = refl
or_false false = refl

module _ (s n : BTreeSet ℕ) (x : ℕ) (u : Updates nat_cmp s n x true) (rest : List ℕ) (y : ℕ) where
  other : y ≢ x → (b : Bool) → is_at (nat_cmp x) y ≡ b → contains nat_cmp n y ≡ contains nat_cmp s y
  other d true e = absurd (d (sym (exact_unsigned x y (equal_from (nat_cmp x y) e))))
  other d false e = u.0 y ∙ ap (λ b. cond b true (contains nat_cmp s y)) e

  pub one_more : (contains nat_cmp n y || is_among rest y) ≡ (contains nat_cmp s y || (y == x || is_among rest y))
  one_more = ⊎_elim
      (λ (q : ((y == x) ≡ true) × (y ≡ x)).
      ap (λ b. b || is_among rest y) (subst (λ z. contains nat_cmp n z ≡ true) (sym q.1) u.1)
      ∙ sym (ap (λ b. contains nat_cmp s y || (b || is_among rest y)) q.0 ∙ or_true (contains nat_cmp s y) (is_among rest y)))
      (λ (q : ((y == x) ≡ false) × (y ≢ x)).
      ap (λ b. b || is_among rest y) (other q.1 (is_at (nat_cmp x) y) refl)
      ∙ sym (ap (λ b. contains nat_cmp s y || (b || is_among rest y)) q.0))
      (eqb_tells y x)
