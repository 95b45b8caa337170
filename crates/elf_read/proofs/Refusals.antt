-- Refusals that do not come, and tests.
use Rattle.std.proofs.Common.{◌≡◌, ℕ, ◌+◌, Bool, true, false, not, ◌&&◌, ◌||◌, List, [], ◌∷◌, Option, Some, None, ◌⊎◌, inl, inr, refl, sym, ap, ◌∙◌}
use Rattle.std.specs.Prelude.{filter, if◌then◌else◌}
use Rattle.std.proofs.lemmas.Option.{none-some}
use Rattle.elf_read.specs.declared.header.Header.{Header}
use Rattle.elf_read.specs.Elf.{first_where, place_if, first_refused}

pub or_none : (a b : Bool) → a ≡ false → b ≡ false → (a || b) ≡ false
or_none a b e f = ap (λ a. a || b) e ∙ f

pub or_inv : (a b : Bool) → (a || b) ≡ false → (a ≡ false) × (b ≡ false)
or_inv true b e = cc
or_inv false b e = (refl, e)

pub and_inv : (a b : Bool) → (a && b) ≡ true → (a ≡ true) × (b ≡ true)
and_inv true b e = (refl, e)
and_inv false b e = cc

pub not_inv : (b : Bool) → not b ≡ false → b ≡ true
not_inv true e = refl
not_inv false e = cc

pub either : (a b : Bool) → (a || b) ≡ true → (a ≡ true) ⊎ (b ≡ true)
either true b e = inl refl
either false b e = inr e

abbrev pub AllNone : List (Option ℕ) → Type 0
AllNone [] = Unit {0}
AllNone (o ∷ os) = (o ≡ None) × AllNone os

pub none_all : (n : ℕ) (os : List (Option ℕ)) → first_refused n os ≡ None → AllNone os
none_all n [] e = tt
none_all n (None ∷ os) e = (refl, none_all (n + 1) os e)
none_all n (Some place ∷ os) e = absurd (none-some _ (sym e))

pub pass : (n : ℕ) (o : Option ℕ) (rest : List (Option ℕ)) → o ≡ None → first_refused n (o ∷ rest) ≡ first_refused (n + 1) rest
pass n o rest e = ap (λ o. first_refused n (o ∷ rest)) e

pub all_none : (n : ℕ) (os : List (Option ℕ)) → AllNone os → first_refused n os ≡ None
all_none n [] h = refl
all_none n (o ∷ os) h = pass n o os h.0 ∙ all_none (n + 1) os h.1

pub place_inv : (b : Bool) (place : ℕ) (o : Option ℕ) → place_if b place o ≡ None → (b ≡ false) × (o ≡ None)
place_inv true place o e = absurd (none-some _ (sym e))
place_inv false place o e = (refl, e)

pub where_inv : (p : Header → Bool) (h : Header) (hs : List Header) → first_where p (h ∷ hs) ≡ None → (p h ≡ false) × (first_where p hs ≡ None)
where_inv p h hs e = place_inv (p h) h.place (first_where p hs) e

pub where_filter : (p q : Header → Bool) (hs : List Header) → first_where p hs ≡ None → first_where p (filter q hs) ≡ None
where_filter p q [] e = refl
where_filter p q (h ∷ hs) e =
    let i = where_inv p h hs e in
    go (q h) i.0 (where_filter p q hs i.1)
  where
    go : (b : Bool) → p h ≡ false → first_where p (filter q hs) ≡ None → first_where p (if b then h ∷ filter q hs else filter q hs) ≡ None
    go true f r = ap (λ b. if b then Some h.place else first_where p (filter q hs)) f ∙ r
    go false f r = r
