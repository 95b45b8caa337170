-- A front part of a sequence of parts.
use Rattle.std.proofs.Common.{◌≡◌, ℕ, zero, suc, ◌+◌, ◌∙◌, ◌++◌, [], ◌∷◌, List, Result, Ok, Err, ap, sym, append_assoc, length, take, refl, arith}
use Rattle.std.specs.Prelude.{OnErr, OnOk}
use Rattle.std.proofs.lemmas.List.{take_at}
use Rattle.ia_encode.specs.declared.item.Item.{Item}
use Rattle.fall_stubs.specs.Exchange.{Grew}

-- what holds anyway holds at an error
pub anyway : {A E P : Type 0} (r : Result A E) → P → OnErr r P
anyway (Ok x) p = tt
anyway (Err e) p = p

-- what follows at an error
pub follows : {A E P Q : Type 0} (r : Result A E) → OnErr r P → (P → Q) → OnErr r Q
follows (Ok x) p f = tt
follows (Err e) p f = f p

-- what follows where it went well
pub goes_on : {A E P Q : Type 0} (r : Result A E) → OnOk r P → (P → Q) → OnOk r Q
goes_on (Ok x) p f = f p
goes_on (Err e) p f = tt

-- two parts are one
pub both : (old mid new a b : List Item) → mid ≡ old ++ a → new ≡ mid ++ b → new ≡ old ++ (a ++ b)
both old mid new a b d e = e ∙ ap (λ x. x ++ b) d ∙ append_assoc old a b

-- a whole part, and nothing of what comes behind it
pub grew_whole : (old new part rest : List Item) → new ≡ old ++ part → Grew old new (part ++ rest)
grew_whole old new part rest e = (length part, e ∙ ap (λ x. old ++ x) (sym (take_at part rest (length part) refl)))

-- a part, and a front part of what comes behind it
taken : (part next : List Item) (n k : ℕ) → k ≡ length part + n → take k (part ++ next) ≡ part ++ take n next
taken [] next n k e = let z : k ≡ n = omega (arith, e) in ap (λ j. take j next) z
taken (x ∷ part) next n zero e = absurd (omega (arith, e))
taken (x ∷ part) next n (suc k) e = ap (λ l. x ∷ l) (taken part next n k (omega (arith, e)))

pub grew_more : (old mid new part next : List Item) → mid ≡ old ++ part → Grew mid new next → Grew old new (part ++ next)
grew_more old mid new part next d g =
    (length part + g.0, g.1 ∙ ap (λ x. x ++ take g.0 next) d ∙ append_assoc old part (take g.0 next) ∙ ap (λ x. old ++ x) (sym (taken part next g.0 (length part + g.0) refl)))

-- more behind a front part: as much of the whole as it has
take_less : (n : ℕ) (all rest : List Item) → (m : ℕ) × (take m (all ++ rest) ≡ take n all)
take_less zero all rest = (0, refl)
take_less (suc n) [] rest = (0, refl)
take_less (suc n) (x ∷ all) rest = let h = take_less n all rest in (suc h.0, ap (λ l. x ∷ l) h.1)

pub grew_wider : (old new all rest : List Item) → Grew old new all → Grew old new (all ++ rest)
grew_wider old new all rest g = let h = take_less g.0 all rest in (h.0, g.1 ∙ ap (λ x. old ++ x) (sym h.1))
