-- Lists of the rows that lead to a row, one more place after another.
use Rattle.std.proofs.Common.{◌≡◌, ℕ, zero, suc, ◌+◌, ◌<◌, ◌⊎◌, List, [], ◌∷◌, ◌++◌, length, get_or, set, map, take, inl, inr, sym, ap, subst, ◌∙◌, refl, arith, ⊎_elim, length-set}
use Rattle.std.proofs.lemmas.Bool.{cases_eq}
use Rattle.std.proofs.lemmas.List.{get_or-set_same, get_or-set_other, map_more}
use Rattle.live_flow.specs.declared.row.LiveRow.{LiveRow}
use Rattle.live_flow.specs.Live.{ways, NextAreStarts, IsAmong}
use Rattle.live_flow.specs.Links.{HasLinks, AddsLinks, LinksBelow}
use Rattle.live_flow.proofs.Among.{among_left, among_last, among_split}

pub none_more : (xs : List (List ℕ)) → ((k : ℕ) → get_or xs k [] ≡ []) → (k : ℕ) → get_or (xs ++ [] ∷ []) k [] ≡ []
none_more [] h zero = refl
none_more [] h (suc k) = refl
none_more (x ∷ xs) h zero = h 0
none_more (x ∷ xs) h (suc k) = none_more xs (λ j. h (suc j)) k

pub adds_none : (p : ℕ) (old : List (List ℕ)) → AddsLinks [] p old old
adds_none p old = record { each = refl; comes = λ i q h. inl h; stays = λ i q h. h; added = λ i l h. absurd h }

pub adds_more : (to : List ℕ) (p at : ℕ) (old mid new : List (List ℕ)) → at < length mid → new ≡ set mid at (get_or mid at [] ++ p ∷ []) → AddsLinks to p old mid → AddsLinks (to ++ at ∷ []) p old new
adds_more to p at old mid new l is h =
    let more : List ℕ = get_or mid at [] ++ p ∷ [] in
    let same : get_or new at [] ≡ more = ap (λ t. get_or t at []) is ∙ get_or-set_same mid at more [] l in
    let other : (i : ℕ) → (i ≡ at → ⊥) → get_or new i [] ≡ get_or mid i [] = λ i ne. ap (λ t. get_or t i []) is ∙ get_or-set_other mid at i more [] ne in
    let n : length new ≡ length mid = ap length is ∙ length-set mid at more in
    let long = h.each in
    record {
      each = n ∙ h.each;
      comes = λ i q t. let P : List ℕ → Type 0 = λ xs. IsAmong xs q in ⊎_elim
          (λ e. ⊎_elim
          (λ was. ⊎_elim (λ o. inl o) (λ z. inr (z.0, among_left to (at ∷ []) i z.1)) (h.comes i q (subst (λ j. HasLinks mid j q) (sym e) was)))
          (λ own. inr (sym own, subst (λ j. IsAmong (to ++ at ∷ []) j) (sym e) (among_last to at)))
          (among_split (get_or mid at []) p q (subst P (ap (λ j. get_or new j []) e ∙ same) t)))
          (λ ne. ⊎_elim (λ o. inl o) (λ z. inr (z.0, among_left to (at ∷ []) i z.1)) (h.comes i q (subst P (other i ne) t)))
          (cases_eq i at);
      stays = λ i q t. let P : List ℕ → Type 0 = λ xs. IsAmong xs q in ⊎_elim
          (λ e. subst P (sym (ap (λ j. get_or new j []) e ∙ same)) (among_left (get_or mid at []) (p ∷ []) q (subst (λ j. HasLinks mid j q) e (h.stays i q t))))
          (λ ne. subst P (sym (other i ne)) (h.stays i q t))
          (cases_eq i at);
      added = λ i k t. let P : List ℕ → Type 0 = λ xs. IsAmong xs p in ⊎_elim
          (λ e. subst P (sym (ap (λ j. get_or new j []) e ∙ same)) (among_last (get_or mid at []) p))
          (λ ne. subst P (sym (other i ne)) (h.added i k (⊎_elim (λ a. a) (λ z. absurd (ne (sym z))) (among_split to at i t))))
          (cases_eq i at);
    }

-- one known exit of a row more
pub row_more : (f : ℕ → ℕ) (next slice : List ℕ) (k p at : ℕ) (old mid new : List (List ℕ)) → slice ≡ next → k < length slice → at ≡ f (get_or slice k 0) → at < length mid → new ≡ set mid at (get_or mid at [] ++ p ∷ []) → AddsLinks (map f (take k next)) p old mid → AddsLinks (map f (take (k + 1) next)) p old new
row_more f next slice k p at old mid new s l e m is h =
    let n = ap length s in
    let more = map_more f next k 0 (omega arith) in
    let a : at ≡ f (get_or next k 0) = e ∙ ap (λ t. f (get_or t k 0)) s in
    let P : List ℕ → Type 0 = λ t. AddsLinks t p old new in
    subst P (ap (λ x. map f (take k next) ++ x ∷ []) a ∙ sym more) (adds_more (map f (take k next)) p at old mid new m is h)

pub links_none : (rows : List LiveRow) (links : List (List ℕ)) → length links ≡ length rows → ((i : ℕ) → get_or links i [] ≡ []) → LinksBelow rows 0 links
links_none rows links e h = record {
  each = e;
  sound = λ i p t. let P : List ℕ → Type 0 = λ xs. IsAmong xs p in absurd (subst P (h i) t);
  complete = λ i p l k t. absurd (omega arith);
}

pub links_more : (rows : List LiveRow) (n : ℕ) (old new : List (List ℕ)) → AddsLinks (ways rows n) n old new → LinksBelow rows n old → LinksBelow rows (n + 1) new
links_more rows n old new a h =
    let old_long = h.each in
    let new_long = a.each in
    record {
      each = a.each ∙ h.each;
      sound = λ i p t. ⊎_elim
          (λ o. let z = h.sound i p o in let l : p < n = z.0 in (omega arith, z.1))
          (λ z. let e : p ≡ n = z.0 in (omega arith, subst (λ q. IsAmong (ways rows q) i) (sym e) z.1))
          (a.comes i p t);
      complete = λ i p l k t. ⊎_elim
          (λ e. subst (λ q. HasLinks new i q) (sym e) (a.added i (omega arith) (subst (λ q. IsAmong (ways rows q) i) e t)))
          (λ ne. a.stays i p (h.complete i p l (omega arith) t))
          (cases_eq p n);
    }
