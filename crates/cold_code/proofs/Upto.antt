-- A sequence of items that is put part by part.
use Rattle.std.proofs.Common.{◌≡◌, ◌++◌, [], List, refl, sym, subst, ap, ◌∙◌, append_assoc}
use Rattle.std.proofs.lemmas.List.{append-nil}
use Rattle.ia_encode.specs.declared.item.Item.{Item}
use Rattle.fall_stubs.specs.Exchange.{Grew}
use Rattle.fall_stubs.proofs.Parts.{grew_whole, grew_more, grew_wider}

-- a front part of all was put, and the rest is to come
pub record Upto (old cur all rest : List Item) : Type 0 where
  pub front : List Item
  pub is : cur ≡ old ++ front
  pub whole : all ≡ front ++ rest

pub upto_none : (old all : List Item) → Upto old old all all
upto_none old all = record { front = []; is = sym (append-nil old); whole = refl }

pub upto_more : (old cur new all part rest : List Item) → Upto old cur all (part ++ rest) → new ≡ cur ++ part → Upto old new all rest
upto_more old cur new all part rest u e = record {
  front = u.front ++ part;
  is = e ∙ ap (λ x. x ++ part) u.is ∙ append_assoc old u.front part;
  whole = u.whole ∙ sym (append_assoc u.front part rest);
}

-- the rest in another form
pub upto_as : (old cur all rest other : List Item) → Upto old cur all rest → rest ≡ other → Upto old cur all other
upto_as old cur all rest other u e = let P : List Item → Type 0 = λ r. Upto old cur all r in subst P e u

pub upto_ok : (old cur new all rest : List Item) → Upto old cur all rest → new ≡ cur ++ rest → new ≡ old ++ all
upto_ok old cur new all rest u e = e ∙ ap (λ x. x ++ rest) u.is ∙ append_assoc old u.front rest ∙ ap (λ x. old ++ x) (sym u.whole)

pub upto_done : (old cur all : List Item) → Upto old cur all [] → cur ≡ old ++ all
upto_done old cur all u = u.is ∙ ap (λ x. old ++ x) (sym (u.whole ∙ append-nil u.front))

pub grew_as : (old new all other : List Item) → all ≡ other → Grew old new other → Grew old new all
grew_as old new all other e g = let P : List Item → Type 0 = λ r. Grew old new r in subst P (sym e) g

-- a front part of the rest, or of its first part, is one of all
pub upto_grew : (old cur new all rest : List Item) → Upto old cur all rest → Grew cur new rest → Grew old new all
upto_grew old cur new all rest u g = grew_as old new all (u.front ++ rest) u.whole (grew_more old cur new u.front rest u.is g)

pub upto_grew_part : (old cur new all part rest : List Item) → Upto old cur all (part ++ rest) → Grew cur new part → Grew old new all
upto_grew_part old cur new all part rest u g = upto_grew old cur new all (part ++ rest) u (grew_wider cur new part rest g)

-- nothing more
pub upto_same : (old cur new all rest : List Item) → Upto old cur all rest → new ≡ cur → Grew old new all
upto_same old cur new all rest u e = grew_as old new all (u.front ++ rest) u.whole (grew_whole old new u.front rest (e ∙ u.is))
