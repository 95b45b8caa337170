-- The columns of edges, as a map.
use Rattle.std.proofs.Common.{◌≡◌, ℕ, true, false, Option, Some, inl, inr, refl, ap, sym, ◌∙◌}
use Rattle.std.proofs.lemmas.Bool.{cases_Bool}
use Rattle.std.proofs.lemmas.Map.Lookups.{exact_unsigned, exact_pairs}
use Rattle.std.proofs.lemmas.Cmp.{tied_itself, nat_cmp_total}
use Rattle.std.specs.declared.cmp.Ordering.{Ordering}
use Rattle.std.specs.declared.cmp.Ordering.TheVariants.{Less, Equal, Greater}
use Rattle.std.specs.Ordering.{is_eq, nat_cmp}
use Rattle.std.specs.BTreeMap.{BTreeMap, Updates}
use Rattle.trace_file.specs.Edges.{Edge}
use Rattle.trace_set.specs.Rows.{edge_cmp, column_of}

equal_of : (o : Ordering) → is_eq o ≡ true → o ≡ Equal
equal_of Less h = absurd (cc)
equal_of Equal h = refl
equal_of Greater h = absurd (cc)

pub one_key : (a b : Edge) → is_eq (edge_cmp a b) ≡ true → a ≡ b
one_key a b h = exact_pairs nat_cmp nat_cmp exact_unsigned exact_unsigned a b (equal_of (edge_cmp a b) h)

pub key_itself : (a : Edge) → is_eq (edge_cmp a a) ≡ true
key_itself a = rw (tied_itself nat_cmp_total a.0, tied_itself nat_cmp_total a.1) refl

pub is_key : (a b : Edge) → a ≡ b → is_eq (edge_cmp a b) ≡ true
is_key a b h = ap (λ (x : Edge). is_eq (edge_cmp a x)) (sym h) ∙ key_itself a

other_key : (a b : Edge) → (a ≡ b → ⊥) → is_eq (edge_cmp a b) ≡ false
other_key a b n = elim (cases_Bool (is_eq (edge_cmp a b))) [ inl t ↦ absurd (n (one_key a b t)) | inr f ↦ f ]

pub elsewhere : (m n : BTreeMap Edge ℕ) (k : Edge) (w : Option ℕ) → Updates edge_cmp m n k w → (q : Edge) → (k ≡ q → ⊥) → column_of n q ≡ column_of m q
elsewhere m n k w h q apart = h.2 q (other_key k q apart)

pub some_is : (a b : ℕ) → ◌≡◌ {A = Option ℕ} (Some a) (Some b) → a ≡ b
some_is a b h = cc
