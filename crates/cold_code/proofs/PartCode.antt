-- Parts of code: their encodings, labels and sizes, joined.
use Rattle.std.proofs.Common.{◌≡◌, ℕ, ◌+◌, ◌≤◌, Bool, true, false, List, [], ◌∷◌, ◌++◌, map, Option, Some, None, refl, sym, subst, arith}
use Rattle.std.specs.Prelude.{IsTrue, ◌&&◌}
use Rattle.std.proofs.lemmas.Bool.{ne_eqb}
use Rattle.ia_inst.specs.declared.inst.Inst.{Inst}
use Rattle.ia_inst.specs.Canonical.{valid_of}
use Rattle.ia_inst.proofs.Written.{canonical_short}
use Rattle.ia_encode.specs.declared.item.Dest.{Dest}
use Rattle.ia_encode.specs.declared.item.Item.{Item}
use Rattle.ia_encode.specs.declared.item.Item.TheVariants as item
use Rattle.ia_encode.specs.Items.{AreValid, AreDistinct, IsCondition, Lacks, size_of_items}
use Rattle.par_moves.specs.Homes.{register_homes}
use Rattle.fall_stubs.specs.Exchange.{capture_items, capture_code, restore_items, restore_rest, closing_items}

-- each label is one of these
abbrev pub AllLabels : (ℕ → Type 0) → List Item → Type 0
AllLabels P [] = Unit {0}
AllLabels P (item.Label l ∷ is) = P l × AllLabels P is
AllLabels P (item.Inst i ∷ is) = AllLabels P is
AllLabels P (item.Byte b ∷ is) = AllLabels P is
AllLabels P (item.Jump c d ∷ is) = AllLabels P is

abbrev pub NoLabel : ℕ → Type 0
NoLabel l = ⊥

labels_append : (P : ℕ → Type 0) (is js : List Item) → AllLabels P is → AllLabels P js → AllLabels P (is ++ js)
labels_append P [] js v w = w
labels_append P (item.Label l ∷ is) js v w = (v.0, labels_append P is js v.1 w)
labels_append P (item.Inst i ∷ is) js v w = labels_append P is js v w
labels_append P (item.Byte b ∷ is) js v w = labels_append P is js v w
labels_append P (item.Jump c d ∷ is) js v w = labels_append P is js v w

labels_wider : (P Q : ℕ → Type 0) → ((l : ℕ) → P l → Q l) → (is : List Item) → AllLabels P is → AllLabels Q is
labels_wider P Q f [] v = tt
labels_wider P Q f (item.Label l ∷ is) v = (f l v.0, labels_wider P Q f is v.1)
labels_wider P Q f (item.Inst i ∷ is) v = labels_wider P Q f is v
labels_wider P Q f (item.Byte b ∷ is) v = labels_wider P Q f is v
labels_wider P Q f (item.Jump c d ∷ is) v = labels_wider P Q f is v

pub lacks : (P : ℕ → Type 0) (l : ℕ) → (P l → ⊥) → (is : List Item) → AllLabels P is → Lacks l is
lacks P l not [] v = tt
lacks P l not (item.Label m ∷ is) v = (ne_eqb m l (λ e. not (subst P e v.0)), lacks P l not is v.1)
lacks P l not (item.Inst i ∷ is) v = (refl, lacks P l not is v)
lacks P l not (item.Byte b ∷ is) v = (refl, lacks P l not is v)
lacks P l not (item.Jump c d ∷ is) v = (refl, lacks P l not is v)

lack_append : (l : ℕ) (is js : List Item) → Lacks l is → Lacks l js → Lacks l (is ++ js)
lack_append l [] js v w = w
lack_append l (i ∷ is) js v w = (v.0, lack_append l is js v.1 w)

valid_append : (is js : List Item) → AreValid is → AreValid js → AreValid (is ++ js)
valid_append [] js v w = w
valid_append (item.Inst i ∷ is) js v w = (v.0, valid_append is js v.1 w)
valid_append (item.Byte b ∷ is) js v w = valid_append is js v w
valid_append (item.Jump cond d ∷ is) js v w = (v.0, valid_append is js v.1 w)
valid_append (item.Label l ∷ is) js v w = valid_append is js v w

distinct_append : (P Q : ℕ → Type 0) → ((l : ℕ) → P l → Q l → ⊥) → (is js : List Item)
    → AreDistinct is → AllLabels P is → AreDistinct js → AllLabels Q js → AreDistinct (is ++ js)
distinct_append P Q apart [] js d p e q = e
distinct_append P Q apart (item.Label l ∷ is) js d p e q = (lack_append l is js d.0 (lacks Q l (apart l p.0) js q), distinct_append P Q apart is js d.1 p.1 e q)
distinct_append P Q apart (item.Inst i ∷ is) js d p e q = distinct_append P Q apart is js d p e q
distinct_append P Q apart (item.Byte b ∷ is) js d p e q = distinct_append P Q apart is js d p e q
distinct_append P Q apart (item.Jump c t ∷ is) js d p e q = distinct_append P Q apart is js d p e q

size_append : (is js : List Item) → size_of_items (is ++ js) ≡ size_of_items is + size_of_items js
size_append [] js = omega arith
size_append (i ∷ is) js = let e = size_append is js in omega (arith, e)

-- code with labels of these, of at most so many bytes
pub record Part (P : ℕ → Type 0) (is : List Item) (n : ℕ) : Type 0 where
  pub valid : AreValid is
  pub distinct : AreDistinct is
  pub labels : AllLabels P is
  pub size : size_of_items is ≤ n

pub nothing : (P : ℕ → Type 0) → Part P [] 0
nothing P = record { valid = tt; distinct = tt; labels = tt; size = omega arith }

pub at_most : (P : ℕ → Type 0) (is : List Item) (m n : ℕ) → m ≤ n → Part P is m → Part P is n
at_most P is m n l p = record { valid = p.valid; distinct = p.distinct; labels = p.labels; size = omega (arith, p.size, l) }

pub with_labels_of : (P Q : ℕ → Type 0) (is : List Item) (n : ℕ) → ((l : ℕ) → P l → Q l) → Part P is n → Part Q is n
with_labels_of P Q is n f p = record { valid = p.valid; distinct = p.distinct; labels = labels_wider P Q f is p.labels; size = p.size }

pub part_as : (P : ℕ → Type 0) (is js : List Item) (n : ℕ) → is ≡ js → Part P js n → Part P is n
part_as P is js n e p = let F : List Item → Type 0 = λ x. Part P x n in subst F (sym e) p

pub join : (P Q R : ℕ → Type 0) (is js : List Item) (m n : ℕ) → ((l : ℕ) → P l → Q l → ⊥) → ((l : ℕ) → P l → R l) → ((l : ℕ) → Q l → R l)
    → Part P is m → Part Q js n → Part R (is ++ js) (m + n)
join P Q R is js m n apart f g p q = record {
  valid = valid_append is js p.valid q.valid;
  distinct = distinct_append P Q apart is js p.distinct p.labels q.distinct q.labels;
  labels = labels_append R is js (labels_wider P R f is p.labels) (labels_wider Q R g js q.labels);
  size = omega (arith, size_append is js, p.size, q.size);
}

-- behind code without labels
pub behind : (Q : ℕ → Type 0) (is js : List Item) (m n : ℕ) → Part NoLabel is m → Part Q js n → Part Q (is ++ js) (m + n)
behind Q is js m n p q = join NoLabel Q Q is js m n (λ l x y. x) (λ l x. absurd x) (λ l y. y) p q

pub inst_then : (P : ℕ → Type 0) (i : Inst) (js : List Item) (n : ℕ) → IsTrue (valid_of i) → Part P js n → Part P (item.Inst i ∷ js) (15 + n)
inst_then P i js n v p = record { valid = (v, p.valid); distinct = p.distinct; labels = p.labels; size = omega (arith, canonical_short i, p.size) }

pub jump_then : (P : ℕ → Type 0) (cond : Option ℕ) (d : Dest) (js : List Item) (n : ℕ) → IsCondition cond → Part P js n → Part P (item.Jump cond d ∷ js) (6 + n)
jump_then P cond d js n v p = record { valid = (v, p.valid); distinct = p.distinct; labels = p.labels; size = longer cond }
  where
    longer : (cond : Option ℕ) → size_of_items (item.Jump cond d ∷ js) ≤ 6 + n
    longer None = omega (arith, p.size)
    longer (Some c) = omega (arith, p.size)

pub label_then : (P R : ℕ → Type 0) (l : ℕ) (js : List Item) (n : ℕ) → (P l → ⊥) → R l → ((k : ℕ) → P k → R k) → Part P js n → Part R (item.Label l ∷ js) n
label_then P R l js n not r f p = record { valid = p.valid; distinct = (lacks P l not js p.labels, p.distinct); labels = (r, labels_wider P R f js p.labels); size = omega (arith, p.size) }

-- ---- instructions alone

all_valid : List Inst → Bool
all_valid [] = true
all_valid (i ∷ is) = valid_of i && all_valid is

pub first_true : (x y : Bool) → (x && y) ≡ true → x ≡ true
first_true true y e = refl
first_true false y e = e

second_true : (x y : Bool) → (x && y) ≡ true → y ≡ true
second_true true y e = e
second_true false y e = cc

puts_valid : (is : List Inst) → all_valid is ≡ true → AreValid (map item.Inst is)
unfolding all_valid
puts_valid [] e = tt
puts_valid (i ∷ is) e = (first_true (valid_of i) (all_valid is) e, puts_valid is (second_true (valid_of i) (all_valid is) e))

pub capture_part : Part NoLabel (capture_items register_homes) 101
unfolding all_valid
capture_part = record { valid = puts_valid (capture_code register_homes) refl; distinct = tt; labels = tt; size = omega arith }

pub closing_part : (next : Dest) → Part NoLabel (closing_items register_homes next) 107
closing_part next = behind NoLabel (capture_items register_homes) (item.Jump None next ∷ []) 101 6 capture_part (jump_then NoLabel None next [] 0 tt (nothing NoLabel))

pub restore_part : (label : ℕ) → Part (λ l. l ≡ label) (restore_items label) 118
unfolding all_valid
restore_part label = record {
  valid = (refl, (refl, (refl, (omega arith, (refl, puts_valid restore_rest refl)))));
  distinct = (lacks NoLabel label (λ x. x) (map item.Inst restore_rest) tt, tt);
  labels = (refl, tt);
  size = omega arith;
}
